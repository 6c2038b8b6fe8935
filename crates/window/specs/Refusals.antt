-- The numbers of the window queue's refusals, and their text.
use Rattle.std.specs.Prelude.{ℕ, List, decimal}
use Rattle.window.specs.declared.refusal.Refusal.{Refusal}
use Rattle.window.specs.declared.refusal.Refusal.TheVariants.{NoPlace, NotAllowed}

abbrev pub refusal_number : Refusal → ℕ
refusal_number NoPlace = 17
refusal_number NotAllowed = 18

abbrev pub refusal_text : Refusal → List ℕ
refusal_text r = decimal (refusal_number r)
