-- The numbers of the refusals: each is the number of the question that was answered no.
use Rattle.std.specs.Prelude.{◌≡◌, ℕ, List, Some, None, Ok, Err, decimal, Option, Result}
use Rattle.rig.specs.declared.refusal.Refusal.{Refusal}
use Rattle.rig.specs.declared.refusal.Refusal.TheVariants.{TooFewSlots, NoSuchThread, NotIdle, NoEntry, NoRow, NoCallInFlight, TooManySteps, NotPresentCall, NotAnswered}

abbrev pub refusal_number : Refusal → ℕ
refusal_number TooFewSlots = 4
refusal_number NoSuchThread = 5
refusal_number NotIdle = 6
refusal_number NoEntry = 7
refusal_number NoRow = 8
refusal_number NoCallInFlight = 9
refusal_number TooManySteps = 10
refusal_number NotPresentCall = 11
refusal_number NotAnswered = 12

-- a refusal as text
abbrev pub refusal_text : Refusal → List ℕ
refusal_text r = decimal (refusal_number r)

-- the questions were asked: each was answered yes, or the refusal is the first no
abbrev pub Asked : {A : Type 0} → Option ℕ → Result A Refusal → Type 0
Asked first (Ok x) = first ≡ None
Asked first (Err e) = first ≡ Some (refusal_number e)
