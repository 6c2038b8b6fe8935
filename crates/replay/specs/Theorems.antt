-- Theorems about the replay's answer.
use Rattle.std.specs.Prelude.{◌≡◌, ℕ, List, Option, Result}
use Rattle.history.specs.declared.event.Event.{Event}
use Rattle.history.specs.declared.refusal.Refusal.{Refusal}
use Rattle.replay.specs.Answer.{Answered}

-- at most one answer meets the replay's contract
abbrev pub OneAnswer : Type 0
OneAnswer = (k : ℕ) (h : List Event) (m : ℕ) (r s : Result (Option ℕ) Refusal) → Answered k h m r → Answered k h m s → r ≡ s
