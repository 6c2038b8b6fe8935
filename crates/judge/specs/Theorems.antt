-- Theorems about the judge's answer.
use Rattle.std.specs.Prelude.{◌≡◌, ℕ, List, Result}
use Rattle.history.specs.declared.event.Event.{Event}
use Rattle.history.specs.declared.refusal.Refusal.{Refusal}
use Rattle.judge.specs.Verdicts.{verdict_number, Judged}
use Rattle.judge.specs.Answers.{Answered}
use Rattle.judge.specs.declared.verdict.Verdict.{Verdict}
use Rattle.judge.specs.declared.verdict.Verdict.TheVariants.{Sound}

-- at most one answer meets the judge's contract
abbrev pub OneAnswer : Type 0
OneAnswer = (k n : ℕ) (h : List Event) (m : ℕ) (r s : Result Verdict Refusal) → Answered k n h m r → Answered k n h m s → r ≡ s

-- a verdict that fits a history has the number 0 exactly where it is sound
abbrev pub ZeroIsSound : Type 0
ZeroIsSound = (k n : ℕ) (h : List Event) (v : Verdict) → Judged k n h v → ((verdict_number v ≡ 0 → v ≡ Sound) × (v ≡ Sound → verdict_number v ≡ 0))
