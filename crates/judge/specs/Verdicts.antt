-- Verdicts on a history, where segments have k slots and there are n of them.
use Rattle.std.specs.Prelude.{ℕ, ◌<◌, List, length}
use Rattle.history.specs.Faults.{Clean, Lowest}
use Rattle.history.specs.declared.event.Event.{Event}
use Rattle.judge.specs.Faults.{fault_number}
use Rattle.judge.specs.declared.verdict.Verdict.{Verdict}
use Rattle.judge.specs.declared.verdict.Verdict.TheVariants.{Sound, Fault}

-- 0 of a sound history, else the number of the fault
abbrev pub verdict_number : Verdict → ℕ
verdict_number Sound = 0
verdict_number (Fault f e) = fault_number f

-- no event shows a fault; or e is the first that shows one, and f the lowest that it shows
abbrev pub Judged : ℕ → ℕ → List Event → Verdict → Type 0
Judged k n h Sound = (i : ℕ) → i < length h → Clean k n h i
Judged k n h (Fault f e) = (e < length h) × (Lowest k n h (fault_number f) e × ((i : ℕ) → i < e → Clean k n h i))
