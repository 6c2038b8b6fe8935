-- What is reported of a stored history.
use Rattle.std.specs.Prelude.{◌≡◌, ℕ, List, length, Some, None, Ok, Err, Result}
use Rattle.history.specs.Asked.{history_questions}
use Rattle.history.specs.Calls.{Apart}
use Rattle.history.specs.Limits.{most, SegmentFits}
use Rattle.history.specs.Questions.{Question, AllYes, FirstNo}
use Rattle.history.specs.Refusals.{refusal_number, Names}
use Rattle.history.specs.declared.event.Event.{Event}
use Rattle.history.specs.declared.refusal.Refusal.{Refusal}
use Rattle.judge.specs.Answers.{judge_questions}
use Rattle.judge.specs.Verdicts.{Judged}
use Rattle.replay.specs.Answer.{Replays}
use Rattle.text.specs.Lines.{lines}
use Rattle.stored.specs.Input.{Holds, BadInput}
use Rattle.stored.specs.declared.fault.Fault.{Fault}
use Rattle.stored.specs.declared.fault.Fault.TheVariants.{Bad, Refused, Memory}
use Rattle.stored.specs.declared.report.Replay.{Replay}
use Rattle.stored.specs.declared.report.Replay.TheVariants.{Whole, Stops, Overlap}
use Rattle.stored.specs.declared.report.Report.{Report}

-- what the replay tells of a history
abbrev pub Tells : ℕ → List Event → Replay → Type 0
Tells k h Whole = Apart h (length h) × Replays k h None
Tells k h (Stops e) = Apart h (length h) × Replays k h (Some e)
Tells k h Overlap = Apart h (length h) → ⊥

abbrev pub ReplayGiven : ℕ → List Event → ℕ → Result Replay Refusal → Type 0
ReplayGiven k h rows (Ok a) = SegmentFits k × (AllYes (history_questions h rows) × Tells k h a)
ReplayGiven k h rows (Err r) = (SegmentFits k → FirstNo (history_questions h rows) (refusal_number r)) × Names h r

-- the questions before a report: those of the judge, with as many rows as are ever used
abbrev pub report_questions : ℕ → ℕ → List Event → List Question
report_questions k n h = judge_questions k n h most

-- the history that the input writes, with its report
pub record Tale (input : List ℕ) (r : Report) : Type 0 where
  pub k : ℕ
  pub segments : ℕ
  pub history : List Event
  pub held : Holds input k segments history
  pub all_yes : AllYes (report_questions k segments history)
  pub counted : r.events ≡ length history
  pub judged : Judged k segments history r.verdict
  pub replayed : Tells k history r.replay

-- the history that the input writes, refused
pub record Declined (input : List ℕ) (r : Refusal) : Type 0 where
  pub k : ℕ
  pub segments : ℕ
  pub history : List Event
  pub held : Holds input k segments history
  pub first_no : FirstNo (report_questions k segments history) (refusal_number r)
  pub names : Names history r

abbrev pub Reported : List ℕ → Result Report Fault → Type 0
Reported input (Ok r) = Tale input r
Reported input (Err (Bad bad)) = BadInput (lines input) bad
Reported input (Err (Refused r)) = Declined input r
Reported input (Err Memory) = Unit {0}
