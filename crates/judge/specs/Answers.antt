-- What the judge answers, where segments have k slots, there are n of them, and m working rows are lent.
use Rattle.std.specs.Prelude.{◌≡◌, ℕ, ◌≤◌, List, ◌∷◌, Ok, Err, Result}
use Rattle.history.specs.Asked.{history_questions}
use Rattle.history.specs.Limits.{cleared, SegmentFits}
use Rattle.history.specs.Questions.{Question, AllYes, FirstNo}
use Rattle.history.specs.Refusals.{refusal_number, Names}
use Rattle.history.specs.declared.event.Event.{Event}
use Rattle.history.specs.declared.refusal.Refusal.{Refusal}
use Rattle.judge.specs.Rows.{blank}
use Rattle.judge.specs.Verdicts.{Judged}
use Rattle.judge.specs.declared.row.Row.{Row}
use Rattle.judge.specs.declared.verdict.Verdict.{Verdict}

abbrev pub SegmentsFit : ℕ → Type 0
SegmentsFit n = (2 ≤ n) × (n ≤ 64)

-- the questions, in their order: each with the number of its refusal
abbrev pub judge_questions : ℕ → ℕ → List Event → ℕ → List Question
judge_questions k n h m =
    record { asks = SegmentFits k; number = 1 }
    ∷ (record { asks = SegmentsFit n; number = 2 }
    ∷ history_questions h m)

-- a verdict where all are answered yes, else the refusal of the first that is answered no
abbrev pub Answered : ℕ → ℕ → List Event → ℕ → Result Verdict Refusal → Type 0
Answered k n h m (Ok v) = AllYes (judge_questions k n h m) × Judged k n h v
Answered k n h m (Err r) = FirstNo (judge_questions k n h m) (refusal_number r) × Names h r

-- the rows in use are blank after a verdict; after a refusal the rows are as they were
abbrev pub RowsLeft : List Row → List Row → Result Verdict Refusal → Type 0
RowsLeft rows rows' (Ok v) = rows' ≡ cleared blank rows
RowsLeft rows rows' (Err r) = rows' ≡ rows
