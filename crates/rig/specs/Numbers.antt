-- The numbers of what a step and a collect answer.
use Rattle.std.specs.Prelude.{ℕ, Some, None, Option}
use Rattle.steps.specs.Answers.{answer_number}
use Rattle.steps.specs.Calls.{answer_of}
use Rattle.steps.specs.declared.answer.Answer.{Answer}
use Rattle.steps.specs.declared.call.Call.{Call}
use Rattle.rig.specs.declared.progress.Progress.{Progress}
use Rattle.rig.specs.declared.progress.Progress.TheVariants.{Flat, Going, Ended}

-- flat 0, going 1, and the number of the answer that ended the call, with the item that it carries, else 0
abbrev pub progress_number : Progress → ℕ × ℕ
progress_number Flat = (0, 0)
progress_number Going = (1, 0)
progress_number (Ended a) = answer_number a

abbrev pub told_by : Option (Answer ℕ) → ℕ × ℕ
told_by None = (1, 0)
told_by (Some a) = answer_number a

-- what a step says that led to this call
abbrev pub told : Call → ℕ × ℕ
told c = told_by (answer_of c)
