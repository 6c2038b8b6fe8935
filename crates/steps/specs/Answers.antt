-- The numbers of the answers.
use Rattle.std.specs.Prelude.{ℕ}
use Rattle.steps.specs.declared.answer.Answer.{Answer}
use Rattle.steps.specs.declared.answer.Answer.TheVariants.{Accepted, Full, Item, Empty}

-- the number of each answer, with the item that it carries, else 0
abbrev pub answer_number : Answer ℕ → ℕ × ℕ
answer_number Accepted = (3, 0)
answer_number Full = (4, 0)
answer_number (Item x) = (5, x)
answer_number Empty = (6, 0)
