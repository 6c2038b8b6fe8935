-- The worked rows.
use Rattle.judge.specs.Table as judge
use Rattle.steps.specs.declared.answer.Answer.TheVariants.{Accepted, Full, Empty}
use Rattle.worked_rows.specs.Alone.{opened, put, take, after_steps, collected, AnswersAfter}

pub record Table : Type 0 where
  -- a fresh take alone: empty at step 5
  pub fresh_take : AnswersAfter (take opened) 4 Empty
  -- a fresh put alone: accepted at step 9
  pub fresh_put : AnswersAfter (put opened) 8 Accepted
  -- after that put, a second put: accepted at step 13
  pub second_put : AnswersAfter (put (collected (after_steps 9 (put opened)))) 12 Accepted
  -- a third: full at step 6
  pub third_put : AnswersAfter (put (collected (after_steps 13 (put (collected (after_steps 9 (put opened))))))) 5 Full
  -- the judged histories
  pub judged : judge.Table
