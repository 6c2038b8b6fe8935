use Rattle.judge.proofs.Unique.{answered_one}
use Rattle.judge.proofs.theorems.one_answer.Goals as goal

pub returns : goal.returns
returns c = answered_one
