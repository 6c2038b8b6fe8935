use Rattle.replay.proofs.Unique.{answered_one}
use Rattle.replay.proofs.theorems.one_answer.Goals as goal

pub returns : goal.returns
returns c = answered_one
