use Rattle.std.proofs.Common.{◌∙◌, arith}
use Rattle.std.proofs.lemmas.List.{length-take}
use Rattle.history.proofs.Filled.{cleared_front}
use Rattle.replay.proofs.replay.replay.Goals as goal

pub returns-clause-rows : goal.returns-clause-rows
returns-clause-rows c = c.clear.ensures ∙ cleared_front 0 c.args.rows.now c.run-stop.new.rows c.in_ok-used.used (omega (arith, c.in_ok-used.ensures.1)) (omega (arith, c.in_ok-used.ensures.1, length-take c.in_ok-used.used c.args.rows.now))
