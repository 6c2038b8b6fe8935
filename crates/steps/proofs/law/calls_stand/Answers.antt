use Rattle.std.proofs.Common.{arith}
use Rattle.steps.specs.Ring.{ring}
use Rattle.steps.proofs.CallFacts.{call_law}
use Rattle.steps.proofs.law.calls_stand.Goals as goal

pub returns : goal.returns
returns c = call_law (ring c.args.config) (omega arith) (omega arith)
