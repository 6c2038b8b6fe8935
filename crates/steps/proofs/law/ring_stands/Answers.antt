use Rattle.std.proofs.Common.{arith}
use Rattle.steps.specs.Ring.{ring}
use Rattle.steps.proofs.RingFacts.{ring_law}
use Rattle.steps.proofs.law.ring_stands.Goals as goal

pub returns : goal.returns
returns c = ring_law (ring c.args.config) (omega arith) (omega arith)
