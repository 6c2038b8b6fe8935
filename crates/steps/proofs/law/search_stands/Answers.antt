use Rattle.std.proofs.Common.{arith}
use Rattle.steps.specs.Ring.{ring}
use Rattle.steps.proofs.SearchFacts.{search_law}
use Rattle.steps.proofs.law.search_stands.Goals as goal

pub returns : goal.returns
returns c = search_law (ring c.args.config) (omega arith)
