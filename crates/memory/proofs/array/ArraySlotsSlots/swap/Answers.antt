use Rattle.std.proofs.Common.{arith}
use Rattle.std.proofs.Math.Seq.{take-set-lt}
use Rattle.std.proofs.lemmas.Grind.{common_steps}
use Rattle.memory.proofs.array.ArraySlotsSlots.swap.Goals as goal

pub returns-then-index-self-clause-after : goal.returns-then-index-self-clause-after
returns-then-index-self-clause-after c = grind (arith, common_steps, take-set-lt)
