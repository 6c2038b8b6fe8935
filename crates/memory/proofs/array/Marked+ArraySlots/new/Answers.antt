use Rattle.std.proofs.Common.{min, ap, arith}
use Rattle.memory.specs.Mem.{with_markers}
use Rattle.memory.proofs.Fronts.{first_empty}
use Rattle.memory.proofs.array.Marked+ArraySlots.new.Goals as goal

pub returns : goal.returns
returns c = ap (λ l. with_markers l (0, 0) (0, 0)) (first_empty c.min.result (min c.args.wish 64) (omega arith) (omega arith))
