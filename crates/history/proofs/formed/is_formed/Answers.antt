-- The count of puts does not pass the position of the event.
use Rattle.std.proofs.Common.{arith}
use Rattle.history.specs.Events.{is}
use Rattle.history.proofs.Positions.{count_le}
use Rattle.history.proofs.formed.is_formed.Goals as goal

pub overflow_add-result : goal.overflow_add-result
overflow_add-result c = omega (arith, count_le (is 1 c.args.history.now) c.args.i)
