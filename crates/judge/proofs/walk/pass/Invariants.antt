use Rattle.std.proofs.Common.{◌+◌}
use Rattle.judge.proofs.Walks.{Going}
use Rattle.judge.proofs.walk.pass.Given as goal

abbrev pub invariant-loop-event : goal.invariant-loop-event
invariant-loop-event l = Going l.k l.history l.initial.rows (l.start + l.event-index) l.older l.rows
