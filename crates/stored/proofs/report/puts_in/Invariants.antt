use Rattle.std.proofs.Common.{◌≡◌}
use Rattle.history.specs.Calls.{puts_before}
use Rattle.stored.proofs.report.puts_in.Given as goal

abbrev pub invariant-loop-event : goal.invariant-loop-event
invariant-loop-event l = l.puts ≡ puts_before l.history l.event-index
