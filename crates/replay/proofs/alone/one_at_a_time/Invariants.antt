use Rattle.replay.proofs.OneAtATime.{Alone}
use Rattle.replay.proofs.alone.one_at_a_time.Given as goal

abbrev pub invariant-loop-event : goal.invariant-loop-event
invariant-loop-event l = Alone l.history l.event-index l.busy
