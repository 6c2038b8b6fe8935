use Rattle.std.proofs.Common.{◌+◌}
use Rattle.window.specs.Places.{content}
use Rattle.replay.specs.Playing.{Playing}
use Rattle.replay.proofs.replay.feed.Given as goal

abbrev pub invariant-loop-ahead : goal.invariant-loop-ahead
invariant-loop-ahead l = Playing (content l.initial.waiting).k l.history l.i (l.fed + l.ahead) (content l.waiting)
