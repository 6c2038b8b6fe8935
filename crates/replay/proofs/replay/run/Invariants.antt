use Rattle.window.specs.Places.{content}
use Rattle.replay.specs.Playing.{Playing}
use Rattle.replay.proofs.replay.run.Given as goal

abbrev pub invariant-loop-i : goal.invariant-loop-i
invariant-loop-i l = Playing l.fn.limit.k.number l.history l.i l.fed (content l.waiting)
