use Rattle.std.proofs.Common.{ℕ, ◌<◌}
use Rattle.window.specs.Law.{Stands}
use Rattle.window.specs.Places.{content, queue}
use Rattle.replay.proofs.play.place_of.Given as goal

abbrev pub invariant-loop-i : goal.invariant-loop-i
invariant-loop-i l = (j : ℕ) → j < l.i → Stands ℕ (queue (content l.waiting)) j l.item → ⊥
