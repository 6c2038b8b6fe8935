use Rattle.std.proofs.Common.{◌≡◌, ℕ, ◌<◌, true}
use Rattle.history.specs.WellFormed.{formed}
use Rattle.history.specs.Tables.{Counted}
use Rattle.history.proofs.formed.puts_begun.Given as goal

abbrev pub invariant-loop-i : goal.invariant-loop-i
invariant-loop-i l = Counted l.history l.i l.threads l.begun × ((j : ℕ) → j < l.i → formed l.history j ≡ true)
