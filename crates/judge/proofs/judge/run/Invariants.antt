use Rattle.std.proofs.Common.{◌≡◌, ℕ, ◌<◌}
use Rattle.history.specs.Faults.{Clean}
use Rattle.judge.specs.State.{FlightsAre, ItemsAre}
use Rattle.judge.proofs.judge.run.Given as goal

-- the judge goes on with the same history, and no event shows a fault so far
abbrev pub invariant-loop-i : goal.invariant-loop-i
invariant-loop-i l = record {
  same_history : l.judging.history.now ≡ l.history;
  same_shape : l.judging.shape ≡ l.fn.shape;
  items : ItemsAre l.fn.shape.k.number l.history l.i l.judging.rows.now l.judging.seen;
  flights : FlightsAre l.history l.i l.flights;
  clean : (j : ℕ) → j < l.i → Clean l.fn.shape.k.number l.fn.shape.segments.number l.history j;
}
