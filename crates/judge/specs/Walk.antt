-- Walks over the acceptances of a history.
use Rattle.std.specs.Prelude.{◌≡◌, ℕ, suc, ◌+◌, ◌-◌, ◌<◌, ◌≤◌, Bool, true, false, cond, not, ◌&&◌, List, length, Some, None, Option, slice_index_or}
use Rattle.history.specs.Positions.{count_below}
use Rattle.history.specs.Events.{item_at, is}
use Rattle.history.specs.Calls.{puts_before}
use Rattle.history.specs.WellFormed.{Formed}
use Rattle.history.specs.Items.{accepted}
use Rattle.history.specs.Limits.{Short}
use Rattle.history.specs.declared.event.Event.{Event}
use Rattle.judge.specs.Rows.{blank}
use Rattle.judge.specs.State.{holds}
use Rattle.judge.specs.declared.row.Row.{Row}

-- event q accepted an item that the rows have as not handed out
abbrev pub free : List Event → List Row → ℕ → Bool
free h rows q = is 3 h q && not (slice_index_or rows (item_at h q - 1) blank).handed

-- a row with one more pass
abbrev pub bumped : Row → Row
bumped r = record { began = r.began; passes = r.passes + 1; accepted = r.accepted; refused = r.refused; handed = r.handed }

-- the row of x where the items accepted before event q, and not handed out, are passed once more
abbrev pub passed : List Event → ℕ → Row → ℕ → Row
passed h q r x = cond (accepted h q x && not r.handed) (bumped r) r

-- a walk that passes items: from event `from`, before which there is none to pass, to before event `to`
pub record Walk (k : ℕ) (h : List Event) (rows : List Row) (from to : ℕ) : Type 0 where
  pub short : Short h
  pub within : to ≤ length h
  pub formed : Formed h
  pub fit : puts_before h (length h) ≤ length rows
  pub none_older : (q : ℕ) → q < from → free h rows q ≡ false
  pub few : (q : ℕ) → q < to → free h rows q ≡ true → (slice_index_or rows (item_at h q - 1) blank).passes < k

-- what it answers: nothing where some item is now passed k times, else how many items it passed, once each
abbrev pub Walked : ℕ → List Event → ℕ → List Row → List Row → Option ℕ → Type 0
Walked k h to rows rows' None = (q : ℕ) × ((q < to) × ((free h rows q ≡ true) × (k ≤ (slice_index_or rows (item_at h q - 1) blank).passes + 1)))
Walked k h to rows rows' (Some c) =
    (c ≡ count_below (free h rows) to)
    × (((m : ℕ) → m < length rows → slice_index_or rows' m blank ≡ passed h to (slice_index_or rows m blank) (suc m))
    × ((q : ℕ) → q < to → free h rows q ≡ true → (slice_index_or rows (item_at h q - 1) blank).passes + 1 < k))

-- r is the first acceptance of a held item, or i where there is none
pub record First (h : List Event) (i r : ℕ) : Type 0 where
  pub le : r ≤ i
  pub none_older : (q : ℕ) → q < r → holds h i q ≡ false
  pub holds_there : r < i → holds h i r ≡ true
