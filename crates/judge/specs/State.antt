-- What the judge knows before event i.
use Rattle.std.specs.Prelude.{◌≡◌, ℕ, ◌+◌, ◌<◌, ◌≤◌, Bool, true, false, ◌&&◌, List, length, Some, None, Option}
use Rattle.history.specs.Positions.{count_below}
use Rattle.history.specs.Events.{item_at, is}
use Rattle.history.specs.Tables.{LastsAre}
use Rattle.history.specs.Items.{held, passes}
use Rattle.judge.specs.Flights.{flying, together}
use Rattle.history.specs.Faults.{Clean, Lowest}
use Rattle.history.specs.declared.event.Event.{Event}
use Rattle.judge.specs.Faults.{fault_number}
use Rattle.judge.specs.declared.fault.Fault.{Fault}
use Rattle.judge.specs.Rows.{RowsAre}
use Rattle.judge.specs.declared.row.Row.{Row}
use Rattle.judge.specs.declared.seen.Seen.{Seen}
use Rattle.judge.specs.declared.flights.Flights.{Flights}
use Rattle.judge.specs.declared.judging.Judging.{Judging}

-- event q accepted an item that is held before event i
abbrev pub holds : List Event → ℕ → ℕ → Bool
holds h i q = is 3 h q && held h i (item_at h q)

-- what is known of the calls: each thread's last event, how many are in flight, and whether two ever were together
pub record FlightsAre (h : List Event) (i : ℕ) (s : Flights) : Type 0 where
  pub lasts : LastsAre h i s.last_events
  pub count_is : s.count ≡ flying h i
  pub crossed_is : s.crossed ≡ together h i

-- what is known of the items: their rows, how far back the first held one was accepted, how many are held, and that none of these was passed k times
pub record ItemsAre (k : ℕ) (h : List Event) (i : ℕ) (rows : List Row) (s : Seen) : Type 0 where
  pub rows_are : RowsAre h i rows
  pub oldest_le : s.oldest ≤ i
  pub none_older : (q : ℕ) → q < s.oldest → holds h i q ≡ false
  pub held_is : s.held ≡ count_below (holds h i) i
  pub few : (a : ℕ) → held h i a ≡ true → count_below (passes h a) i < k

-- event i is next, and this is known of the items before it
pub record Knows (j : Judging) (i : ℕ) : Type 0 where
  pub within : i < length j.history.now
  pub items : ItemsAre j.shape.k.number j.history.now i j.rows.now j.seen

-- event i shows no fault, and the judge goes on with the same history
pub record GoesOn (j j' : Judging) (i : ℕ) : Type 0 where
  pub clean : Clean j.shape.k.number j.shape.segments.number j.history.now i
  pub same_history : j'.history.now ≡ j.history.now
  pub same_shape : j'.shape ≡ j.shape
  pub items : ItemsAre j.shape.k.number j.history.now (i + 1) j'.rows.now j'.seen

-- what is answered of event i: no fault, or its lowest
abbrev pub Stepped : Judging → Judging → ℕ → Option Fault → Type 0
Stepped j j' i None = GoesOn j j' i
Stepped j j' i (Some f) = Lowest j.shape.k.number j.shape.segments.number j.history.now (fault_number f) i
