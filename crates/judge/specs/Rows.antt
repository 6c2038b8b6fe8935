-- What the working rows hold before event i: the row m is of the item m + 1.
use Rattle.std.specs.Prelude.{◌≡◌, ℕ, zero, suc, ◌<◌, false, List, length, Some, None, Option, slice_index_or}
use Rattle.history.specs.Positions.{count_below, last_below}
use Rattle.history.specs.Events.{tells}
use Rattle.history.specs.Items.{accepted, refused_as_full, handed_out, passes}
use Rattle.history.specs.declared.event.Event.{Event}
use Rattle.judge.specs.declared.row.Row.{Row}

abbrev pub blank : Row
blank = record { began = None; passes = 0; accepted = false; refused = false; handed = false }

-- a position, from one more than it; none from 0
abbrev pub position : ℕ → Option ℕ
position zero = None
position (suc p) = Some p

-- the row of the item x
abbrev pub row_of : List Event → ℕ → ℕ → Row
row_of h i x = record {
  began = position (last_below (tells 1 h x) i);
  passes = count_below (passes h x) i;
  accepted = accepted h i x;
  refused = refused_as_full h i x;
  handed = handed_out h i x;
}

abbrev pub RowsAre : List Event → ℕ → List Row → Type 0
RowsAre h i rows = (m : ℕ) → m < length rows → slice_index_or rows m blank ≡ row_of h i (suc m)
