-- What a table of the threads' last events holds before event i, and the calls in flight that it tells of.
use Rattle.std.specs.Prelude.{◌≡◌, ℕ, suc, ◌-◌, ◌<◌, cond, ◌||◌, List, Some, None, Option, ◌==◌, slice_index_or}
use Rattle.history.specs.Events.{event_at, kind_at}
use Rattle.history.specs.Calls.{last_event, puts_before}
use Rattle.history.specs.declared.event.Event.{Event}
use Rattle.history.specs.declared.threads.LastEvents.{LastEvents}

-- one more than a position, 0 where there is none: a last event is counted so
abbrev pub mark : Option ℕ → ℕ
mark None = 0
mark (Some j) = suc j

abbrev pub LastsAre : List Event → ℕ → LastEvents → Type 0
LastsAre h i table = (t : ℕ) → t < 64 → mark (slice_index_or table.positions t None) ≡ last_event h t i

-- the table, and the number of puts begun
pub record Counted (h : List Event) (i : ℕ) (table : LastEvents) (begun : ℕ) : Type 0 where
  pub lasts : LastsAre h i table
  pub puts : begun ≡ puts_before h i

-- the number of the kind of the event with this mark, 0 where the mark is 0
abbrev pub kind_marked : List Event → ℕ → ℕ
kind_marked h m = cond (m == 0) 0 (kind_at h (m - 1))

-- the event with this mark, where it is a begin
abbrev pub call_begun : List Event → ℕ → Option Event
call_begun h m = cond (kind_marked h m == 1 || kind_marked h m == 2) (Some (event_at h (m - 1))) None
