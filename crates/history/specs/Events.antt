-- The events of a history, by their positions from 0.
use Rattle.std.specs.Prelude.{ℕ, Bool, ◌&&◌, List, ◌==◌, slice_index_or}
use Rattle.history.specs.declared.event.Kind.{Kind}
use Rattle.history.specs.declared.event.Kind.TheVariants.{PutBegun, TakeBegun, Accepted, Full, HandedOut, Empty}
use Rattle.history.specs.declared.event.Event.{Event}

-- the number of each kind
abbrev pub kind_number : Kind → ℕ
kind_number PutBegun = 1
kind_number TakeBegun = 2
kind_number Accepted = 3
kind_number Full = 4
kind_number HandedOut = 5
kind_number Empty = 6

-- what a read past the end gives; no definition looks at it
abbrev pub nothing : Event
nothing = record { kind = PutBegun; thread = 0; item = 0 }

abbrev pub event_at : List Event → ℕ → Event
event_at h j = slice_index_or h j nothing

abbrev pub kind_at : List Event → ℕ → ℕ
kind_at h j = kind_number (event_at h j).kind

abbrev pub thread_at : List Event → ℕ → ℕ
thread_at h j = (event_at h j).thread

abbrev pub item_at : List Event → ℕ → ℕ
item_at h j = (event_at h j).item

-- event j is of kind c
abbrev pub is : ℕ → List Event → ℕ → Bool
is c h j = kind_at h j == c

-- event j is of kind c and carries the item x
abbrev pub tells : ℕ → List Event → ℕ → ℕ → Bool
tells c h x j = item_at h j == x && kind_at h j == c
