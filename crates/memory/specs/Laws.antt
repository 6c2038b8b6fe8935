-- The laws of a memory: what a clear, a read and a swap answer and leave. The count is the number of slots.
use Rattle.std.specs.Prelude.{ℕ, List, Bool, cond, ◌&&◌, length, Some, None, Option, nat_lt, slice_index_or, slice_set}
use Rattle.memory.specs.declared.place.Place.{Place}
use Rattle.memory.specs.declared.place.Place.TheVariants.{Slot, Head, Tail}
use Rattle.memory.specs.Mem.{Mem, empty}
use Rattle.memory.specs.Tags.{takes, raised}

abbrev pub cleared : Mem → Mem
cleared m = empty (length m.slots)

-- what a read of slot i sees: nothing outside the count
abbrev pub slot_looked : List (ℕ × ℕ) → ℕ → Option (ℕ × ℕ)
slot_looked slots i = cond (nat_lt i (length slots)) (Some (slice_index_or slots i (0, 0))) None

-- slot i takes a swap that expects the tag e
abbrev pub slot_agrees : List (ℕ × ℕ) → ℕ → ℕ → Bool
slot_agrees slots i e = nat_lt i (length slots) && takes (slice_index_or slots i (0, 0)) e

-- the slots after a swap of slot i that expects the tag e and brings the number v
abbrev pub slots_swapped : List (ℕ × ℕ) → ℕ → ℕ → ℕ → List (ℕ × ℕ)
slots_swapped slots i e v = cond (slot_agrees slots i e) (slice_set slots i (raised e, v)) slots

-- what a read sees
abbrev pub looked : Mem → Place → Option (ℕ × ℕ)
looked m (Slot i) = slot_looked m.slots i
looked m Head = Some m.head
looked m Tail = Some m.tail

-- the place takes a swap that expects the tag e
abbrev pub agrees : Mem → Place → ℕ → Bool
agrees m (Slot i) e = slot_agrees m.slots i e
agrees m Head e = takes m.head e
agrees m Tail e = takes m.tail e

-- a pair put at a place
abbrev pub put : Mem → Place → ℕ × ℕ → Mem
put m (Slot i) p = record { slots = slice_set m.slots i p; head = m.head; tail = m.tail }
put m Head p = record { slots = m.slots; head = p; tail = m.tail }
put m Tail p = record { slots = m.slots; head = m.head; tail = p }

-- what a swap that expects the tag e and brings the number v leaves
abbrev pub swapped : Mem → Place → ℕ → ℕ → Mem
swapped m at e v = cond (agrees m at e) (put m at (raised e, v)) m
