-- What the laws of a memory come to, at every place alike.
use Rattle.std.specs.Prelude.{◌≡◌, ℕ, ◌≤◌, true, false, ◌≢◌, ◌↔◌, length, Some, None}
use Rattle.memory.specs.declared.place.Place.{Place}
use Rattle.memory.specs.declared.place.Place.TheVariants.{Slot, Head, Tail}
use Rattle.memory.specs.Mem.{Mem}
use Rattle.memory.specs.Tags.{may_rise, raised}
use Rattle.memory.specs.Laws.{cleared, looked, agrees, swapped}

-- the place is a slot outside the count
abbrev pub Outside : Mem → Place → Type 0
Outside m (Slot i) = length m.slots ≤ i
Outside m Head = ⊥
Outside m Tail = ⊥

-- the place holds this tag and this number
abbrev pub Holds : Mem → Place → ℕ → ℕ → Type 0
Holds m at tag number = looked m at ≡ Some (tag, number)

pub record Consequences : Type 0 where
  -- a read sees nothing exactly outside the count
  pub unseen : (m : Mem) (at : Place) → (looked m at ≡ None) ↔ Outside m at
  -- what all reads see is all that a memory holds
  pub seen : (m n : Mem) → ((at : Place) → looked m at ≡ looked n at) → m ≡ n
  -- after a clear every place that is there holds tag 0 and number 0
  pub after_clear : (m : Mem) (at : Place) → (Outside m at → ⊥) → Holds (cleared m) at 0 0
  -- a swap says yes exactly where the place holds the expected tag and that may rise
  pub says_yes : (m : Mem) (at : Place) (e : ℕ) → (agrees m at e ≡ true) ↔ ((number : ℕ) × (Holds m at e number × (may_rise e ≡ true)))
  -- after a yes the place holds the new number, with its tag raised
  pub after_yes : (m : Mem) (at : Place) (e v : ℕ) → agrees m at e ≡ true → Holds (swapped m at e v) at (raised e) v
  -- after a no all stays
  pub after_no : (m : Mem) (at : Place) (e v : ℕ) → agrees m at e ≡ false → swapped m at e v ≡ m
  -- whatever it says, no other place changes
  pub others : (m : Mem) (at other : Place) (e v : ℕ) → other ≢ at → looked (swapped m at e v) other ≡ looked m other
  -- neither a swap nor a clear changes the count
  pub count_stays : (m : Mem) (at : Place) (e v : ℕ) → (length (swapped m at e v).slots ≡ length m.slots) × (length (cleared m).slots ≡ length m.slots)
