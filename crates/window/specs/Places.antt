-- The queue in its places: the list stands at the front of them, and those behind it are unused.
use Rattle.std.specs.Prelude.{◌≡◌, ℕ, ◌-◌, ◌<◌, ◌≤◌, List, ◌++◌, length, take, drop, Some, None, Ok, Err, Option, Result, slice_index_or, slice_set}
use Rattle.std.specs.List.{remove}
use Rattle.window.specs.Refusals.{refusal_number}
use Rattle.window.specs.Queue.{Queue, start, appended, Allowed, taken}
use Rattle.window.specs.declared.queue.WindowQueue.{WindowQueue}
use Rattle.window.specs.declared.refusal.Refusal.{Refusal}

-- the lent places, how many of them at the front are in use, the window, and k
pub record Places (E : Type 0) : Type 0 where
  pub places : List E
  pub len : ℕ
  pub w : ℕ
  pub k : ℕ

module _ {E : Type 0} where
  abbrev pub content : WindowQueue E → Places E
  content s = record { places = s.places.now; len = s.len; w = s.window; k = s.limit.k.number }

  abbrev pub queue : Places E → Queue E
  queue c = record { q = take c.len c.places; w = c.w }

  -- an element written at an index, or refused where there is no such place
  abbrev pub Put : List E → ℕ → E → Result Unit Refusal → List E → Type 0
  Put xs at x (Ok u) ys = (at < length xs) × (ys ≡ slice_set xs at x)
  Put xs at x (Err r) ys = (length xs ≤ at) × ((refusal_number r ≡ 17) × (ys ≡ xs))

  -- a queue newly made over these places
  abbrev pub Made : List E → ℕ → Places E → Type 0
  Made places k c = (queue c ≡ start k) × ((c.places ≡ places) × (c.k ≡ k))

  -- an append, from c to d: done where a place is unused, which then holds the element, else refused
  abbrev pub Appended : Places E → E → Result Unit Refusal → Places E → Type 0
  Appended c x (Ok u) d =
      (length (queue c).q < length c.places)
      × ((queue d ≡ appended (queue c) x) × ((d.places ≡ slice_set c.places (length (queue c).q) x) × (d.k ≡ c.k)))
  Appended c x (Err r) d = (length (queue c).q ≡ length c.places) × ((refusal_number r ≡ 17) × (d ≡ c))

  -- the element at place i of a list, counted from 1
  abbrev pub Found : ℕ → List E → Option E → Type 0
  Found i q None = (1 ≤ i) × (i ≤ length q) → ⊥
  Found i q (Some x) = ((1 ≤ i) × (i ≤ length q)) × (x ≡ slice_index_or q (i - 1) x)

  -- a take at place i, from c to d: done where the place is allowed, else refused; the elements behind move one place
  -- to the front, and the place behind the last of them keeps what it held
  abbrev pub Taken : ℕ → Places E → Result (Option E) Refusal → Places E → Type 0
  Taken i c (Ok None) d =
      (i ≡ 0) × (Allowed (queue c) i × ((queue d ≡ taken c.k (queue c) i) × ((d.places ≡ c.places) × (d.k ≡ c.k))))
  Taken i c (Ok (Some x)) d =
      Found i (queue c).q (Some x) × (Allowed (queue c) i × ((queue d ≡ taken c.k (queue c) i)
      × ((d.places ≡ remove (queue c).q (i - 1) ++ drop (length (queue c).q - 1) c.places) × (d.k ≡ c.k))))
  Taken i c (Err r) d = (Allowed (queue c) i → ⊥) × ((refusal_number r ≡ 18) × (d ≡ c))
