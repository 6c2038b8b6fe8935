-- The faults that event i of a history can show, where segments have k slots and there are n of them.
-- An item is held from its event 3 until its event 5; one handed out before its acceptance is never held.
-- An event 5 passes every other item then held. A call is in flight from its begin to its answer.
use Rattle.std.specs.Prelude.{◌≡◌, ℕ, suc, ◌-◌, ◌*◌, ◌<◌, ◌≤◌, true, false, ◌&&◌, ◌≢◌, ◌⊎◌, List}
use Rattle.history.specs.Positions.{count_below}
use Rattle.history.specs.Events.{kind_at, thread_at, item_at}
use Rattle.history.specs.Calls.{last_event, Apart}
use Rattle.history.specs.Items.{begun, accepted, refused_as_full, handed_out, held, younger, passes, count_items}
use Rattle.history.specs.declared.event.Event.{Event}

-- At an event 5: the item's put has not begun, or was answered full, or the item was handed out before.
-- At an event 4: the item was handed out.
abbrev pub Fault1 : List Event → ℕ → Type 0
Fault1 h i =
    ((kind_at h i ≡ 5) × ((begun h i (item_at h i) ≡ false) ⊎ ((refused_as_full h i (item_at h i) ≡ true) ⊎ (handed_out h i (item_at h i) ≡ true))))
    ⊎ ((kind_at h i ≡ 4) × (handed_out h i (item_at h i) ≡ true))

-- At an event 5: some held item a has now been passed by k items, this one counted, whose puts began after a's acceptance.
abbrev pub Fault2 : ℕ → List Event → ℕ → Type 0
Fault2 k h i = (kind_at h i ≡ 5) × ((a : ℕ) × ((held h i a ≡ true) × ((a ≢ item_at h i) × (k ≤ count_below (passes h a) (suc i)))))

-- At an event 5: k or more held items were accepted before this item's put began.
abbrev pub Fault3 : ℕ → List Event → ℕ → Type 0
Fault3 k h i = (kind_at h i ≡ 5) × (k ≤ count_items h i (λ a. held h i a && younger h i a (item_at h i)))

-- the event that began the call which event i answers: the last of its thread before it
abbrev pub call_begin : List Event → ℕ → ℕ
call_begin h i = last_event h (thread_at h i) i - 1

-- At an event 6: some held item was accepted before this take began.
abbrev pub Fault4 : List Event → ℕ → Type 0
Fault4 h i = (kind_at h i ≡ 6) × ((a : ℕ) × ((held h i a ≡ true) × (accepted h (call_begin h i) a ≡ true)))

-- At an event 4: no two calls were in flight together so far, and (n - 1) * k items or fewer are held.
abbrev pub Fault5 : ℕ → ℕ → List Event → ℕ → Type 0
Fault5 k n h i = (kind_at h i ≡ 4) × (Apart h i × (count_items h i (held h i) ≤ (n - 1) * k))

-- event i shows the fault f
abbrev pub Shows : ℕ → ℕ → List Event → ℕ → ℕ → Type 0
Shows k n h f i =
    ((f ≡ 1) × Fault1 h i) ⊎ (((f ≡ 2) × Fault2 k h i) ⊎ (((f ≡ 3) × Fault3 k h i) ⊎ (((f ≡ 4) × Fault4 h i) ⊎ ((f ≡ 5) × Fault5 k n h i))))

-- it shows none
abbrev pub Clean : ℕ → ℕ → List Event → ℕ → Type 0
Clean k n h i = (f : ℕ) → Shows k n h f i → ⊥

-- f is the lowest that it shows
abbrev pub Lowest : ℕ → ℕ → List Event → ℕ → ℕ → Type 0
Lowest k n h f i = Shows k n h f i × ((g : ℕ) → g < f → Shows k n h g i → ⊥)
