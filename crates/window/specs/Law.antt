-- The window queue's calls are those of the sequential specification, and no others.
use Rattle.std.specs.Prelude.{◌≡◌, ℕ, ◌-◌, ◌≤◌, ◌↔◌, length, slice_index_or}
use Rattle.window.specs.Queue.{Queue, appended, Allowed, taken}
use Rattle.window.specs.Sequential.{Enqueues, DequeuesNothing, Dequeues}

-- x stands at place i of the list, counted from 1
pub record Stands (E : Type 0) (s : Queue E) (i : ℕ) (x : E) : Type 0 where
  pub from_1 : 1 ≤ i
  pub within : i ≤ length s.q
  pub there : x ≡ slice_index_or s.q (i - 1) x

pub record FollowsSpecification (E : Type 0) (k : ℕ) : Type 0 where
  pub appends : (s t : Queue E) (x : E) → (t ≡ appended s x) ↔ Enqueues s x t
  pub takes_nothing : (s t : Queue E) → (Allowed s 0 × (t ≡ taken k s 0)) ↔ DequeuesNothing k s t
  pub takes : (s t : Queue E) (x : E) → 1 ≤ s.w → ((i : ℕ) × (Stands E s i x × (Allowed s i × (t ≡ taken k s i)))) ↔ Dequeues k s x t
  -- the window stays between 1 and k
  pub window_stays : (s : Queue E) (i : ℕ) → 1 ≤ k → (1 ≤ s.w) × (s.w ≤ k) → Allowed s i → (1 ≤ (taken k s i).w) × ((taken k s i).w ≤ k)
