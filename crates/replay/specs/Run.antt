-- A history as a run of the window queue. An acceptance enqueues its item, an item handed out is dequeued, an empty answer
-- dequeues nothing; begins, and puts that were answered full, are left out.
use Rattle.std.specs.Prelude.{◌≡◌, ℕ, suc, ◌<◌, List}
use Rattle.history.specs.Events.{event_at}
use Rattle.history.specs.declared.event.Event.{Event}
use Rattle.history.specs.declared.event.Kind.{Kind}
use Rattle.history.specs.declared.event.Kind.TheVariants.{PutBegun, TakeBegun, Accepted, Full, HandedOut, Empty}
use Rattle.window.specs.Queue.{Queue, start}
use Rattle.window.specs.Sequential.{Enqueues, DequeuesNothing, Dequeues}

-- what an event of this kind, with the item x, does to the queue, from s to t
abbrev pub Does : ℕ → Kind → ℕ → Queue ℕ → Queue ℕ → Type 0
Does k PutBegun x s t = t ≡ s
Does k TakeBegun x s t = t ≡ s
Does k Accepted x s t = Enqueues s x t
Does k Full x s t = t ≡ s
Does k HandedOut x s t = Dequeues k s x t
Does k Empty x s t = DequeuesNothing k s t

-- the first n events are a run of the queue of window k
pub record Run (k : ℕ) (h : List Event) (n : ℕ) : Type 0 where
  pub states : ℕ → Queue ℕ
  pub starts : states 0 ≡ start k
  pub goes : (j : ℕ) → j < n → Does k (event_at h j).kind (event_at h j).item (states j) (states (suc j))
