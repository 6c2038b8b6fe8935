-- When a history is well formed.
use Rattle.std.specs.Prelude.{◌≡◌, ℕ, suc, ◌-◌, ◌<◌, Bool, true, false, not, ◌&&◌, List, length, Ok, Err, Result, ◌==◌, nat_lt}
use Rattle.history.specs.Events.{event_at, thread_at, item_at}
use Rattle.history.specs.Calls.{last_event, last_kind, in_flight, puts_before}
use Rattle.history.specs.declared.event.Kind.{Kind}
use Rattle.history.specs.declared.event.Kind.TheVariants.{PutBegun, TakeBegun, Accepted, Full, HandedOut, Empty}
use Rattle.history.specs.declared.event.Event.{Event}

-- the item of the last event of event i's thread before event i
abbrev pub last_item : List Event → ℕ → ℕ
last_item h i = item_at h (last_event h (thread_at h i) i - 1)

-- event i, of this kind, suits its thread's call and carries a right item: a begin comes where the thread has no call in flight,
-- an answer where it has one of its sort; puts are numbered from 1 in the order of their begins, and a put's answer names its item
abbrev pub suits : Kind → List Event → ℕ → Bool
suits PutBegun h i = not (in_flight h (thread_at h i) i) && item_at h i == suc (puts_before h i)
suits TakeBegun h i = not (in_flight h (thread_at h i) i) && item_at h i == 0
suits Accepted h i = last_kind h (thread_at h i) i == 1 && item_at h i == last_item h i
suits Full h i = last_kind h (thread_at h i) i == 1 && item_at h i == last_item h i
suits HandedOut h i = last_kind h (thread_at h i) i == 2 && nat_lt 0 (item_at h i)
suits Empty h i = last_kind h (thread_at h i) i == 2 && item_at h i == 0

-- event i is well formed
abbrev pub formed : List Event → ℕ → Bool
formed h i = nat_lt (thread_at h i) 64 && suits (event_at h i).kind h i

-- every event is
abbrev pub Formed : List Event → Type 0
Formed h = (j : ℕ) → j < length h → formed h j ≡ true

-- event e is the first that is not
pub record Malformed (h : List Event) (e : ℕ) : Type 0 where
  pub within : e < length h
  pub here : formed h e ≡ false
  pub before : (j : ℕ) → j < e → formed h j ≡ true

-- what a reading of a history answers: the number of puts begun in a well-formed one, or the first event that is not well formed
abbrev pub Read : List Event → Result ℕ ℕ → Type 0
Read h (Ok n) = Formed h × (n ≡ puts_before h (length h))
Read h (Err e) = Malformed h e
