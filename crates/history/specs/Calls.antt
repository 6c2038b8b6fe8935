-- Calls: a thread's call is in flight from its begin to its answer.
use Rattle.std.specs.Prelude.{◌≡◌, ℕ, ◌-◌, ◌≤◌, Bool, true, cond, ◌||◌, List, ◌==◌}
use Rattle.history.specs.Positions.{last_below, count_below}
use Rattle.history.specs.Events.{kind_at, thread_at, is}
use Rattle.history.specs.declared.event.Event.{Event}

-- event j is of the thread t
abbrev pub by : List Event → ℕ → ℕ → Bool
by h t j = thread_at h j == t

-- the last event of the thread t before event i: one more than its position, 0 where there is none
abbrev pub last_event : List Event → ℕ → ℕ → ℕ
last_event h t i = last_below (by h t) i

-- the number of its kind, 0 where there is none
abbrev pub last_kind : List Event → ℕ → ℕ → ℕ
last_kind h t i = cond (last_event h t i == 0) 0 (kind_at h (last_event h t i - 1))

-- a call of the thread t is in flight before event i: the thread's last event is a begin
abbrev pub in_flight : List Event → ℕ → ℕ → Bool
in_flight h t i = last_kind h t i == 1 || last_kind h t i == 2

-- up to event i no two calls were in flight together
abbrev pub Apart : List Event → ℕ → Type 0
Apart h i = (j t u : ℕ) → j ≤ i → in_flight h t j ≡ true → in_flight h u j ≡ true → t ≡ u

-- the puts begun before event i
abbrev pub puts_before : List Event → ℕ → ℕ
puts_before h i = count_below (is 1 h) i
