-- What has become of an item before event i. An item is held from its acceptance until it is handed out;
-- one handed out before its acceptance is never held.
use Rattle.std.specs.Prelude.{ℕ, suc, Bool, not, ◌&&◌, List, ◌==◌}
use Rattle.history.specs.Positions.{some_below, count_below}
use Rattle.history.specs.Events.{is, tells, item_at}
use Rattle.history.specs.Calls.{puts_before}
use Rattle.history.specs.declared.event.Event.{Event}

abbrev pub begun : List Event → ℕ → ℕ → Bool
begun h i x = some_below (tells 1 h x) i

abbrev pub accepted : List Event → ℕ → ℕ → Bool
accepted h i x = some_below (tells 3 h x) i

abbrev pub refused_as_full : List Event → ℕ → ℕ → Bool
refused_as_full h i x = some_below (tells 4 h x) i

abbrev pub handed_out : List Event → ℕ → ℕ → Bool
handed_out h i x = some_below (tells 5 h x) i

abbrev pub held : List Event → ℕ → ℕ → Bool
held h i x = accepted h i x && not (handed_out h i x)

-- the put of x began after a was accepted
abbrev pub younger : List Event → ℕ → ℕ → ℕ → Bool
younger h i a x = some_below (λ p. tells 1 h x p && accepted h p a) i

-- event j hands out another item than a while a is held, and that item's put began after a's acceptance
abbrev pub passes : List Event → ℕ → ℕ → Bool
passes h a j = (is 5 h j && not (a == item_at h j)) && (held h j a && younger h j a (item_at h j))

-- of how many items a test holds: the items begun are the numbers from 1 to the number of puts begun
abbrev pub count_items : List Event → ℕ → (ℕ → Bool) → ℕ
count_items h i test = count_below test (suc (puts_before h i))
