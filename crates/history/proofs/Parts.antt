-- A part of a history.
use Rattle.std.proofs.Common.{◌≡◌, ℕ, ◌+◌, ◌-◌, ◌<◌, List, get_or, take, drop, ◌∙◌}
use Rattle.std.proofs.lemmas.List.{get_or-take, get_or-drop}
use Rattle.history.specs.Events.{nothing, event_at}
use Rattle.history.specs.declared.event.Event.{Event}

-- the events of a part are those of the history
pub part_at : (h : List Event) (from to n : ℕ) → n < to - from → get_or (take (to - from) (drop from h)) n nothing ≡ event_at h (from + n)
part_at h from to n lt = get_or-take (to - from) (drop from h) n nothing lt ∙ get_or-drop from h n nothing
