-- The limits of what is judged and replayed.
use Rattle.std.specs.Prelude.{ℕ, ◌≤◌, min, List, ◌++◌, length, drop, replicate}
use Rattle.history.specs.declared.event.Event.{Event}

-- the most events that a history may have, and the most rows of a table that are used
abbrev pub most : ℕ
most = 65536

-- how many of n rows are used: those behind the last of them are neither read nor written
abbrev pub rows_used : ℕ → ℕ
rows_used n = min n most

-- a table whose rows in use are all z
abbrev pub cleared : {A : Type 0} → A → List A → List A
cleared z rows = replicate (rows_used (length rows)) z ++ drop most rows

-- a segment has 1 to 64 slots
abbrev pub SegmentFits : ℕ → Type 0
SegmentFits k = (1 ≤ k) × (k ≤ 64)

abbrev pub Short : List Event → Type 0
Short h = length h ≤ most
