-- What a memory holds: slots, each a tag and an item, and two markers, each a tag and a position. Item 0 means an empty slot.
use Rattle.std.specs.Prelude.{ℕ, List, take, replicate}

pub record Mem : Type 0 where
  pub slots : List (ℕ × ℕ)
  pub head : ℕ × ℕ
  pub tail : ℕ × ℕ

-- n empty slots, both positions 0, every tag 0
abbrev pub empty : ℕ → Mem
empty n = record { slots = replicate n (0, 0); head = (0, 0); tail = (0, 0) }

-- slots and both markers
abbrev pub with_markers : List (ℕ × ℕ) → ℕ × ℕ → ℕ × ℕ → Mem
with_markers slots h t = record { slots = slots; head = h; tail = t }

-- the slots are the first n pairs of a list
abbrev pub front : ℕ → List (ℕ × ℕ) → ℕ × ℕ → ℕ × ℕ → Mem
front n pairs h t = with_markers (take n pairs) h t
