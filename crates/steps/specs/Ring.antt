-- The segments, in a ring. A position is the index of a segment's first slot.
use Rattle.std.specs.Prelude.{ℕ, ◌+◌, ◌-◌, ◌*◌, ◌%◌, Bool, cond, ◌&&◌, ◌==◌, nat_lt}
use Rattle.steps.specs.declared.config.Config.{Config}
use Rattle.steps.specs.declared.kept.Marker.{Marker}

-- k slots to a segment, n segments
pub record Ring : Type 0 where
  pub k : ℕ
  pub n : ℕ

abbrev pub ring : Config → Ring
ring c = record { k = c.k.number; n = c.segments.number }

-- the slots of all segments
abbrev pub whole : Ring → ℕ
whole q = q.k * q.n

-- p is a segment's first slot: a multiple of k below k * n
abbrev pub is_position : Ring → ℕ → Bool
is_position q p = nat_lt p (whole q) && p % q.k == 0

-- the position that a marker's number stands for: one that is no segment's first slot counts as 0
abbrev pub position : Ring → ℕ → ℕ
position q p = cond (is_position q p) p 0

-- a marker that was read, as it is kept
abbrev pub marker : Ring → ℕ → ℕ → Marker
marker q t p = record { tag = t; at = position q p }

-- the position after p: p + k, and 0 after the last
abbrev pub next : Ring → ℕ → ℕ
next q p = cond (nat_lt (p + q.k) (whole q)) (p + q.k) 0

-- (p - c) mod (k * n): how far p lies from c, going round
abbrev pub distance : Ring → ℕ → ℕ → ℕ
distance q c p = (p % whole q + (whole q - c % whole q)) % whole q

-- the position of the segment that holds slot i
abbrev pub segment_of : Ring → ℕ → ℕ
segment_of q i = i - i % q.k
