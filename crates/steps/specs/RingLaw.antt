-- What holds of the segments in a ring.
use Rattle.std.specs.Prelude.{◌≡◌, ℕ, zero, suc, ◌+◌, ◌<◌, true, ◌⊎◌}
use Rattle.steps.specs.Ring.{Ring, whole, is_position, position, next, distance, segment_of}

-- i times next
abbrev pub onwards : Ring → ℕ → ℕ → ℕ
onwards q zero p = p
onwards q (suc i) p = onwards q i (next q p)

abbrev pub Position : Ring → ℕ → Type 0
Position q p = is_position q p ≡ true

pub record RingLaw (q : Ring) : Type 0 where
  -- whatever number was read, a position is kept
  pub kept : (p : ℕ) → Position q (position q p)
  -- next is p + k, or 0 where p + k = k * n
  pub moves : (p : ℕ) → Position q p → (next q p ≡ p + q.k) ⊎ ((p + q.k ≡ whole q) × (next q p ≡ 0))
  -- it is a position again
  pub stays : (p : ℕ) → Position q p → Position q (next q p)
  -- n times next comes back
  pub round : (p : ℕ) → Position q p → onwards q q.n p ≡ p
  -- distances are below k * n, and 0 between two positions only where they are one
  pub short : (c p : ℕ) → distance q c p < whole q
  pub here : (c : ℕ) → distance q c c ≡ 0
  pub apart : (c p : ℕ) → Position q c → Position q p → distance q c p ≡ 0 → c ≡ p
  -- the segment at p holds its k places
  pub holds : (p j : ℕ) → Position q p → j < q.k → segment_of q (p + j) ≡ p
