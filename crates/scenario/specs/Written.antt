-- What bytes write: a value, or none.
use Rattle.std.specs.Prelude.{◌≡◌, ℕ, ℤ, pos, neg_ℤ, ◌^◌, ◌<◌, ◌⊎◌, List, ◌∷◌, Some, None, Option}
use Rattle.text.specs.Numeral.{Numeral}

-- the value that is written, or none where none is
abbrev pub Reads : {A : Type 0} → (A → Type 0) → Option A → Type 0
Reads written (Some x) = written x
Reads {A} written None = (x : A) → written x → ⊥

-- a number of 32 bits
abbrev pub Number32 : List ℕ → ℕ → Type 0
Number32 bs n = Numeral bs n × (n < 2 ^ 32)

-- the number z without a sign
abbrev pub Unsigned : List ℕ → ℤ → Type 0
Unsigned bs z = (n : ℕ) × (Numeral bs n × (z ≡ pos n))

-- the number z, with at most one - (45) before its digits
abbrev pub Signed : List ℕ → ℤ → Type 0
Signed bs z = Unsigned bs z ⊎ ((digits : List ℕ) × ((bs ≡ 45 ∷ digits) × Unsigned digits (neg_ℤ z)))

-- the number without a sign, or none where none is written that has at most 31 bits
abbrev pub UnsignedRead : List ℕ → Option ℤ → Type 0
UnsignedRead bs (Some z) = Unsigned bs z
UnsignedRead bs None = (n : ℕ) → Numeral bs n → n < 2 ^ 31 → ⊥
