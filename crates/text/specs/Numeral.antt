-- Numbers written in decimal digits.
use Rattle.std.specs.Prelude.{◌≡◌, ℕ, ◌+◌, ◌-◌, ◌*◌, ◌^◌, ◌<◌, ◌≤◌, List, [], ◌∷◌, length, Some, None, Option, slice_index}

-- b is one of the bytes '0' to '9'
abbrev pub Digit : ℕ → Type 0
Digit b = (48 ≤ b) × (b ≤ 57)

-- the number n with the digit b behind it
abbrev pub with_digit : ℕ → ℕ → ℕ
with_digit n b = n * 10 + (b - 48)

-- the number n with these digits behind it
abbrev pub with_digits : ℕ → List ℕ → ℕ
with_digits n [] = n
with_digits n (b ∷ bs) = with_digits (with_digit n b) bs

-- the bytes write the number n
pub record Numeral (bs : List ℕ) (n : ℕ) : Type 0 where
  pub some : 0 < length bs
  pub digits : (k : ℕ) → k < length bs → Digit (slice_index bs k)
  pub value : n ≡ with_digits 0 bs

-- the number that the bytes write, or none where they write none below 2 ^ 32
abbrev pub Reads : List ℕ → Option ℕ → Type 0
Reads bs (Some n) = Numeral bs n × (n < 2 ^ 32)
Reads bs None = (n : ℕ) → Numeral bs n → n < 2 ^ 32 → ⊥

-- the number n with b behind it, or none where b is no digit or the number is not below 2 ^ 32
abbrev pub Extends : ℕ → ℕ → Option ℕ → Type 0
Extends n b (Some m) = Digit b × (m ≡ with_digit n b) × (m < 2 ^ 32)
Extends n b None = Digit b → 2 ^ 32 ≤ with_digit n b
