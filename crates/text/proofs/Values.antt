-- The value of digits, one digit more at a time.
use Rattle.std.proofs.Common.{◌≡◌, ℕ, ◌+◌, ◌^◌, ◌<◌, ◌≤◌, List, [], ◌∷◌, length, get_or, drop, sym, ◌∙◌, arith}
use Rattle.std.proofs.lemmas.List.{at_drop_more}
use Rattle.text.specs.Numeral.{Digit, with_digit, with_digits, Numeral}

digits_grow : (n : ℕ) (bs : List ℕ) → n ≤ with_digits n bs
digits_grow n [] = omega arith
digits_grow n (b ∷ bs) = omega (arith, digits_grow (with_digit n b) bs)

pub one_more : (n : ℕ) (bs : List ℕ) (i : ℕ) → i < length bs → with_digits n (drop i bs) ≡ with_digits (with_digit n (get_or bs i 0)) (drop (i + 1) bs)
one_more n bs i l = at_drop_more (with_digits n) bs i 0 l

-- a number that is too large so far stays so, whatever follows
pub too_large : (n m : ℕ) (bs : List ℕ) (i : ℕ) → i < length bs → with_digits n (drop i bs) ≡ with_digits 0 bs → (Digit (get_or bs i 0) → 2 ^ 32 ≤ with_digit n (get_or bs i 0)) → Numeral bs m → m < 2 ^ 32 → ⊥
too_large n m bs i l e h num s =
    let large = h (num.digits i l) in
    let grown = digits_grow (with_digit n (get_or bs i 0)) (drop (i + 1) bs) in
    let same : m ≡ with_digits (with_digit n (get_or bs i 0)) (drop (i + 1) bs) = num.value ∙ (sym e ∙ one_more n bs i l) in
    omega arith
