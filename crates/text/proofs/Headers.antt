-- Header lines.
use Rattle.std.proofs.Common.{◌≡◌, ℕ, ◌^◌, ◌<◌, List, ◌++◌, sym, ◌∙◌, subst}
use Rattle.std.proofs.lemmas.List.{append_cancel_left}
use Rattle.text.specs.Header.{Header}
use Rattle.text.specs.Numeral.{Numeral}

-- a line whose number cannot be read behind the key has none
pub no_header : (key l value : List ℕ) → l ≡ key ++ value → ((n : ℕ) → Numeral value n → n < 2 ^ 32 → ⊥) → (n : ℕ) → Header key l n → ⊥
no_header key l value e none n h =
    let same = append_cancel_left key h.0 value (sym h.1.0 ∙ e) in
    none n (subst (λ (bs : List ℕ). Numeral bs n) same h.1.1.0) h.1.1.1
