-- Questions that are asked in order before a call is made: the first that is answered no refuses the call, with its number.
use Rattle.std.specs.Prelude.{◌≡◌, ℕ, ◌⊎◌, List, [], ◌∷◌}

-- a question: what it asks, and the number of its refusal
pub record Question : Type 1 where
  pub asks : Type 0
  pub number : ℕ

abbrev pub AllYes : List Question → Type 0
AllYes [] = Unit {0}
AllYes (q ∷ qs) = q.asks × AllYes qs

-- n is the number of the first question that is answered no
abbrev pub FirstNo : List Question → ℕ → Type 0
FirstNo [] n = ⊥
FirstNo (q ∷ qs) n = ((q.asks → ⊥) × (n ≡ q.number)) ⊎ (q.asks × FirstNo qs n)
