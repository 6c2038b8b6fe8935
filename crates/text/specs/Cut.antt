-- Bytes cut in two, as lists.
use Rattle.std.specs.Prelude.{◌≡◌, ℕ, ◌<◌, List, ◌∷◌, ◌++◌, length, Some, None, Option, ◌≢◌, slice_index}
use Rattle.std.specs.Borrow.{Bor}

-- no byte of bs is c
abbrev pub Lacks : ℕ → List ℕ → Type 0
Lacks c bs = (k : ℕ) → k < length bs → slice_index bs k ≢ c

-- the part before the first such byte and the part behind it, or none where there is no such byte
abbrev pub Splits : ℕ → List ℕ → Option (Bor (List ℕ) × Bor (List ℕ)) → Type 0
Splits mark bs (Some p) = (bs ≡ p.0.now ++ mark ∷ p.1.now) × Lacks mark p.0.now
Splits mark bs None = Lacks mark bs

-- what follows the key, or none where bs does not begin with it
abbrev pub Follows : List ℕ → List ℕ → Option (Bor (List ℕ)) → Type 0
Follows key bs (Some rest) = bs ≡ key ++ rest.now
Follows key bs None = (rest : List ℕ) → bs ≢ key ++ rest
