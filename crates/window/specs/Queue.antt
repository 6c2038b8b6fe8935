-- The window queue: a list, oldest first, and a window, how far from the front a take may reach.
use Rattle.std.specs.Prelude.{◌≡◌, ℕ, zero, suc, ◌-◌, ◌≤◌, List, [], ◌∷◌, ◌++◌, length}
use Rattle.std.specs.List.{remove}

pub record Queue (E : Type 0) : Type 0 where
  pub q : List E
  pub w : ℕ

module _ {E : Type 0} where
  -- at first it is empty and its window k
  abbrev pub start : ℕ → Queue E
  start k = record { q = []; w = k }

  abbrev pub appended : Queue E → E → Queue E
  appended s x = record { q = s.q ++ x ∷ []; w = s.w }

  -- taking place i, counted from 1, is allowed within the window and the list; place 0, the empty answer, where the list is empty
  abbrev pub Allowed : Queue E → ℕ → Type 0
  Allowed s zero = s.q ≡ []
  Allowed s (suc i) = (suc i ≤ s.w) × (suc i ≤ length s.q)

  -- places 0 and 1 open the window to k, any other lowers it by 1
  abbrev pub taken : ℕ → Queue E → ℕ → Queue E
  taken k s zero = record { q = s.q; w = k }
  taken k s (suc zero) = record { q = remove s.q 0; w = k }
  taken k s (suc (suc i)) = record { q = remove s.q (suc i); w = s.w - 1 }
