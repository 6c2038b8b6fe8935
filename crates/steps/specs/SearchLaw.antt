-- What holds of a search through the k places of a segment.
use Rattle.std.specs.Prelude.{◌≡◌, ℕ, zero, suc, ◌+◌, ◌%◌, ◌<◌, Some, None}
use Rattle.steps.specs.declared.search.Search.{Search}
use Rattle.steps.specs.Ring.{Ring}
use Rattle.steps.specs.Probes.{fresh, place, probed, further}

-- the search after i probes, whose steps had the start numbers r 0, r 1, ..
abbrev pub after_probes : Ring → (ℕ → ℕ) → ℕ → Search
after_probes q r zero = fresh
after_probes q r (suc i) = probed q (r i) (after_probes q r i)

pub record SearchLaw (q : Ring) : Type 0 where
  -- probe i, counted from 0, is at place (r 0 + i) mod k: the first start number alone counts
  pub places : (r : ℕ → ℕ) (i : ℕ) → place q (r i) (after_probes q r i) ≡ (r 0 + i) % q.k
  -- the search goes on until it made k probes
  pub goes_on : (r : ℕ → ℕ) (i : ℕ) → suc i < q.k → further q (r i) (after_probes q r i) ≡ Some (after_probes q r (suc i))
  pub ends : (r : ℕ → ℕ) (i : ℕ) → suc i ≡ q.k → further q (r i) (after_probes q r i) ≡ None
