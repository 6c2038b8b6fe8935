-- A search goes through the places of a segment in turn.
use Rattle.std.proofs.Common.{◌≡◌, ℕ, zero, suc, ◌+◌, ◌%◌, ◌<◌, cond, ltb, Some, None, sym, refl, ap, add-zero, add-suc, mod-lt, mod-eq_of_lt, arith}
use native.Mathlib.Nat.{mod_self, suc-mod}
use Rattle.std.proofs.lemmas.Grind.{common_steps}
use Rattle.steps.specs.Ring.{Ring}
use Rattle.steps.specs.Probes.{made, place, further}
use Rattle.steps.specs.SearchLaw.{after_probes, SearchLaw}

-- the place after place b of k places
after_place : (k b : ℕ) → b < k → cond (ltb (b + 1) k) (b + 1) 0 ≡ suc b % k
after_place k b below =
    let stays : suc b < k → suc b % k ≡ suc b = λ l. mod-eq_of_lt l in
    grind (arith, common_steps, mod_self k, stays)

module _ (q : Ring) (some_slots : 0 < q.k) (r : ℕ → ℕ) where
  made_is : (i : ℕ) → made (after_probes q r i) ≡ i
  made_is zero = refl
  made_is (suc i) = let e = made_is i in omega arith

  pub places : (i : ℕ) → place q (r i) (after_probes q r i) ≡ (r 0 + i) % q.k
  places zero = ap (λ a. a % q.k) (sym (add-zero (r 0)))
  places (suc i) = rw (places i, after_place q.k ((r 0 + i) % q.k) (mod-lt (r 0 + i) some_slots), ← suc-mod, add-suc) refl

  goes_on : (i : ℕ) → suc i < q.k → further q (r i) (after_probes q r i) ≡ Some (after_probes q r (suc i))
  goes_on i h = grind (arith, common_steps, made_is i)

  ends : (i : ℕ) → suc i ≡ q.k → further q (r i) (after_probes q r i) ≡ None
  ends i h = grind (arith, common_steps, made_is i)

pub search_law : (q : Ring) → 0 < q.k → SearchLaw q
search_law q some_slots = record { places = places q some_slots; goes_on = goes_on q some_slots; ends = ends q some_slots }
