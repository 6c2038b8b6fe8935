-- Calls one at a time: no more items were accepted than puts begun.
use Rattle.std.proofs.Common.{◌≡◌, ℕ, zero, suc, ◌+◌, ◌<◌, ◌≤◌, true, eqb, ◌⊎◌, List, length, sym, refl, ◌∙◌, subst, inl, inr, ⊎_elim, add-one, arith}
use Rattle.std.proofs.lemmas.Bool.{cases_eq, eq-eqb, ne_eqb, eqb-true, and_parts, cond-true, cond-false}
use Rattle.history.specs.Positions.{count_below}
use Rattle.history.specs.Events.{kind_at, thread_at, item_at, is}
use Rattle.history.specs.Calls.{last_kind, in_flight, Apart, puts_before}
use Rattle.history.specs.WellFormed.{Formed, last_item}
use Rattle.history.specs.declared.event.Event.{Event}
use Rattle.history.proofs.Flights.{last_kind_own, last_kind_other, in_flight_from}
use Rattle.history.proofs.Facts.{shape}

abbrev accepted_before : List Event → ℕ → ℕ
accepted_before h i = count_below (is 3 h) i

-- an acceptance has its put, and a put in flight has not been accepted yet
record Few (h : List Event) (i : ℕ) : Type 0 where
  few : accepted_before h i ≤ puts_before h i
  fewer : (t : ℕ) → last_kind h t i ≡ 1 → accepted_before h i < puts_before h i

module _ (h : List Event) (F : Formed h) (apart : Apart h (length h)) where
  -- a thread whose last event after event i is a put's begin: that event, or one before
  putting : (i t : ℕ) → last_kind h t (suc i) ≡ 1 → (kind_at h i ≡ 1) ⊎ ((t ≡ thread_at h i → ⊥) × (last_kind h t i ≡ 1))
  putting i t e = let e' = subst (λ (n : ℕ). last_kind h t n ≡ 1) (sym (add-one i)) e in ⊎_elim
      (λ (q : t ≡ thread_at h i). inl (sym (last_kind_own h i) ∙ subst (λ (u : ℕ). last_kind h u (i + 1) ≡ 1) q e'))
      (λ (q : t ≡ thread_at h i → ⊥). inr (q, sym (last_kind_other h i t q) ∙ e'))
      (cases_eq t (thread_at h i))

  module _ (i : ℕ) (lt : i < length h) (s : Few h i) where
    counted : (c : ℕ) → kind_at h i ≡ c → count_below (is c h) (suc i) ≡ suc (count_below (is c h) i)
    counted c e = cond-true (is c h i) (suc (count_below (is c h) i)) (count_below (is c h) i) (eq-eqb (kind_at h i) c e)

    not_counted : (c : ℕ) → (kind_at h i ≡ c → ⊥) → count_below (is c h) (suc i) ≡ count_below (is c h) i
    not_counted c f = cond-false (is c h i) (suc (count_below (is c h) i)) (count_below (is c h) i) (ne_eqb (kind_at h i) c f)

    few_put : kind_at h i ≡ 1 → Few h (suc i)
    few_put e =
        let p = counted 1 e in
        let a = not_counted 3 (λ q. omega arith) in
        record { few = omega (arith, s.few); fewer = λ t _. omega (arith, s.few) }

    few_accepted : kind_at h i ≡ 3 → Few h (suc i)
    few_accepted e =
        let p = not_counted 1 (λ q. omega arith) in
        let a = counted 3 e in
        let put : last_kind h (thread_at h i) i ≡ 1 = eqb-true _ 1 (and_parts _ (eqb (item_at h i) (last_item h i)) (shape h i 3 (F i lt) e)).0 in
        let flies : (t : ℕ) → last_kind h t i ≡ 1 → in_flight h t i ≡ true = λ t q. in_flight_from h i t 1 q (inl refl) in
        record {
          few = omega (arith, s.fewer (thread_at h i) put);
          fewer = λ t q. ⊎_elim
              (λ (z : kind_at h i ≡ 1). absurd (omega arith))
              (λ z. absurd (z.0 (apart i t (thread_at h i) (omega arith) (flies t z.1) (flies (thread_at h i) put))))
              (putting i t q);
        }

    few_other : (kind_at h i ≡ 1 → ⊥) → (kind_at h i ≡ 3 → ⊥) → Few h (suc i)
    few_other f g =
        let p = not_counted 1 f in
        let a = not_counted 3 g in
        record { few = omega (arith, s.few); fewer = λ t q. ⊎_elim (λ z. absurd (f z)) (λ z. omega (arith, s.fewer t z.1)) (putting i t q) }

    few_more : Few h (suc i)
    few_more = ⊎_elim few_put (λ f. ⊎_elim few_accepted (few_other f) (cases_eq (kind_at h i) 3)) (cases_eq (kind_at h i) 1)

  few_all : (i : ℕ) → i ≤ length h → Few h i
  few_all zero le = record { few = omega arith; fewer = λ t e. absurd (omega arith) }
  few_all (suc i) le = few_more i (omega arith) (few_all i (omega arith))

  pub accepted_few : (i : ℕ) → i ≤ length h → accepted_before h i ≤ puts_before h i
  accepted_few i le = (few_all i le).few
