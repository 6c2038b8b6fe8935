-- Which calls are in flight after an event.
use Rattle.std.proofs.Common.{◌≡◌, ℕ, suc, ◌+◌, ◌-◌, Bool, true, false, cond, not, ◌||◌, eqb, ltb, ◌⊎◌, List, refl, ap, ◌∙◌, inl, inr, ⊎_elim, arith}
use Rattle.std.proofs.lemmas.Bool.{eq-eqb, ne_eqb, eqb-true, and_parts, not-true, or_left, or_right, cond-false}
use Rattle.history.specs.Events.{event_at, kind_number, kind_at, thread_at, item_at}
use Rattle.history.specs.Calls.{last_kind, in_flight, puts_before}
use Rattle.history.specs.WellFormed.{suits, formed, last_item}
use Rattle.history.specs.declared.event.Event.{Event}
use Rattle.history.specs.declared.event.Kind.{Kind}
use Rattle.history.specs.declared.event.Kind.TheVariants.{PutBegun, TakeBegun, Accepted, Full, HandedOut, Empty}
use Rattle.history.proofs.Tables.{last_event_own, last_event_other}

module _ (h : List Event) (i : ℕ) where
  -- the thread's own event is its last one now
  pub last_kind_own : last_kind h (thread_at h i) (i + 1) ≡ kind_at h i
  last_kind_own =
      let at : (i + 1) - 1 ≡ i = omega arith in
      ap (λ n. cond (eqb n 0) 0 (kind_at h (n - 1))) (last_event_own h i)
      ∙ (cond-false (eqb (i + 1) 0) 0 (kind_at h ((i + 1) - 1)) (ne_eqb (i + 1) 0 (omega arith)) ∙ ap (kind_at h) at)

  pub last_kind_other : (t : ℕ) → (t ≡ thread_at h i → ⊥) → last_kind h t (i + 1) ≡ last_kind h t i
  last_kind_other t f = ap (λ n. cond (eqb n 0) 0 (kind_at h (n - 1))) (last_event_other h i t f)

  pub in_flight_other : (t : ℕ) → (t ≡ thread_at h i → ⊥) → in_flight h t (i + 1) ≡ in_flight h t i
  in_flight_other t f = ap (λ n. eqb n 1 || eqb n 2) (last_kind_other t f)

  in_flight_own : in_flight h (thread_at h i) (i + 1) ≡ (eqb (kind_at h i) 1 || eqb (kind_at h i) 2)
  in_flight_own = ap (λ n. eqb n 1 || eqb n 2) last_kind_own

  pub in_flight_from : (t n : ℕ) → last_kind h t i ≡ n → (n ≡ 1) ⊎ (n ≡ 2) → in_flight h t i ≡ true
  in_flight_from t n e = ⊎_elim
      (λ (q : n ≡ 1). or_left (eqb (last_kind h t i) 1) (eqb (last_kind h t i) 2) (eq-eqb (last_kind h t i) 1 (e ∙ q)))
      (λ (q : n ≡ 2). or_right (eqb (last_kind h t i) 1) (eqb (last_kind h t i) 2) (eq-eqb (last_kind h t i) 2 (e ∙ q)))

-- a begin comes where its thread has no call in flight, an answer where it has one
abbrev pub begins : Kind → Bool
begins PutBegun = true
begins TakeBegun = true
begins Accepted = false
begins Full = false
begins HandedOut = false
begins Empty = false

suits_flight : (k : Kind) (h : List Event) (i : ℕ) → suits k h i ≡ true → in_flight h (thread_at h i) i ≡ not (begins k)
suits_flight PutBegun h i s = not-true (in_flight h (thread_at h i) i) (and_parts _ (eqb (item_at h i) (suc (puts_before h i))) s).0
suits_flight TakeBegun h i s = not-true (in_flight h (thread_at h i) i) (and_parts _ (eqb (item_at h i) 0) s).0
suits_flight Accepted h i s = in_flight_from h i (thread_at h i) 1 (eqb-true _ 1 (and_parts _ (eqb (item_at h i) (last_item h i)) s).0) (inl refl)
suits_flight Full h i s = in_flight_from h i (thread_at h i) 1 (eqb-true _ 1 (and_parts _ (eqb (item_at h i) (last_item h i)) s).0) (inl refl)
suits_flight HandedOut h i s = in_flight_from h i (thread_at h i) 2 (eqb-true _ 2 (and_parts _ (ltb 0 (item_at h i)) s).0) (inr refl)
suits_flight Empty h i s = in_flight_from h i (thread_at h i) 2 (eqb-true _ 2 (and_parts _ (eqb (item_at h i) 0) s).0) (inr refl)

begins_flight : (k : Kind) → (eqb (kind_number k) 1 || eqb (kind_number k) 2) ≡ begins k
begins_flight PutBegun = refl
begins_flight TakeBegun = refl
begins_flight Accepted = refl
begins_flight Full = refl
begins_flight HandedOut = refl
begins_flight Empty = refl

pub flight_after : (h : List Event) (i : ℕ) → in_flight h (thread_at h i) (i + 1) ≡ begins (event_at h i).kind
flight_after h i = in_flight_own h i ∙ begins_flight (event_at h i).kind

pub flight_before : (h : List Event) (i : ℕ) → formed h i ≡ true → in_flight h (thread_at h i) i ≡ not (begins (event_at h i).kind)
flight_before h i f = suits_flight (event_at h i).kind h i (and_parts (ltb (thread_at h i) 64) (suits (event_at h i).kind h i) f).1
