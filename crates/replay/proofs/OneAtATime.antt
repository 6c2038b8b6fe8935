-- Calls one at a time: what is known before event i.
use Rattle.std.proofs.Common.{◌≡◌, ℕ, ◌+◌, ◌<◌, Bool, true, false, not, ◌⊎◌, List, length, sym, refl, ap, ◌∙◌, subst, inl, inr, ⊎_elim, arith}
use Rattle.std.proofs.lemmas.Bool.{cases_eq, both_ways}
use Rattle.history.specs.Events.{event_at, thread_at}
use Rattle.history.specs.Calls.{in_flight, Apart}
use Rattle.history.specs.WellFormed.{formed}
use Rattle.history.specs.declared.event.Event.{Event}
use Rattle.history.specs.declared.event.Kind.{Kind}
use Rattle.history.specs.declared.event.Kind.TheVariants.{PutBegun, TakeBegun, Accepted, Full, HandedOut, Empty}
use Rattle.history.proofs.Flights.{begins, flight_before, flight_after, in_flight_other}

pub begins_from : (e : Kind) → (e ≡ PutBegun) ⊎ (e ≡ TakeBegun) → begins e ≡ true
begins_from e = ⊎_elim (λ p. ap begins p) (λ p. ap begins p)

pub answers_from : (e : Kind) → (e ≡ PutBegun → ⊥) → (e ≡ TakeBegun → ⊥) → begins e ≡ false
answers_from PutBegun a b = absurd (a refl)
answers_from TakeBegun a b = absurd (b refl)
answers_from Accepted a b = refl
answers_from Full a b = refl
answers_from HandedOut a b = refl
answers_from Empty a b = refl

pub record Alone (h : List Event) (i : ℕ) (busy : Bool) : Type 0 where
  pub none : busy ≡ false → (t : ℕ) → in_flight h t i ≡ true → ⊥
  pub one : busy ≡ true → (t : ℕ) × (in_flight h t i ≡ true)
  pub apart : Apart h i

module _ (h : List Event) (i : ℕ) (f : formed h i ≡ true) where
  -- a call in flight after event i is that event's, or was in flight before
  still : (t : ℕ) → in_flight h t (i + 1) ≡ true → ((t ≡ thread_at h i) × (begins (event_at h i).kind ≡ true)) ⊎ ((t ≡ thread_at h i → ⊥) × (in_flight h t i ≡ true))
  still t e = ⊎_elim
      (λ (q : t ≡ thread_at h i). inl (q, sym (flight_after h i) ∙ subst (λ (u : ℕ). in_flight h u (i + 1) ≡ true) q e))
      (λ (q : t ≡ thread_at h i → ⊥). inr (q, sym (in_flight_other h i t q) ∙ e))
      (cases_eq t (thread_at h i))

  apart_more : Apart h i → ((t u : ℕ) → in_flight h t (i + 1) ≡ true → in_flight h u (i + 1) ≡ true → t ≡ u) → Apart h (i + 1)
  apart_more old here j t u le a b = ⊎_elim
      (λ (q : j ≡ i + 1). here t u (subst (λ (n : ℕ). in_flight h t n ≡ true) q a) (subst (λ (n : ℕ). in_flight h u n ≡ true) q b))
      (λ (q : j ≡ i + 1 → ⊥). old j t u (omega arith) a b)
      (cases_eq j (i + 1))

  alone_begin : begins (event_at h i).kind ≡ true → Alone h i false → Alone h (i + 1) true
  alone_begin b s =
      let own : (t : ℕ) → in_flight h t (i + 1) ≡ true → t ≡ thread_at h i = λ t e. ⊎_elim (λ p. p.0) (λ p. absurd (s.none refl t p.1)) (still t e) in
      record {
        none = λ e. absurd (both_ways true e refl);
        one = λ _. (thread_at h i, flight_after h i ∙ b);
        apart = apart_more s.apart (λ t u x y. own t x ∙ sym (own u y));
      }

  alone_answer : (busy : Bool) → begins (event_at h i).kind ≡ false → Alone h i busy → Alone h (i + 1) false
  alone_answer busy b s =
      let was : in_flight h (thread_at h i) i ≡ true = flight_before h i f ∙ ap not b in
      let gone : (t : ℕ) → in_flight h t (i + 1) ≡ true → ⊥ =
      λ t e. ⊎_elim (λ p. both_ways (begins (event_at h i).kind) b p.1) (λ p. p.0 (s.apart i t (thread_at h i) (omega arith) p.1 was)) (still t e) in
      record {
        none = λ _. gone;
        one = λ e. absurd (both_ways false refl e);
        apart = apart_more s.apart (λ t u x y. absurd (gone t x));
      }

  pub alone_more : (busy b : Bool) → begins (event_at h i).kind ≡ b → (b ≡ true → busy ≡ false) → Alone h i busy → Alone h (i + 1) b
  alone_more busy true e idle s = alone_begin e (subst (Alone h i) (idle refl) s)
  alone_more busy false e idle s = alone_answer busy e s

  -- a begin while a call is in flight
  pub begin_overlaps : i < length h → begins (event_at h i).kind ≡ true → Alone h i true → Apart h (length h) → ⊥
  begin_overlaps lt b s apart =
      let other = s.one refl in
      let idle : in_flight h (thread_at h i) i ≡ false = flight_before h i f ∙ ap not b in
      let apart_threads : other.0 ≡ thread_at h i → ⊥ = λ q. both_ways _ idle (subst (λ (u : ℕ). in_flight h u i ≡ true) q other.1) in
      apart_threads (apart (i + 1) other.0 (thread_at h i) (omega arith) (in_flight_other h i other.0 apart_threads ∙ other.1) (flight_after h i ∙ b))
