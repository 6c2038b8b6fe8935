-- The window queue's calls are those of the sequential specification.
use Rattle.std.proofs.Common.{◌≡◌, ℕ, zero, suc, ◌+◌, ◌-◌, ◌<◌, ◌≤◌, cond, leb, List, ◌∷◌, ◌++◌, length, get_or, take, drop, sym, refl, ap, ◌∙◌, inl, inr, ⊎_elim, arith}
use Rattle.std.specs.List.{remove}
use Rattle.std.proofs.lemmas.List.{length-take-le, length-append, get_or_at}
use Rattle.std.proofs.lemmas.List.Edits.{remove-append_right}
use Rattle.std.proofs.Math.Seq.{split_at}
use Rattle.std.proofs.lemmas.Bool.{cond-false, lt-leb}
use Rattle.window.specs.Queue.{Queue, appended, Allowed, taken}
use Rattle.window.specs.Sequential.{DequeuesOldest, DequeuesLater, Dequeues}
use Rattle.window.specs.Law.{Stands, FollowsSpecification}
use Rattle.window.proofs.Takes.{taken_at, allowed_from}

module _ {E : Type 0} where
  pub same_queue : (s t : Queue E) → s.q ≡ t.q → s.w ≡ t.w → s ≡ t
  same_queue s t a b = ap (λ l. record { q = l; w = s.w }) a ∙ ap (λ v. record { q = t.q; w = v }) b

  -- a list around one of its places
  pub around : (xs : List E) (i : ℕ) (x : E) → i < length xs → x ≡ get_or xs i x → xs ≡ take i xs ++ x ∷ drop (suc i) xs
  around xs i x lt e = split_at xs i x lt ∙ ap (λ y. take i xs ++ y ∷ drop (suc i) xs) (sym e)

  -- a list without the place behind its first part
  without : (older younger : List E) (x : E) → remove (older ++ x ∷ younger) (length older) ≡ older ++ younger
  without older younger x =
      let here : length older - length older ≡ 0 = omega arith in
      remove-append_right older (x ∷ younger) (length older) (length older) refl (omega arith) ∙ ap (λ i. older ++ remove (x ∷ younger) i) here

  module _ (k : ℕ) (s t : Queue E) (x : E) where
    to_line : (i : ℕ) → Stands E s i x → Allowed s i → t ≡ taken k s i → Dequeues k s x t
    to_line zero st al e = absurd (omega (arith, st.from_1))
    to_line (suc zero) st al e = inl (around s.q 0 x (omega (arith, st.within)) st.there ∙ ap (λ l. x ∷ l) (sym (ap (λ u. u.q) e)), ap (λ u. u.w) e)
    to_line (suc (suc i)) st al e =
        let place : suc (suc i) - 1 ≡ suc i = omega arith in
        let there : x ≡ get_or s.q (suc i) x = st.there ∙ ap (λ j. get_or s.q j x) place in
        inr (record {
          older = take (suc i) s.q;
          younger = drop (suc (suc i)) s.q;
          some_older = omega (arith, length-take-le (suc i) s.q (omega (arith, al.1)));
          within = omega (arith, length-take-le (suc i) s.q (omega (arith, al.1)), al.0);
          was = around s.q (suc i) x (omega (arith, al.1)) there;
          left = ap (λ u. u.q) e;
          narrower = omega (arith, ap (λ u. u.w) e, al.0);
        })

    from_oldest : 1 ≤ s.w → DequeuesOldest k s x t → (i : ℕ) × (Stands E s i x × (Allowed s i × (t ≡ taken k s i)))
    from_oldest open_window d =
        let long = ap length d.0 in (
          1,
          (
            record { from_1 = omega arith; within = omega (arith, long); there = sym (ap (λ l. get_or l 0 x) d.0) },
            ((open_window, omega (arith, long)), same_queue t (taken k s 1) (sym (ap (λ l. remove l 0) d.0)) d.1),
          ),
        )

    from_later : DequeuesLater s x t → (i : ℕ) × (Stands E s i x × (Allowed s i × (t ≡ taken k s i)))
    from_later d =
        let n = length d.older in
        let long : length s.q ≡ n + suc (length d.younger) = ap length d.was ∙ length-append d.older (x ∷ d.younger) in
        let place : suc n - 1 ≡ n = omega arith in
        let left : t.q ≡ remove s.q n = d.left ∙ (sym (without d.older d.younger x) ∙ ap (λ l. remove l n) (sym d.was)) in
        let narrow : t.w ≡ cond (leb (suc n) 1) k (s.w - 1) = (let m : t.w ≡ s.w - 1 = omega (arith, d.narrower) in m) ∙ sym (cond-false (leb (suc n) 1) k (s.w - 1) (lt-leb (suc n) 1 (omega (arith, d.some_older)))) in (
          suc n,
          (
            record {
              from_1 = omega arith;
              within = omega arith;
              there = sym (ap (λ i. get_or s.q i x) place ∙ (ap (λ l. get_or l n x) d.was ∙ get_or_at d.older x d.younger x n refl));
            },
            (
              allowed_from s (suc n) (omega arith) (omega (arith, d.within)) (omega arith),
              same_queue t (record { q = remove s.q (suc n - 1); w = cond (leb (suc n) 1) k (s.w - 1) }) (left ∙ ap (λ i. remove s.q i) (sym place)) narrow
                  ∙ sym (taken_at s k (suc n) (omega arith)),
            ),
          ),
        )

  window_stays : (k : ℕ) (s : Queue E) (i : ℕ) → 1 ≤ k → (1 ≤ s.w) × (s.w ≤ k) → Allowed s i → (1 ≤ (taken k s i).w) × ((taken k s i).w ≤ k)
  window_stays k s zero one w al = (one, omega arith)
  window_stays k s (suc zero) one w al = (one, omega arith)
  window_stays k s (suc (suc i)) one w al = (omega (arith, al.0), omega (arith, w.1))

pub follows_specification : (E : Type 0) (k : ℕ) → FollowsSpecification E k
follows_specification E k = record {
  appends = λ s t x. (λ e. (ap (λ u. u.q) e, ap (λ u. u.w) e), λ p. same_queue t (appended s x) p.0 p.1);
  takes_nothing = λ s t. (
    λ p. (p.0, (ap (λ u. u.q) p.1 ∙ p.0, ap (λ u. u.w) p.1)),
    λ p. (p.0, same_queue t (taken k s 0) (p.1.0 ∙ sym p.0) p.1.1),
  );
  takes = λ s t x open_window. (
    λ p. to_line k s t x p.0 p.1.0 p.1.1.0 p.1.1.1,
    ⊎_elim (from_oldest k s t x open_window) (from_later k s t x),
  );
  window_stays = window_stays k;
}
