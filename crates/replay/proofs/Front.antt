-- The front of the queue stands for the queue: what it allows, and what the whole queue allows, as far as a take may reach.
use Rattle.std.proofs.Common.{◌≡◌, ℕ, suc, ◌-◌, ◌<◌, ◌≤◌, ◌⊎◌, List, [], ◌∷◌, ◌++◌, length, get_or, take, drop, sym, refl, ap, ◌∙◌, subst, inl, inr, ⊎_elim, arith}
use Rattle.std.proofs.lemmas.List.{append-nil, append_assoc, length-take-le, get_or_append_left, get_or_at}
use Rattle.window.specs.Queue.{Queue}
use Rattle.window.specs.Sequential.{Dequeues, DequeuesOldest, DequeuesLater}
use Rattle.window.proofs.Lines.{around}

-- a dequeue from the front is one from the whole
pub dequeue_whole : (k x : ℕ) (front front' rest : List ℕ) (w w' : ℕ) → Dequeues k (record { q = front; w = w }) x (record { q = front'; w = w' })
    → Dequeues k (record { q = front ++ rest; w = w }) x (record { q = front' ++ rest; w = w' })
dequeue_whole k x front front' rest w w' = ⊎_elim
    (λ a. inl (ap (λ l. l ++ rest) a.0, a.1))
    (λ b. inr (record {
      older = b.older;
      younger = b.younger ++ rest;
      some_older = b.some_older;
      within = b.within;
      was = ap (λ l. l ++ rest) b.was ∙ append_assoc b.older (x ∷ b.younger) rest;
      left = ap (λ l. l ++ rest) b.left ∙ append_assoc b.older b.younger rest;
      narrower = b.narrower;
    }))

same_head : (a b : ℕ) (xs ys : List ℕ) → a ∷ xs ≡ b ∷ ys → a ≡ b
same_head a b xs ys e = cc

oldest_of_front : (k x w : ℕ) (front rest : List ℕ) (t : Queue ℕ) → 1 ≤ length front → DequeuesOldest k (record { q = front ++ rest; w = w }) x t
    → (u : Queue ℕ) × Dequeues k (record { q = front; w = w }) x u
oldest_of_front k x w [] rest t some d = absurd (omega arith)
oldest_of_front k x w (y ∷ front) rest t some d = (record { q = front; w = k }, inl (ap (λ z. z ∷ front) (same_head y x (front ++ rest) t.q d.0), refl))

later_of_front : (k x w : ℕ) (front rest : List ℕ) (t : Queue ℕ) → w ≤ length front → DequeuesLater (record { q = front ++ rest; w = w }) x t
    → (u : Queue ℕ) × Dequeues k (record { q = front; w = w }) x u
later_of_front k x w front rest t le d =
    let n = length d.older in
    let lt : n < length front = omega (arith, d.within) in
    let there : x ≡ get_or front n x = sym (sym (get_or_append_left front rest x n lt) ∙ (ap (λ l. get_or l n x) d.was ∙ get_or_at d.older x d.younger x n refl)) in
    let m = length-take-le n front (omega arith) in (
      record { q = take n front ++ drop (suc n) front; w = w - 1 },
      inr (record {
        older = take n front;
        younger = drop (suc n) front;
        some_older = omega (arith, m, d.some_older);
        within = omega (arith, m, d.within);
        was = around front n x lt there;
        left = refl;
        narrower = omega (arith, d.within);
      }),
    )

-- a dequeue from the whole is one from a front that reaches as far as the window, or is the whole
pub dequeue_front : (k x w : ℕ) (front rest : List ℕ) (t : Queue ℕ) → 1 ≤ w → (w ≤ length front) ⊎ (rest ≡ []) → Dequeues k (record { q = front ++ rest; w = w }) x t
    → (u : Queue ℕ) × Dequeues k (record { q = front; w = w }) x u
dequeue_front k x w front rest t one reach d = ⊎_elim
    (λ (le : w ≤ length front). ⊎_elim (oldest_of_front k x w front rest t (omega arith)) (later_of_front k x w front rest t le) d)
    (λ (e : rest ≡ []). (t, subst (λ (l : List ℕ). Dequeues k (record { q = l; w = w }) x t) (ap (λ l. front ++ l) e ∙ append-nil front) d))
    reach
