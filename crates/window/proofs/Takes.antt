-- Taking a place, over the places and how many of them are in use.
use Rattle.std.proofs.Common.{◌≡◌, ℕ, zero, suc, ◌+◌, ◌-◌, ◌<◌, ◌≤◌, cond, leb, List, ◌++◌, length, take, drop, sym, refl, ap, ◌∙◌, add-one, arith}
use Rattle.std.specs.List.{remove, copy_within}
use Rattle.std.proofs.lemmas.List.{append_assoc, drop-append-le, length-drop, length-take-le, take-append-drop, take_at}
use Rattle.std.proofs.lemmas.List.Edits.{length-remove, paste_all}
use Rattle.std.proofs.lemmas.Bool.{cond-false, lt-leb}
use Rattle.window.specs.Queue.{Queue, Allowed, taken}

-- the two ways to say that a place from 1 is allowed, and what a take there leaves
module _ {E : Type 0} (s : Queue E) where
  pub allowed_parts : (i : ℕ) → 1 ≤ i → Allowed s i → (i ≤ s.w) × (i ≤ length s.q)
  allowed_parts zero one a = absurd (omega arith)
  allowed_parts (suc i) one a = a

  pub allowed_from : (i : ℕ) → 1 ≤ i → i ≤ s.w → i ≤ length s.q → Allowed s i
  allowed_from zero one a b = absurd (omega arith)
  allowed_from (suc i) one a b = (a, b)

  pub taken_at : (k i : ℕ) → 1 ≤ i → taken k s i ≡ record { q = remove s.q (i - 1); w = cond (leb i 1) k (s.w - 1) }
  taken_at k zero one = absurd (omega arith)
  taken_at k (suc zero) one = refl
  taken_at k (suc (suc i)) one =
      let place : suc i ≡ suc (suc i) - 1 = omega arith in
      ap (λ j. record { q = remove s.q j; w = s.w - 1 }) place
      ∙ ap (λ v. record { q = remove s.q (suc (suc i) - 1); w = v }) (sym (cond-false (leb (suc (suc i)) 1) k (s.w - 1) (lt-leb (suc (suc i)) 1 (omega arith))))

-- what moving the elements behind a place to the front comes to
pub closed_up : {E : Type 0} (xs : List E) (at : ℕ) → at < length xs → copy_within xs (at + 1) (length xs) at ≡ remove xs at ++ drop (length xs - 1) xs
closed_up xs at lt =
    let end : at + (length xs - (at + 1)) ≡ length xs - 1 = omega arith in
    paste_all xs at (drop (at + 1) xs) (length xs - (at + 1)) (sym (length-drop (at + 1) xs))
    ∙ (ap (λ m. take at xs ++ (drop (at + 1) xs ++ drop m xs)) end
    ∙ (sym (append_assoc (take at xs) (drop (at + 1) xs) (drop (length xs - 1) xs))
    ∙ ap (λ m. (take at xs ++ drop m xs) ++ drop (length xs - 1) xs) (add-one at)))

-- the first len places are in use, and those were closed up over place i
module _ {E : Type 0} (xs ys : List E) (len i : ℕ) (one : 1 ≤ i) (there : i ≤ len) (within : len ≤ length xs)
    (pulled : ys ≡ remove (take len xs) (i - 1) ++ drop (length (take len xs) - 1) (take len xs)) where
  all : length (take len xs) ≡ len
  all = length-take-le len xs within

  pub places_after : ys ++ drop len xs ≡ remove (take len xs) (i - 1) ++ drop (length (take len xs) - 1) xs
  places_after =
      let q = take len xs in
      let last = sym (drop-append-le (length q - 1) q (drop len xs) (omega (arith, all))) ∙ ap (drop (length q - 1)) (take-append-drop len xs) in
      ap (λ l. l ++ drop len xs) pulled
      ∙ (append_assoc (remove q (i - 1)) (drop (length q - 1) q) (drop len xs) ∙ ap (λ l. remove q (i - 1) ++ l) last)

  left : take (len - 1) (ys ++ drop len xs) ≡ remove (take len xs) (i - 1)
  left =
      let q = take len xs in
      ap (take (len - 1)) places_after
      ∙ take_at (remove q (i - 1)) (drop (length q - 1) xs) (len - 1) (omega (arith, all, length-remove q (i - 1) (omega (arith, all))))

  -- and the queue that they then show
  pub queue_after : (w k v : ℕ) → v ≡ cond (leb i 1) k (w - 1)
      → ◌≡◌ {A = Queue E} (record { q = take (len - 1) (ys ++ drop len xs); w = v }) (taken k (record { q = take len xs; w = w }) i)
  queue_after w k v after =
      ap (λ l. record { q = l; w = v }) left
      ∙ (ap (λ u. record { q = remove (take len xs) (i - 1); w = u }) after ∙ sym (taken_at (record { q = take len xs; w = w }) k i one))
