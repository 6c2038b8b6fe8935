-- Items counted by number, and by the event that accepted them.
use Rattle.std.proofs.Common.{◌≡◌, ℕ, zero, suc, ◌<◌, ◌≤◌, Bool, true, false, not, ◌&&◌, ◌||◌, eqb, ltb, List, length, sym, refl, ap, ◌∙◌, inl, ⊎_elim, arith}
use Rattle.std.proofs.lemmas.Bool.{both_ways, cond-false, cond-true, ne_eqb, eq-eqb, eqb-true, and_parts, and_from, and_left, and_right, or_left, cases_Bool, lt-ltb, ltb-true}
use Rattle.history.specs.Positions.{some_below, count_below}
use Rattle.history.specs.Events.{kind_at, item_at, is, tells}
use Rattle.history.specs.Calls.{puts_before}
use Rattle.history.specs.WellFormed.{Formed}
use Rattle.history.specs.Items.{accepted, handed_out, held, younger, count_items}
use Rattle.history.specs.declared.event.Event.{Event}
use Rattle.history.proofs.Positions.{false_from, some_at, some_none, some_find, count_same, count_none, count_less, count_mono}
use Rattle.history.proofs.Facts.{tells_parts, tells_from, put_item, put_of, accepts_once}
use Rattle.judge.specs.State.{holds}

bool_iff : (a b : Bool) → (a ≡ true → b ≡ true) → (b ≡ true → a ≡ true) → a ≡ b
bool_iff true b f g = sym (f refl)
bool_iff false b f g = sym (false_from b (λ e. both_ways false refl (g e)))

-- the numbers j with p j, counted by their images under f
pub image_count : (p : ℕ → Bool) (f : ℕ → ℕ) (n m : ℕ) → ((j : ℕ) → j < n → p j ≡ true → f j < m)
    → ((i j : ℕ) → i < n → j < n → p i ≡ true → p j ≡ true → f i ≡ f j → i ≡ j) → count_below p n ≡ count_below (λ a. some_below (λ j. eqb (f j) a && p j) n) m
image_count p f zero m low one = sym (count_none (λ a. some_below (λ j. eqb (f j) a && p j) 0) m (λ _ _. refl))
image_count p f (suc n) m low one =
    let fewer = image_count p f n m (λ j lt. low j (omega arith)) (λ i j li lj. one i j (omega arith) (omega arith)) in
    ⊎_elim
    (λ (e : p n ≡ true).
    cond-true (p n) (suc (count_below p n)) (count_below p n) e ∙ ap suc fewer
    ∙ sym (count_less (λ a. some_below (λ j. eqb (f j) a && p j) (suc n)) (λ a. some_below (λ j. eqb (f j) a && p j) n) m (f n) (low n (omega arith) e)
    (or_left (eqb (f n) (f n) && p n) (some_below (λ j. eqb (f j) (f n) && p j) n) (and_from (eqb (f n) (f n)) (p n) (eq-eqb (f n) (f n) refl) e))
    (some_none (λ j. eqb (f j) (f n) && p j) n (λ j lt. false_from (eqb (f j) (f n) && p j) (λ t.
    let w = and_parts (eqb (f j) (f n)) (p j) t in let z = one j n (omega arith) (omega arith) w.1 e (eqb-true (f j) (f n) w.0) in omega arith)))
    (λ a _ ne. ap (λ (b : Bool). b || some_below (λ j. eqb (f j) a && p j) n) (and_left (eqb (f n) a) (p n) (ne_eqb (f n) a (λ z. ne (sym z)))))))
    (λ (e : p n ≡ false).
    cond-false (p n) (suc (count_below p n)) (count_below p n) e ∙ fewer
    ∙ count_same (λ a. some_below (λ j. eqb (f j) a && p j) n) (λ a. some_below (λ j. eqb (f j) a && p j) (suc n)) m
    (λ a _. sym (ap (λ (b : Bool). b || some_below (λ j. eqb (f j) a && p j) n) (and_right (eqb (f n) a) (p n) e))))
    (cases_Bool (p n))

-- the put of x began after event q
abbrev pub later : List Event → ℕ → ℕ → ℕ → Bool
later h i x q = some_below (λ p. tells 1 h x p && ltb q p) i

module _ (h : List Event) (F : Formed h) (i : ℕ) (le : i ≤ length h) where
  -- an item accepted before event i is one of those begun before it
  pub accepted_begun : (q : ℕ) → q < i → kind_at h q ≡ 3 → item_at h q < suc (puts_before h i)
  accepted_begun q lt e =
      let P = put_of h F 3 q (inl refl) (omega arith) e in let b = P.0.at in
      let x = put_item h b (F b (omega (arith, P.0.earlier))) P.0.kind_is in
      let s = cond-true (is 1 h b) (suc (puts_before h b)) (puts_before h b) (eq-eqb (kind_at h b) 1 P.0.kind_is) in
      omega (arith, P.1, x, s, count_mono (is 1 h) (suc b) i (omega (arith, P.0.earlier)))

  three : (q : ℕ) → holds h i q ≡ true → kind_at h q ≡ 3
  three q e = eqb-true (kind_at h q) 3 (and_parts (is 3 h q) (held h i (item_at h q)) e).0

  holds_from : (a q : ℕ) → held h i a ≡ true → tells 3 h a q ≡ true → holds h i q ≡ true
  holds_from a q e t = let p = tells_parts 3 h a q t in and_from (is 3 h q) (held h i (item_at h q)) (eq-eqb (kind_at h q) 3 p.0) (ap (held h i) p.1 ∙ e)

  once : (p q : ℕ) → p < i → q < i → kind_at h p ≡ 3 → kind_at h q ≡ 3 → item_at h p ≡ item_at h q → p ≡ q
  once p q lp lq a b e = accepts_once h F (item_at h q) p q (omega arith) (omega arith) (tells_from 3 h (item_at h q) p a e) (tells_from 3 h (item_at h q) q b refl)

  pub held_count : count_below (holds h i) i ≡ count_items h i (held h i)
  held_count =
      image_count (holds h i) (item_at h) i (suc (puts_before h i)) (λ q lt e. accepted_begun q lt (three q e)) (λ p q lp lq a b. once p q lp lq (three p a) (three q b))
      ∙ count_same (λ a. some_below (λ q. eqb (item_at h q) a && holds h i q) i) (held h i) (suc (puts_before h i)) (λ a _. bool_iff (some_below (λ q. eqb (item_at h q) a && holds h i q) i) (held h i a)
      (λ e. let s = some_find (λ q. eqb (item_at h q) a && holds h i q) i e in let w = and_parts (eqb (item_at h s.0) a) (holds h i s.0) s.1.1 in
      ap (held h i) (sym (eqb-true (item_at h s.0) a w.0)) ∙ (and_parts (is 3 h s.0) (held h i (item_at h s.0)) w.1).1)
      (λ e. let s = some_find (tells 3 h a) i (and_parts (accepted h i a) (not (handed_out h i a)) e).0 in
      some_at (λ q. eqb (item_at h q) a && holds h i q) i s.0 s.1.0 (and_from (eqb (item_at h s.0) a) (holds h i s.0) (eq-eqb (item_at h s.0) a (tells_parts 3 h a s.0 s.1.1).1) (holds_from a s.0 e s.1.1))))

  pub older_count : (x : ℕ) → count_below (λ q. holds h i q && later h i x q) i ≡ count_items h i (λ a. held h i a && younger h i a x)
  older_count x =
      image_count (λ q. holds h i q && later h i x q) (item_at h) i (suc (puts_before h i)) (λ q lt e. accepted_begun q lt (three q (and_parts (holds h i q) (later h i x q) e).0))
      (λ p q lp lq a b. once p q lp lq (three p (and_parts (holds h i p) (later h i x p) a).0) (three q (and_parts (holds h i q) (later h i x q) b).0))
      ∙ count_same (λ a. some_below (λ q. eqb (item_at h q) a && (holds h i q && later h i x q)) i) (λ a. held h i a && younger h i a x) (suc (puts_before h i)) (λ a _.
      bool_iff (some_below (λ q. eqb (item_at h q) a && (holds h i q && later h i x q)) i) (held h i a && younger h i a x)
      (λ e. let s = some_find (λ q. eqb (item_at h q) a && (holds h i q && later h i x q)) i e in let w = and_parts (eqb (item_at h s.0) a) (holds h i s.0 && later h i x s.0) s.1.1 in
      let v = and_parts (holds h i s.0) (later h i x s.0) w.1 in let own = eqb-true (item_at h s.0) a w.0 in
      let g = some_find (λ p. tells 1 h x p && ltb s.0 p) i v.1 in let u = and_parts (tells 1 h x g.0) (ltb s.0 g.0) g.1.1 in
      and_from (held h i a) (younger h i a x) (ap (held h i) (sym own) ∙ (and_parts (is 3 h s.0) (held h i (item_at h s.0)) v.0).1)
      (some_at (λ p. tells 1 h x p && accepted h p a) i g.0 g.1.0 (and_from (tells 1 h x g.0) (accepted h g.0 a) u.0
      (some_at (tells 3 h a) g.0 s.0 (ltb-true s.0 g.0 u.1) (tells_from 3 h a s.0 (three s.0 v.0) own)))))
      (λ e. let w = and_parts (held h i a) (younger h i a x) e in
      let g = some_find (λ p. tells 1 h x p && accepted h p a) i w.1 in let u = and_parts (tells 1 h x g.0) (accepted h g.0 a) g.1.1 in
      let s = some_find (tells 3 h a) g.0 u.1 in
      some_at (λ q. eqb (item_at h q) a && (holds h i q && later h i x q)) i s.0 (omega (arith, s.1.0, g.1.0))
      (and_from (eqb (item_at h s.0) a) (holds h i s.0 && later h i x s.0) (eq-eqb (item_at h s.0) a (tells_parts 3 h a s.0 s.1.1).1)
      (and_from (holds h i s.0) (later h i x s.0) (holds_from a s.0 w.0 s.1.1)
      (some_at (λ p. tells 1 h x p && ltb s.0 p) i g.0 g.1.0 (and_from (tells 1 h x g.0) (ltb s.0 g.0) u.0 (lt-ltb s.0 g.0 s.1.0)))))))
