-- Which acceptances are of held items, and how many, one event on.
use Rattle.std.proofs.Common.{◌≡◌, ℕ, suc, ◌+◌, ◌<◌, Bool, true, false, not, ◌&&◌, List, length, sym, refl, ap, ◌∙◌, ⊎_elim, add-one, arith}
use Rattle.std.proofs.lemmas.Bool.{both_ways, cond-false, cond-true, ne_eqb, eq-eqb, eqb-true, and_from, and_left, and_right, or_left, not_from_true, not_from_false, cases_Bool}
use Rattle.history.specs.Positions.{count_below}
use Rattle.history.specs.Events.{kind_at, item_at, is, tells}
use Rattle.history.specs.WellFormed.{Formed}
use Rattle.history.specs.Items.{accepted, handed_out, held}
use Rattle.history.specs.declared.event.Event.{Event}
use Rattle.history.proofs.Positions.{count_more, some_at, some_find, count_same, count_less}
use Rattle.history.proofs.Facts.{tells_parts, tells_from, tells_other, tells_kind, accepts_once}
use Rattle.history.proofs.Items.{handed_out_more, handed_out_same}
use Rattle.judge.specs.State.{holds}

pub holds_is : (h : List Event) (i q : ℕ) → q < i → holds h i q ≡ (is 3 h q && not (handed_out h i (item_at h q)))
holds_is h i q lt = ⊎_elim
    (λ (e : is 3 h q ≡ true). ap (λ (b : Bool). is 3 h q && (b && not (handed_out h i (item_at h q)))) (some_at (tells 3 h (item_at h q)) i q lt (tells_from 3 h (item_at h q) q (eqb-true (kind_at h q) 3 e) refl)))
    (λ (e : is 3 h q ≡ false). and_left (is 3 h q) (held h i (item_at h q)) e ∙ sym (and_left (is 3 h q) (not (handed_out h i (item_at h q))) e))
    (cases_Bool (is 3 h q))

pub hold_same : (h : List Event) (i q : ℕ) → q < i → tells 5 h (item_at h q) i ≡ false → holds h (i + 1) q ≡ holds h i q
hold_same h i q lt e = holds_is h (i + 1) q (omega arith) ∙ ap (λ (b : Bool). is 3 h q && not b) (handed_out_same h i (item_at h q) e) ∙ sym (holds_is h i q lt)

hold_no : (h : List Event) (i q : ℕ) → is 3 h q ≡ false → holds h i q ≡ false
hold_no h i q e = and_left (is 3 h q) (held h i (item_at h q)) e

-- what is not held is never held again
pub hold_falls : (h : List Event) (i q : ℕ) → q < i → holds h i q ≡ false → holds h (i + 1) q ≡ false
hold_falls h i q lt e = ⊎_elim
    (λ (t : tells 5 h (item_at h q) i ≡ true). holds_is h (i + 1) q (omega arith)
    ∙ and_right (is 3 h q) (not (handed_out h (i + 1) (item_at h q))) (not_from_true (handed_out h (i + 1) (item_at h q)) (handed_out_more h i (item_at h q) ∙ or_left (tells 5 h (item_at h q) i) (handed_out h i (item_at h q)) t)))
    (λ (t : tells 5 h (item_at h q) i ≡ false). hold_same h i q lt t ∙ e)
    (cases_Bool (tells 5 h (item_at h q) i))

-- the number held, where event i hands nothing out
pub held_on : (h : List Event) (i : ℕ) → (kind_at h i ≡ 5 → ⊥) → count_below (holds h (i + 1)) i ≡ count_below (holds h i) i
held_on h i n5 = count_same (holds h (i + 1)) (holds h i) i (λ j lt. hold_same h i j lt (tells_kind 5 h (item_at h j) i n5))

pub held_keep : (h : List Event) (i : ℕ) → (kind_at h i ≡ 5 → ⊥) → (kind_at h i ≡ 3 → ⊥) → count_below (holds h (i + 1)) (i + 1) ≡ count_below (holds h i) i
held_keep h i n5 n3 = count_more (holds h (i + 1)) i ∙ cond-false (holds h (i + 1) i) _ _ (hold_no h (i + 1) i (ne_eqb (kind_at h i) 3 n3)) ∙ held_on h i n5

hold_own : (h : List Event) (i : ℕ) → kind_at h i ≡ 3 → holds h (i + 1) i ≡ not (handed_out h i (item_at h i))
hold_own h i e =
    holds_is h (i + 1) i (omega arith) ∙ ap (λ (b : Bool). b && not (handed_out h (i + 1) (item_at h i))) (eq-eqb (kind_at h i) 3 e)
    ∙ ap not (handed_out_same h i (item_at h i) (tells_kind 5 h (item_at h i) i (λ z. omega arith)))

pub held_gain : (h : List Event) (i : ℕ) → kind_at h i ≡ 3 → handed_out h i (item_at h i) ≡ false → count_below (holds h (i + 1)) (i + 1) ≡ count_below (holds h i) i + 1
held_gain h i e f =
    count_more (holds h (i + 1)) i ∙ cond-true (holds h (i + 1) i) _ _ (hold_own h i e ∙ not_from_false (handed_out h i (item_at h i)) f)
    ∙ ap suc (held_on h i (λ z. omega arith)) ∙ sym (add-one (count_below (holds h i) i))

pub held_unchanged : (h : List Event) (i : ℕ) → kind_at h i ≡ 3 → handed_out h i (item_at h i) ≡ true → count_below (holds h (i + 1)) (i + 1) ≡ count_below (holds h i) i
held_unchanged h i e f =
    count_more (holds h (i + 1)) i ∙ cond-false (holds h (i + 1) i) _ _ (hold_own h i e ∙ not_from_true (handed_out h i (item_at h i)) f) ∙ held_on h i (λ z. omega arith)

-- the number held, where event i hands its item out: one less if the item was accepted
module _ (h : List Event) (F : Formed h) (i : ℕ) (in_h : i < length h) (five : kind_at h i ≡ 5) where
  out_last : count_below (holds h (i + 1)) (i + 1) ≡ count_below (holds h (i + 1)) i
  out_last = count_more (holds h (i + 1)) i ∙ cond-false (holds h (i + 1) i) _ _ (hold_no h (i + 1) i (ne_eqb (kind_at h i) 3 (λ z. omega arith)))

  pub held_loss : accepted h i (item_at h i) ≡ true → handed_out h i (item_at h i) ≡ false → count_below (holds h i) i ≡ count_below (holds h (i + 1)) (i + 1) + 1
  held_loss a n =
      let f = some_find (tells 3 h (item_at h i)) i a in let z = f.0 in let t = tells_parts 3 h (item_at h i) z f.1.1 in
      let yes_at : holds h i z ≡ true = holds_is h i z f.1.0 ∙ and_from (is 3 h z) (not (handed_out h i (item_at h z))) (eq-eqb (kind_at h z) 3 t.0) (not_from_false (handed_out h i (item_at h z)) (ap (handed_out h i) t.1 ∙ n)) in
      let no_at : holds h (i + 1) z ≡ false = holds_is h (i + 1) z (omega (arith, f.1.0)) ∙ and_right (is 3 h z) (not (handed_out h (i + 1) (item_at h z)))
      (not_from_true (handed_out h (i + 1) (item_at h z)) (handed_out_more h i (item_at h z) ∙ or_left (tells 5 h (item_at h z) i) (handed_out h i (item_at h z)) (tells_from 5 h (item_at h z) i five (sym t.1)))) in
      count_less (holds h i) (holds h (i + 1)) i z f.1.0 yes_at no_at (λ j lt ne. ⊎_elim
      (λ (e : is 3 h j ≡ true). sym (hold_same h i j lt (tells_other 5 h (item_at h j) i (λ s. ne (accepts_once h F (item_at h i) j z (omega arith) (omega (arith, f.1.0)) (tells_from 3 h (item_at h i) j (eqb-true (kind_at h j) 3 e) (sym s)) f.1.1)))))
      (λ (e : is 3 h j ≡ false). hold_no h i j e ∙ sym (hold_no h (i + 1) j e)) (cases_Bool (is 3 h j)))
      ∙ ap suc (sym out_last) ∙ sym (add-one (count_below (holds h (i + 1)) (i + 1)))

  pub held_none : accepted h i (item_at h i) ≡ false → count_below (holds h (i + 1)) (i + 1) ≡ count_below (holds h i) i
  held_none a = out_last ∙ count_same (holds h (i + 1)) (holds h i) i (λ j lt. ⊎_elim
      (λ (e : is 3 h j ≡ true). hold_same h i j lt (tells_other 5 h (item_at h j) i (λ s. both_ways (accepted h i (item_at h i)) a (some_at (tells 3 h (item_at h i)) i j lt (tells_from 3 h (item_at h i) j (eqb-true (kind_at h j) 3 e) (sym s))))))
      (λ (e : is 3 h j ≡ false). hold_no h (i + 1) j e ∙ sym (hold_no h i j e)) (cases_Bool (is 3 h j)))
