-- What one more event changes of the items.
use Rattle.std.proofs.Common.{◌≡◌, ℕ, ◌+◌, ◌<◌, Bool, true, false, not, ◌&&◌, ◌||◌, eqb, List, sym, ap, ◌∙◌, ⊎_elim, arith}
use Rattle.std.proofs.lemmas.Bool.{both_ways, cond-false, ne_eqb, and_parts, and_from, and_left, and_right, cases_Bool}
use Rattle.history.specs.Positions.{count_below}
use Rattle.history.specs.Events.{kind_at, item_at, is, tells}
use Rattle.history.specs.Items.{accepted, handed_out, held, younger, passes}
use Rattle.history.specs.declared.event.Event.{Event}
use Rattle.history.proofs.Positions.{some_more, count_more, false_from, count_none, some_mono}
use Rattle.history.proofs.Facts.{tells_kind}

pub handed_out_more : (h : List Event) (i x : ℕ) → handed_out h (i + 1) x ≡ (tells 5 h x i || handed_out h i x)
handed_out_more h i x = some_more (tells 5 h x) i

pub handed_out_same : (h : List Event) (i x : ℕ) → tells 5 h x i ≡ false → handed_out h (i + 1) x ≡ handed_out h i x
handed_out_same h i x e = handed_out_more h i x ∙ ap (λ (b : Bool). b || handed_out h i x) e

-- only an event 5 passes an item
pub no_pass : (h : List Event) (a i : ℕ) → (kind_at h i ≡ 5 → ⊥) → passes h a i ≡ false
no_pass h a i f =
    and_left (is 5 h i && not (eqb a (item_at h i))) (held h i a && younger h i a (item_at h i)) (and_left (is 5 h i) (not (eqb a (item_at h i))) (ne_eqb (kind_at h i) 5 f))

-- an item not accepted yet was passed by nothing
pub unaccepted_unpassed : (h : List Event) (i a : ℕ) → accepted h i a ≡ false → count_below (passes h a) i ≡ 0
unaccepted_unpassed h i a e = count_none (passes h a) i (λ j lt. and_right (is 5 h j && not (eqb a (item_at h j))) (held h j a && younger h j a (item_at h j))
    (and_left (held h j a) (younger h j a (item_at h j)) (and_left (accepted h j a) (not (handed_out h j a)) (false_from (accepted h j a) (λ t. both_ways (accepted h i a) e (some_mono (tells 3 h a) j i (omega arith) t))))))

-- where no held item was passed k times, an event other than 5 leaves it so
pub passed_few_more : (k : ℕ) (h : List Event) (i : ℕ) → 0 < k → (kind_at h i ≡ 5 → ⊥) → ((a : ℕ) → held h i a ≡ true → count_below (passes h a) i < k) → (a : ℕ) → held h (i + 1) a ≡ true → count_below (passes h a) (i + 1) < k
passed_few_more k h i pos n5 few a e =
    let c = count_more (passes h a) i ∙ cond-false (passes h a i) _ _ (no_pass h a i n5) in
    let p = and_parts (accepted h (i + 1) a) (not (handed_out h (i + 1) a)) e in
    let n : not (handed_out h i a) ≡ true = ap not (sym (handed_out_same h i a (tells_kind 5 h a i n5))) ∙ p.1 in
    ⊎_elim (λ (t : accepted h i a ≡ true). omega (arith, c, few a (and_from (accepted h i a) (not (handed_out h i a)) t n)))
    (λ (t : accepted h i a ≡ false). omega (arith, c, unaccepted_unpassed h i a t)) (cases_Bool (accepted h i a))
