-- What holds of a history whose events are all well formed.
use Rattle.std.proofs.Common.{◌≡◌, ℕ, suc, ◌-◌, ◌<◌, ◌≤◌, true, false, cond, not, ◌&&◌, eqb, ltb, ◌≢◌, ◌⊎◌, List, length, sym, refl, ap, ◌∙◌, subst, inl, ⊎_elim, arith}
use Rattle.std.proofs.lemmas.Bool.{cases_order, eq-eqb, ne_eqb, eqb-true, eqb-false, cond-true, cond-false, and_parts, and_from, and_left, and_right}
use Rattle.history.specs.Positions.{count_below}
use Rattle.history.specs.Events.{event_at, kind_number, kind_at, thread_at, item_at, is, tells}
use Rattle.history.specs.Calls.{by, last_event, last_kind, in_flight}
use Rattle.history.specs.WellFormed.{suits, formed, Formed}
use Rattle.history.specs.declared.event.Event.{Event}
use Rattle.history.specs.declared.event.Kind.{Kind}
use Rattle.history.specs.declared.event.Kind.TheVariants.{PutBegun, TakeBegun, Accepted, Full, HandedOut, Empty}
use Rattle.history.proofs.Positions.{last_is, count_mono}

-- the kind that a number stands for
abbrev pub kind_of : ℕ → Kind
kind_of n = cond (eqb n 1) PutBegun (cond (eqb n 2) TakeBegun (cond (eqb n 3) Accepted (cond (eqb n 4) Full (cond (eqb n 5) HandedOut Empty))))

kind_back : (k : Kind) → kind_of (kind_number k) ≡ k
kind_back PutBegun = refl
kind_back TakeBegun = refl
kind_back Accepted = refl
kind_back Full = refl
kind_back HandedOut = refl
kind_back Empty = refl

pub kind_if : (k : Kind) (n : ℕ) → kind_number k ≡ n → k ≡ kind_of n
kind_if k n e = sym (kind_back k) ∙ ap kind_of e

-- an event's shape, by the number of its kind
pub shape : (h : List Event) (j n : ℕ) → formed h j ≡ true → kind_at h j ≡ n → suits (kind_of n) h j ≡ true
shape h j n f e = subst (λ (k : Kind). suits k h j ≡ true) (kind_if (event_at h j).kind n e) (and_parts (ltb (thread_at h j) 64) (suits (event_at h j).kind h j) f).1

pub tells_parts : (c : ℕ) (h : List Event) (x j : ℕ) → tells c h x j ≡ true → (kind_at h j ≡ c) × (item_at h j ≡ x)
tells_parts c h x j e = let p = and_parts (eqb (item_at h j) x) (eqb (kind_at h j) c) e in (eqb-true (kind_at h j) c p.1, eqb-true (item_at h j) x p.0)

pub tells_from : (c : ℕ) (h : List Event) (x j : ℕ) → kind_at h j ≡ c → item_at h j ≡ x → tells c h x j ≡ true
tells_from c h x j a b = and_from (eqb (item_at h j) x) (eqb (kind_at h j) c) (eq-eqb (item_at h j) x b) (eq-eqb (kind_at h j) c a)

pub tells_other : (c : ℕ) (h : List Event) (x j : ℕ) → (item_at h j ≡ x → ⊥) → tells c h x j ≡ false
tells_other c h x j f = and_left (eqb (item_at h j) x) (eqb (kind_at h j) c) (ne_eqb (item_at h j) x f)

pub tells_kind : (c : ℕ) (h : List Event) (x j : ℕ) → (kind_at h j ≡ c → ⊥) → tells c h x j ≡ false
tells_kind c h x j f = and_right (eqb (item_at h j) x) (eqb (kind_at h j) c) (ne_eqb (kind_at h j) c f)

pub put_item : (h : List Event) (j : ℕ) → formed h j ≡ true → kind_at h j ≡ 1 → item_at h j ≡ suc (count_below (is 1 h) j)
put_item h j f e = eqb-true (item_at h j) (suc (count_below (is 1 h) j)) (and_parts (not (in_flight h (thread_at h j) j)) (eqb (item_at h j) (suc (count_below (is 1 h) j))) (shape h j 1 f e)).1

-- a put begins once
module _ (h : List Event) (F : Formed h) where
  begins_order : (x p q : ℕ) → p < q → q < length h → tells 1 h x p ≡ true → tells 1 h x q ≡ true → ⊥
  begins_order x p q lt in_h a b =
      let A = tells_parts 1 h x p a in let B = tells_parts 1 h x q b in
      let ia = put_item h p (F p (omega arith)) A.0 in let ib = put_item h q (F q in_h) B.0 in
      let m = count_mono (is 1 h) (suc p) q lt in
      let s = cond-true (is 1 h p) (suc (count_below (is 1 h) p)) (count_below (is 1 h) p) (eq-eqb (kind_at h p) 1 A.0) in
      omega (arith, A.1, B.1, ia, ib, m, s)

  pub begins_once : (x p q : ℕ) → p < length h → q < length h → tells 1 h x p ≡ true → tells 1 h x q ≡ true → p ≡ q
  begins_once x p q lp lq a b = ⊎_elim (λ e. e) (⊎_elim (λ (l : p < q). absurd (begins_order x p q l lq a b)) (λ (l : q < p). absurd (begins_order x q p l lp b a))) (cases_order p q)

  -- the begin of the call that event j answers
  pub record Begin (c j : ℕ) : Type 0 where
    pub at : ℕ
    pub earlier : at < j
    pub kind_is : kind_at h at ≡ c
    pub same : thread_at h at ≡ thread_at h j
    pub none_between : (m : ℕ) → at < m → m < j → by h (thread_at h j) m ≡ false
    pub before_is : last_event h (thread_at h j) j ≡ suc at

  pub called : (c j : ℕ) → 0 < c → last_kind h (thread_at h j) j ≡ c → Begin c j
  called c j pos e =
      let b = last_event h (thread_at h j) j in
      let some_b : b ≢ 0 = λ z. let q = cond-true (eqb b 0) 0 (kind_at h (b - 1)) (eq-eqb b 0 z) in omega arith in
      let is : b ≡ suc (b - 1) = omega arith in
      let l = last_is (by h (thread_at h j)) j (b - 1) is in
      record {
        at = b - 1;
        earlier = l.0;
        kind_is = sym (cond-false (eqb b 0) 0 (kind_at h (b - 1)) (ne_eqb b 0 some_b)) ∙ e;
        same = eqb-true (thread_at h (b - 1)) (thread_at h j) l.1.0;
        none_between = l.1.1;
        before_is = is;
      }

  -- the put that event j, of kind 3 or 4, answers
  pub put_of : (c j : ℕ) → (c ≡ 3) ⊎ (c ≡ 4) → j < length h → kind_at h j ≡ c → (B : Begin 1 j) × (item_at h B.at ≡ item_at h j)
  put_of c j w lt e =
      let s : (eqb (last_kind h (thread_at h j) j) 1 && eqb (item_at h j) (item_at h (last_event h (thread_at h j) j - 1))) ≡ true =
      ⊎_elim (λ (q : c ≡ 3). shape h j 3 (F j lt) (e ∙ q)) (λ (q : c ≡ 4). shape h j 4 (F j lt) (e ∙ q)) w in
      let p = and_parts (eqb (last_kind h (thread_at h j) j) 1) (eqb (item_at h j) (item_at h (last_event h (thread_at h j) j - 1))) s in
      let B = called 1 j (omega arith) (eqb-true (last_kind h (thread_at h j) j) 1 p.0) in
      let i = eqb-true (item_at h j) (item_at h (last_event h (thread_at h j) j - 1)) p.1 in
      let r : last_event h (thread_at h j) j - 1 ≡ B.at = omega (arith, B.before_is) in
      (B, sym (i ∙ ap (item_at h) r))

  accepts_order : (x p q : ℕ) → p < q → q < length h → tells 3 h x p ≡ true → tells 3 h x q ≡ true → ⊥
  accepts_order x p q lt in_h a b =
      let A = tells_parts 3 h x p a in let B = tells_parts 3 h x q b in
      let P = put_of 3 p (inl refl) (omega arith) A.0 in let Q = put_of 3 q (inl refl) in_h B.0 in
      let e = begins_once x P.0.at Q.0.at (omega (arith, P.0.earlier)) (omega (arith, Q.0.earlier))
      (tells_from 1 h x P.0.at P.0.kind_is (P.1 ∙ A.1)) (tells_from 1 h x Q.0.at Q.0.kind_is (Q.1 ∙ B.1)) in
      let t : thread_at h p ≡ thread_at h q = sym P.0.same ∙ ap (thread_at h) e ∙ Q.0.same in
      eqb-false (thread_at h p) (thread_at h q) (Q.0.none_between p (omega (arith, P.0.earlier, e)) lt) t

  -- an item is accepted once
  pub accepts_once : (x p q : ℕ) → p < length h → q < length h → tells 3 h x p ≡ true → tells 3 h x q ≡ true → p ≡ q
  accepts_once x p q lp lq a b = ⊎_elim (λ e. e) (⊎_elim (λ (l : p < q). absurd (accepts_order x p q l lq a b)) (λ (l : q < p). absurd (accepts_order x q p l lp b a))) (cases_order p q)

  -- the items of the events 1, 3 and 4 are among the puts begun
  pub begun_few : (j : ℕ) → j < length h → kind_at h j ≡ 1 → (0 < item_at h j) × (item_at h j ≤ count_below (is 1 h) (length h))
  begun_few j lt e =
      let i = put_item h j (F j lt) e in
      let s = cond-true (is 1 h j) (suc (count_below (is 1 h) j)) (count_below (is 1 h) j) (eq-eqb (kind_at h j) 1 e) in
      (omega arith, omega (arith, s, count_mono (is 1 h) (suc j) (length h) lt))

  pub answered_few : (c j : ℕ) → (c ≡ 3) ⊎ (c ≡ 4) → j < length h → kind_at h j ≡ c → (0 < item_at h j) × (item_at h j ≤ count_below (is 1 h) (length h))
  answered_few c j w lt e =
      let P = put_of c j w lt e in let b = begun_few P.0.at (omega (arith, P.0.earlier)) P.0.kind_is in
      (omega (arith, b.0, P.1), omega (arith, b.1, P.1))
