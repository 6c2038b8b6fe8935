-- An item is handed out that was begun, not refused and not handed out before: what the walk over the acceptances shows.
use Rattle.std.proofs.Common.{◌≡◌, ℕ, suc, ◌+◌, ◌-◌, ◌<◌, ◌≤◌, Bool, true, false, cond, not, ◌&&◌, ◌||◌, eqb, ltb, ◌≢◌, List, length, get_or, set, Some, None, sym, refl, ap, ◌∙◌, subst, ⊎_elim, add-one, arith}
use Rattle.std.proofs.lemmas.List.{get_or-set_same, get_or-set_other, length-set}
use Rattle.std.proofs.lemmas.Bool.{both_ways, cond-false, cond-true, ne_eqb, eq-eqb, and_parts, and_from, and_right, or_left, or_right, not-true, not_from_false, cases_Bool, cases_eq, cases_lt, lt-ltb, le-ltb}
use Rattle.history.specs.Positions.{count_below}
use Rattle.history.specs.Events.{kind_at, item_at, is, tells}
use Rattle.history.specs.Items.{accepted, handed_out, held, passes}
use Rattle.history.specs.Faults.{Fault2, Fault3, Clean, Lowest}
use Rattle.history.specs.declared.event.Event.{Event}
use Rattle.history.proofs.Positions.{some_more, false_from, some_at, some_find, count_same, count_front}
use Rattle.history.proofs.Facts.{tells_parts, tells_from, tells_kind}
use Rattle.history.proofs.Items.{handed_out_more}
use Rattle.history.proofs.Faults.{lowest2, lowest3, clean5}
use Rattle.judge.specs.Rows.{blank, row_of, RowsAre}
use Rattle.judge.specs.State.{holds, ItemsAre}
use Rattle.judge.specs.Walk.{free, bumped, passed, Walk, Walked}
use Rattle.judge.specs.declared.row.Row.{Row}
use Rattle.judge.specs.declared.seen.Seen.{Seen}
use Rattle.judge.proofs.Ready.{Fresh}
use Rattle.judge.proofs.Rows.{row_handed, row_step, row_next}
use Rattle.judge.proofs.Held.{hold_falls, held_loss, held_none}
use Rattle.judge.proofs.Known.{out_item}
use Rattle.judge.proofs.Counting.{later, older_count}
use Rattle.judge.proofs.Walks.{passed_new}
use Rattle.judge.proofs.Fresh.{own_row_is, put_is, no_fault1, later_is, own_not_older, passes_is, passes_own, free_is, free_held}

module _ {k : ℕ} {h : List Event} {i put_at : ℕ} {rows : List Row} {s : Seen} (K : Fresh k h i put_at rows s) where
  pub walk : (o : ℕ) → o ≤ i → ((q : ℕ) → q < o → holds h i q ≡ false) → Walk k h rows o put_at
  walk o le none = record {
    short = K.ready.short;
    within = omega (arith, K.ready.within, (put_is K).0);
    formed = K.ready.formed;
    fit = K.ready.fit;
    none_older = λ q lt. free_is K q (omega arith) ∙ none q lt;
    few = λ q lt e. let f = free_held K q (omega (arith, (put_is K).0)) e in subst (λ (r : Row). r.passes < k) (sym f.1.1) (K.ready.items.few (item_at h q) f.1.0);
  }

  fault2 : (rows' : List Row) → Walked k h put_at rows rows' None → Fault2 k h i
  fault2 rows' w =
      let q = w.0 in let lt = w.1.0 in
      let f = free_held K q (omega (arith, (put_is K).0, lt)) w.1.1.0 in
      let a = item_at h q in
      let acc : accepted h put_at a ≡ true = some_at (tells 3 h a) put_at q lt (tells_from 3 h a q f.0 refl) in
      let ne : a ≢ item_at h i = λ e. both_ways (accepted h put_at (item_at h i)) (own_not_older K) (ap (accepted h put_at) (sym e) ∙ acc) in
      let now : passes h a i ≡ true = passes_is K a ne ∙ and_from (accepted h put_at a) (not (handed_out h i a)) acc (and_parts (accepted h i a) (not (handed_out h i a)) f.1.0).1 in
      let c = cond-true (passes h a i) (suc (count_below (passes h a) i)) (count_below (passes h a) i) now in
      let r = ap (λ (r : Row). r.passes) f.1.1 in
      (K.five, (a, (f.1.0, (ne, omega (arith, c, r, w.1.1.1)))))

  -- the walk is given k as a number
  pub shows2 : (n k' : ℕ) (rows' : List Row) → k' ≡ k → Walked k' h put_at rows rows' None → Lowest k n h 2 i
  shows2 n k' rows' is_k w = lowest2 k n h i (no_fault1 K) (fault2 rows' (subst (λ (m : ℕ). Walked m h put_at rows rows' None) is_k w))

  pub held_fewer : (get_or rows (item_at h i - 1) blank).accepted ≡ true → s.held ≡ count_below (holds h (i + 1)) (i + 1) + 1
  held_fewer e =
      K.ready.items.held_is
      ∙ held_loss h K.ready.formed i K.ready.within K.five (ap (λ (r : Row). r.accepted) (sym (own_row_is K)) ∙ e) (ap (λ (r : Row). r.handed) (sym (own_row_is K)) ∙ K.not_handed)

  pub held_as_before : (get_or rows (item_at h i - 1) blank).accepted ≡ false → s.held ≡ count_below (holds h (i + 1)) (i + 1)
  held_as_before e = K.ready.items.held_is ∙ sym (held_none h K.ready.formed i K.ready.within K.five (ap (λ (r : Row). r.accepted) (sym (own_row_is K)) ∙ e))

  module _ (k' : ℕ) (rows' : List Row) (older : ℕ) (is_k : k' ≡ k) (given : Walked k' h put_at rows rows' (Some older)) where
    w : Walked k h put_at rows rows' (Some older)
    w = subst (λ (m : ℕ). Walked m h put_at rows rows' (Some older)) is_k given

    no_fault2 : Fault2 k h i → ⊥
    no_fault2 f =
        let a = f.1.0 in let hl = f.1.1.0 in let ne = f.1.1.1.0 in let le = f.1.1.1.1 in
        ⊎_elim
        (λ (t : passes h a i ≡ true).
        let p = and_parts (accepted h put_at a) (not (handed_out h i a)) (sym (passes_is K a ne) ∙ t) in
        let s = some_find (tells 3 h a) put_at p.0 in let u = tells_parts 3 h a s.0 s.1.1 in
        let fr : free h rows s.0 ≡ true = free_is K s.0 (omega (arith, (put_is K).0, s.1.0)) ∙ and_from (is 3 h s.0) (held h i (item_at h s.0)) (eq-eqb (kind_at h s.0) 3 u.0) (ap (held h i) u.1 ∙ hl) in
        let g = free_held K s.0 (omega (arith, (put_is K).0, s.1.0)) fr in
        let c = cond-true (passes h a i) (suc (count_below (passes h a) i)) (count_below (passes h a) i) t in
        let r = ap (λ (r : Row). r.passes) g.1.1 ∙ ap (λ (x : ℕ). count_below (passes h x) i) u.1 in
        omega (arith, w.1.1 s.0 s.1.0 fr, c, r, le))
        (λ (t : passes h a i ≡ false).
        let c = cond-false (passes h a i) (suc (count_below (passes h a) i)) (count_below (passes h a) i) t in
        omega (arith, c, K.ready.items.few a hl, le))
        (cases_Bool (passes h a i))

    older_counted : count_below (λ q. holds h i q && later h i (item_at h i) q) i ≡ older
    older_counted =
        count_same (λ q. holds h i q && later h i (item_at h i) q) (λ q. holds h i q && ltb q put_at) i (λ j _. ap (λ (b : Bool). holds h i j && b) (later_is K j))
        ∙ count_front (λ q. holds h i q && ltb q put_at) put_at i (omega (arith, (put_is K).0)) (λ j le _. and_right (holds h i j) (ltb j put_at) (le-ltb j put_at le))
        ∙ count_same (λ q. holds h i q && ltb q put_at) (free h rows) put_at (λ j lt. and_last (holds h i j) (ltb j put_at) (lt-ltb j put_at lt) ∙ sym (free_is K j (omega (arith, (put_is K).0))))
        ∙ sym w.0
      where
        and_last : (a b : Bool) → b ≡ true → (a && b) ≡ a
        and_last a b e = ap (λ (x : Bool). a && x) e ∙ and_true a
          where
            and_true : (a : Bool) → (a && true) ≡ a
            and_true true = refl
            and_true false = refl

    fault3 : k ≤ older → Fault3 k h i
    fault3 le = (K.five, omega (arith, older_counted, older_count h K.ready.formed i (omega (arith, K.ready.within)) (item_at h i)))

    no_fault3 : older < k → Fault3 k h i → ⊥
    no_fault3 lt f = omega (arith, older_counted, f.1, older_count h K.ready.formed i (omega (arith, K.ready.within)) (item_at h i))

    out_own : get_or rows' (item_at h i - 1) blank ≡ row_of h i (item_at h i)
    out_own =
        let e : item_at h i ≡ suc (item_at h i - 1) = omega (arith, out_item h i K.ready.formed K.ready.within K.five) in
        w.1.0 (item_at h i - 1) K.in_rows ∙ passed_new h (suc (item_at h i - 1)) (get_or rows (item_at h i - 1) blank) put_at (ap (accepted h put_at) (sym e) ∙ (own_not_older K)) ∙ own_row_is K

    rows_out : length rows' ≡ length rows → RowsAre h (i + 1) (set rows' (item_at h i - 1) (row_handed (get_or rows' (item_at h i - 1) blank)))
    rows_out len m lt = ⊎_elim
        (λ (t : m ≡ item_at h i - 1).
        let is_own : suc m ≡ item_at h i = omega (arith, out_item h i K.ready.formed K.ready.within K.five) in
        ap (λ (j : ℕ). get_or (set rows' (item_at h i - 1) (row_handed (get_or rows' (item_at h i - 1) blank))) j blank) t
        ∙ get_or-set_same rows' (item_at h i - 1) (row_handed (get_or rows' (item_at h i - 1) blank)) blank (omega arith) ∙ ap row_handed out_own
        ∙ sym (ap (row_of h (i + 1)) is_own ∙ row_next h i (item_at h i)
        ∙ ap (λ (n : ℕ). row_step n (eqb (item_at h i) (item_at h i)) i (passes h (item_at h i) i) (row_of h i (item_at h i))) K.five
        ∙ ap (λ (b : Bool). row_step 5 b i (passes h (item_at h i) i) (row_of h i (item_at h i))) (eq-eqb (item_at h i) (item_at h i) refl)
        ∙ ap (λ (b : Bool). row_step 5 true i b (row_of h i (item_at h i))) (passes_own K)))
        (λ (t : m ≡ item_at h i - 1 → ⊥).
        let lt' : m < length rows = omega (arith, len, length-set rows' (item_at h i - 1) (row_handed (get_or rows' (item_at h i - 1) blank))) in
        let ne : suc m ≢ item_at h i = λ z. t (omega arith) in
        get_or-set_other rows' (item_at h i - 1) m (row_handed (get_or rows' (item_at h i - 1) blank)) blank t ∙ w.1.0 m lt' ∙ ap (λ (r : Row). passed h put_at r (suc m)) (K.ready.items.rows_are m lt')
        ∙ pick (accepted h put_at (suc m) && not (handed_out h i (suc m))) (row_of h i (suc m))
        ∙ sym (row_next h i (suc m)
        ∙ ap (λ (n : ℕ). row_step n (eqb (item_at h i) (suc m)) i (passes h (suc m) i) (row_of h i (suc m))) K.five
        ∙ ap (λ (b : Bool). row_step 5 b i (passes h (suc m) i) (row_of h i (suc m))) (ne_eqb (item_at h i) (suc m) (λ z. ne (sym z)))
        ∙ ap (λ (b : Bool). row_step 5 false i b (row_of h i (suc m))) (passes_is K (suc m) ne)))
        (cases_eq m (item_at h i - 1))
      where
        pick : (p : Bool) (r : Row) → cond p (bumped r) r ≡ row_step 5 false i p r
        pick true r = ap (λ (n : ℕ). record { began = r.began; passes = n; accepted = r.accepted; refused = r.refused; handed = r.handed }) (add-one r.passes)
        pick false r = refl

    few_out : (a : ℕ) → held h (i + 1) a ≡ true → count_below (passes h a) (i + 1) < k
    few_out a e =
        let p = and_parts (accepted h (i + 1) a) (not (handed_out h (i + 1) a)) e in
        let out = not-true (handed_out h (i + 1) a) p.1 in
        let here : tells 5 h a i ≡ false = false_from (tells 5 h a i) (λ t. both_ways (handed_out h (i + 1) a) out (handed_out_more h i a ∙ or_left (tells 5 h a i) (handed_out h i a) t)) in
        let ne : a ≢ item_at h i = λ z. both_ways (tells 5 h a i) here (tells_from 5 h a i K.five (sym z)) in
        let n : handed_out h i a ≡ false = false_from (handed_out h i a) (λ t. both_ways (handed_out h (i + 1) a) out (handed_out_more h i a ∙ or_right (tells 5 h a i) (handed_out h i a) t)) in
        let acc : accepted h i a ≡ true = sym (some_more (tells 3 h a) i ∙ ap (λ (b : Bool). b || accepted h i a) (tells_kind 3 h a i (λ z. omega arith))) ∙ p.0 in
        let hl : held h i a ≡ true = and_from (accepted h i a) (not (handed_out h i a)) acc (not_from_false (handed_out h i a) n) in
        let c = ap (count_below (passes h a)) (add-one i) in
        ⊎_elim (λ (l : count_below (passes h a) (suc i) < k). omega (arith, c)) (λ (l : k ≤ count_below (passes h a) (suc i)). absurd (no_fault2 (K.five, (a, (hl, (ne, l)))))) (cases_lt (count_below (passes h a) (suc i)) k)

    items_out : (s' : Seen) → length rows' ≡ length rows → s'.oldest ≤ i → ((q : ℕ) → q < s'.oldest → holds h i q ≡ false) → s'.held ≡ count_below (holds h (i + 1)) (i + 1)
        → ItemsAre k h (i + 1) (set rows' (item_at h i - 1) (row_handed (get_or rows' (item_at h i - 1) blank))) s'
    items_out s' len le none c = record { rows_are = rows_out len; oldest_le = omega arith; none_older = λ q lt. hold_falls h i q (omega arith) (none q lt); held_is = c; few = few_out }

    pub shows3 : (n : ℕ) → k ≤ older → Lowest k n h 3 i
    shows3 n le = lowest3 k n h i (no_fault1 K) no_fault2 (fault3 le)

    pub goes_on : (n : ℕ) (s' : Seen) → older < k → length rows' ≡ length rows → s'.oldest ≤ i → ((q : ℕ) → q < s'.oldest → holds h i q ≡ false) → s'.held ≡ count_below (holds h (i + 1)) (i + 1)
        → Clean k n h i × ItemsAre k h (i + 1) (set rows' (item_at h i - 1) (row_handed (get_or rows' (item_at h i - 1) blank))) s'
    goes_on n s' lt len le none c = (clean5 k n h i K.five (no_fault1 K) no_fault2 (no_fault3 lt), items_out s' len le none c)
