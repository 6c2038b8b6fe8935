-- An item is handed out that was begun, not refused and not handed out before.
use Rattle.std.proofs.Common.{◌≡◌, ℕ, ◌-◌, ◌<◌, Bool, true, false, not, ◌&&◌, eqb, ltb, ◌≢◌, List, get_or, sym, refl, ap, ◌∙◌, inl, ⊎_elim, arith}
use Rattle.std.proofs.lemmas.Bool.{both_ways, ne_eqb, eq-eqb, eqb-true, and_parts, and_left, and_right, not_from_true}
use Rattle.history.specs.Events.{kind_at, item_at, is, tells}
use Rattle.history.specs.Items.{begun, accepted, refused_as_full, handed_out, held, younger, passes}
use Rattle.history.specs.Faults.{Fault1}
use Rattle.history.specs.declared.event.Event.{Event}
use Rattle.history.proofs.Positions.{false_from, some_at, some_none, last_is, some_mono, some_one, bool_mid}
use Rattle.history.proofs.Facts.{tells_parts, tells_from, begins_once, put_of, answered_few}
use Rattle.judge.specs.Rows.{blank, row_of}
use Rattle.judge.specs.State.{holds}
use Rattle.judge.specs.Walk.{free}
use Rattle.judge.specs.declared.row.Row.{Row}
use Rattle.judge.specs.declared.seen.Seen.{Seen}
use Rattle.judge.proofs.Ready.{Ready, Fresh}
use Rattle.judge.proofs.Rows.{position_some}
use Rattle.judge.proofs.Known.{row_at, free_holds, own_row}
use Rattle.judge.proofs.Counting.{later}

module _ {k : ℕ} {h : List Event} {i put_at : ℕ} {rows : List Row} {s : Seen} (K : Fresh k h i put_at rows s) where
  R : Ready k h i rows s
  R = K.ready

  five : kind_at h i ≡ 5
  five = K.five

  pub own_row_is : get_or rows (item_at h i - 1) blank ≡ row_of h i (item_at h i)
  own_row_is = own_row R five K.in_rows

  not_out_before : handed_out h i (item_at h i) ≡ false
  not_out_before = ap (λ (r : Row). r.handed) (sym own_row_is) ∙ K.not_handed

  pub put_is : (put_at < i) × ((tells 1 h (item_at h i) put_at ≡ true) × ((m : ℕ) → put_at < m → m < i → tells 1 h (item_at h i) m ≡ false))
  put_is = last_is (tells 1 h (item_at h i)) i put_at (position_some _ put_at (ap (λ (r : Row). r.began) (sym own_row_is) ∙ K.began))

  pub no_fault1 : Fault1 h i → ⊥
  no_fault1 f = ⊎_elim
      (λ p. ⊎_elim (λ e. both_ways (begun h i (item_at h i)) e (some_at (tells 1 h (item_at h i)) i put_at put_is.0 put_is.1.0))
      (⊎_elim (λ e. both_ways (refused_as_full h i (item_at h i)) (ap (λ (r : Row). r.refused) (sym own_row_is) ∙ K.not_refused) e)
      (λ e. both_ways (handed_out h i (item_at h i)) not_out_before e)) p.1)
      (λ p. omega (arith, p.0)) f

  begun_there_alone : (j : ℕ) → j < i → j ≢ put_at → tells 1 h (item_at h i) j ≡ false
  begun_there_alone j lt ne = false_from (tells 1 h (item_at h i) j) (λ t. ne (begins_once h R.formed (item_at h i) j put_at (omega (arith, R.within)) (omega (arith, R.within, put_is.0)) t put_is.1.0))

  younger_is : (a : ℕ) → younger h i a (item_at h i) ≡ accepted h put_at a
  younger_is a = some_one (tells 1 h (item_at h i)) (λ p. accepted h p a) i put_at put_is.0 put_is.1.0 begun_there_alone

  pub later_is : (q : ℕ) → later h i (item_at h i) q ≡ ltb q put_at
  later_is q = some_one (tells 1 h (item_at h i)) (λ p. ltb q p) i put_at put_is.0 put_is.1.0 begun_there_alone

  -- the item itself is not among those accepted before its put began
  pub own_not_older : accepted h put_at (item_at h i) ≡ false
  own_not_older = some_none (tells 3 h (item_at h i)) put_at (λ j lt. false_from (tells 3 h (item_at h i) j) (λ t.
      let p = tells_parts 3 h (item_at h i) j t in let P = put_of h R.formed 3 j (inl refl) (omega (arith, R.within, put_is.0)) p.0 in
      let e = begins_once h R.formed (item_at h i) P.0.at put_at (omega (arith, R.within, put_is.0, P.0.earlier)) (omega (arith, R.within, put_is.0))
      (tells_from 1 h (item_at h i) P.0.at P.0.kind_is (P.1 ∙ p.1)) put_is.1.0 in
      omega (arith, e, P.0.earlier)))

  pub passes_is : (a : ℕ) → a ≢ item_at h i → passes h a i ≡ (accepted h put_at a && not (handed_out h i a))
  passes_is a ne =
      ap (λ (b : Bool). (b && not (eqb a (item_at h i))) && (held h i a && younger h i a (item_at h i))) (eq-eqb (kind_at h i) 5 five)
      ∙ ap (λ (b : Bool). not b && (held h i a && younger h i a (item_at h i))) (ne_eqb a (item_at h i) ne)
      ∙ ap (λ (b : Bool). held h i a && b) (younger_is a)
      ∙ bool_mid (accepted h i a) (not (handed_out h i a)) (accepted h put_at a) (some_mono (tells 3 h a) put_at i (omega (arith, put_is.0)))

  pub passes_own : passes h (item_at h i) i ≡ false
  passes_own = and_left (is 5 h i && not (eqb (item_at h i) (item_at h i))) (held h i (item_at h i) && younger h i (item_at h i) (item_at h i))
      (and_right (is 5 h i) (not (eqb (item_at h i) (item_at h i))) (not_from_true (eqb (item_at h i) (item_at h i)) (eq-eqb (item_at h i) (item_at h i) refl)))

  pub free_is : (q : ℕ) → q < i → free h rows q ≡ holds h i q
  free_is = free_holds h i rows R.formed (omega (arith, R.within)) R.fit R.items.rows_are

  pub free_held : (q : ℕ) → q < i → free h rows q ≡ true → (kind_at h q ≡ 3) × ((held h i (item_at h q) ≡ true) × (get_or rows (item_at h q - 1) blank ≡ row_of h i (item_at h q)))
  free_held q lt e =
      let w = and_parts (is 3 h q) (held h i (item_at h q)) (sym (free_is q lt) ∙ e) in let c = eqb-true (kind_at h q) 3 w.0 in
      let a = answered_few h R.formed 3 q (inl refl) (omega (arith, R.within)) c in
      (c, (w.1, row_at h i (item_at h q) rows R.items.rows_are a.0 (omega (arith, a.0, a.1, R.fit))))
