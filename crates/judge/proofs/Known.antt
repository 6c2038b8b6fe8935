-- What the rows know of an item and of the acceptances.
use Rattle.std.proofs.Common.{◌≡◌, ℕ, suc, ◌-◌, ◌<◌, ◌≤◌, true, false, not, ◌&&◌, ltb, List, length, get_or, None, sym, refl, ap, ◌∙◌, inl, inr, ⊎_elim, arith}
use Rattle.std.proofs.lemmas.Bool.{eqb-true, and_parts, and_left, cases_Bool, ltb-true}
use Rattle.history.specs.Events.{kind_at, item_at, is, tells}
use Rattle.history.specs.Calls.{puts_before}
use Rattle.history.specs.WellFormed.{Formed}
use Rattle.history.specs.Items.{held}
use Rattle.history.specs.Faults.{Fault1}
use Rattle.history.specs.declared.event.Event.{Event}
use Rattle.history.proofs.Positions.{false_from, some_none, last_none}
use Rattle.history.proofs.Facts.{shape, tells_parts, begun_few, answered_few}
use Rattle.judge.specs.Rows.{blank, row_of, RowsAre}
use Rattle.judge.specs.State.{holds}
use Rattle.judge.specs.Walk.{free}
use Rattle.judge.specs.declared.row.Row.{Row}
use Rattle.judge.specs.declared.seen.Seen.{Seen}
use Rattle.judge.proofs.Ready.{Ready}
use Rattle.judge.proofs.Rows.{position_none}
use Rattle.judge.proofs.Held.{holds_is}

pub row_at : (h : List Event) (i x : ℕ) (rows : List Row) → RowsAre h i rows → 0 < x → x - 1 < length rows → get_or rows (x - 1) blank ≡ row_of h i x
row_at h i x rows are pos lt = let e : suc (x - 1) ≡ x = omega arith in are (x - 1) lt ∙ ap (row_of h i) e

-- the rows know which acceptances are of held items
pub free_holds : (h : List Event) (i : ℕ) (rows : List Row) → Formed h → i ≤ length h → puts_before h (length h) ≤ length rows → RowsAre h i rows → (q : ℕ) → q < i → free h rows q ≡ holds h i q
free_holds h i rows F le fit are q lt = ⊎_elim
    (λ (e : is 3 h q ≡ true).
    let a = answered_few h F 3 q (inl refl) (omega arith) (eqb-true (kind_at h q) 3 e) in
    ap (λ (r : Row). is 3 h q && not r.handed) (row_at h i (item_at h q) rows are a.0 (omega (arith, a.0, a.1))) ∙ sym (holds_is h i q lt))
    (λ (e : is 3 h q ≡ false). and_left (is 3 h q) (not (get_or rows (item_at h q - 1) blank).handed) e ∙ sym (and_left (is 3 h q) (held h i (item_at h q)) e))
    (cases_Bool (is 3 h q))

pub out_item : (h : List Event) (i : ℕ) → Formed h → i < length h → kind_at h i ≡ 5 → 0 < item_at h i
out_item h i F lt e = ltb-true 0 (item_at h i) (and_parts _ (ltb 0 (item_at h i)) (shape h i 5 (F i lt) e)).1

-- an item past the rows has not begun
pub past_rows : {k : ℕ} {h : List Event} {i : ℕ} {rows : List Row} {s : Seen} → Ready k h i rows s → kind_at h i ≡ 5 → length rows ≤ item_at h i - 1 → Fault1 h i
past_rows {h = h} {i = i} R e past = inl (
  e,
  inl (some_none (tells 1 h (item_at h i)) i (λ j l. false_from (tells 1 h (item_at h i) j) (λ t.
      let p = tells_parts 1 h (item_at h i) j t in let b = begun_few h R.formed j (omega (arith, R.within)) p.0 in omega (arith, b.0, b.1, p.1, R.fit)))),
)

-- an event 5 whose item has a row
module _ {k : ℕ} {h : List Event} {i : ℕ} {rows : List Row} {s : Seen} (R : Ready k h i rows s) (five : kind_at h i ≡ 5) (in_rows : item_at h i - 1 < length rows) where
  pos_x : 0 < item_at h i
  pos_x = out_item h i R.formed R.within five

  pub own_row : get_or rows (item_at h i - 1) blank ≡ row_of h i (item_at h i)
  own_row = row_at h i (item_at h i) rows R.items.rows_are pos_x in_rows

  pub unbegun : (get_or rows (item_at h i - 1) blank).began ≡ None → Fault1 h i
  unbegun e = inl (five, inl (last_none (tells 1 h (item_at h i)) i (position_none _ (ap (λ (r : Row). r.began) (sym own_row) ∙ e))))

  pub was_refused : (get_or rows (item_at h i - 1) blank).refused ≡ true → Fault1 h i
  was_refused e = inl (five, inr (inl (ap (λ (r : Row). r.refused) (sym own_row) ∙ e)))

  pub was_handed : (get_or rows (item_at h i - 1) blank).handed ≡ true → Fault1 h i
  was_handed e = inl (five, inr (inr (ap (λ (r : Row). r.handed) (sym own_row) ∙ e)))
