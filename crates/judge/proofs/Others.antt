-- An event other than a hand-out changes at most the row of its own item.
use Rattle.std.proofs.Common.{◌≡◌, ℕ, ◌+◌, ◌-◌, ◌<◌, ◌≤◌, true, false, ◌⊎◌, List, length, get_or, set, sym, refl, ap, ◌∙◌, inl, ⊎_elim, arith}
use Rattle.history.specs.Positions.{count_below}
use Rattle.history.specs.Events.{kind_at, item_at}
use Rattle.history.specs.Items.{handed_out}
use Rattle.history.specs.declared.event.Event.{Event}
use Rattle.history.proofs.Facts.{begun_few, answered_few}
use Rattle.history.proofs.Items.{passed_few_more}
use Rattle.judge.specs.Rows.{blank, RowsAre}
use Rattle.judge.specs.State.{holds, ItemsAre}
use Rattle.judge.specs.declared.row.Row.{Row}
use Rattle.judge.specs.declared.seen.Seen.{Seen}
use Rattle.judge.proofs.Ready.{Ready}
use Rattle.judge.proofs.Rows.{row_begun, row_accepted, rows_set, rows_keep}
use Rattle.judge.proofs.Held.{hold_falls, held_keep, held_gain, held_unchanged}
use Rattle.judge.proofs.Known.{row_at}

-- ONE MORE EVENT that is no 5
pub items_next : (k : ℕ) (h : List Event) (i : ℕ) (rows rows' : List Row) (s s' : Seen) → 0 < k → (kind_at h i ≡ 5 → ⊥) → ItemsAre k h i rows s
    → RowsAre h (i + 1) rows' → s'.oldest ≤ i → ((q : ℕ) → q < s'.oldest → holds h i q ≡ false) → s'.held ≡ count_below (holds h (i + 1)) (i + 1) → ItemsAre k h (i + 1) rows' s'
items_next k h i rows rows' s s' pos n5 I are le none c = record
    { rows_are = are; oldest_le = omega arith; none_older = λ q lt. hold_falls h i q (omega arith) (none q lt); held_is = c; few = passed_few_more k h i pos n5 I.few }

module _ {k : ℕ} {h : List Event} {i : ℕ} {rows : List Row} {s : Seen} (R : Ready k h i rows s) where
  pub put_place : kind_at h i ≡ 1 → (0 < item_at h i) × (item_at h i - 1 < length rows)
  put_place e = let b = begun_few h R.formed i R.within e in (b.0, omega (arith, b.0, b.1, R.fit))

  pub answer_place : (c : ℕ) → (c ≡ 3) ⊎ (c ≡ 4) → kind_at h i ≡ c → (0 < item_at h i) × (item_at h i - 1 < length rows)
  answer_place c w e = let b = answered_few h R.formed c i w R.within e in (b.0, omega (arith, b.0, b.1, R.fit))

  pub put_next : kind_at h i ≡ 1 → (r : Row) → r ≡ row_begun i (get_or rows (item_at h i - 1) blank)
      → ItemsAre k h (i + 1) (set rows (item_at h i - 1) r) s
  put_next e r is_r =
      let p = put_place e in
      items_next k h i rows (set rows (item_at h i - 1) r) s s R.slots (λ z. omega arith) R.items
      (rows_set h i 1 rows r e (λ z. omega arith) p.0 p.1 (sym is_r) R.items.rows_are)
      R.items.oldest_le R.items.none_older (R.items.held_is ∙ sym (held_keep h i (λ z. omega arith) (λ z. omega arith)))

  pub take_next : kind_at h i ≡ 2 → ItemsAre k h (i + 1) rows s
  take_next e = items_next k h i rows rows s s R.slots (λ z. omega arith) R.items (rows_keep h i 2 rows e (λ z. omega arith) (λ r. refl) R.items.rows_are) R.items.oldest_le R.items.none_older (R.items.held_is ∙ sym (held_keep h i (λ z. omega arith) (λ z. omega arith)))

  pub handed_is : (c : ℕ) → (c ≡ 3) ⊎ (c ≡ 4) → kind_at h i ≡ c → (get_or rows (item_at h i - 1) blank).handed ≡ handed_out h i (item_at h i)
  handed_is c w e = let p = answer_place c w e in ap (λ (r : Row). r.handed) (row_at h i (item_at h i) rows R.items.rows_are p.0 p.1)

  accept_rows : kind_at h i ≡ 3 → RowsAre h (i + 1) (set rows (item_at h i - 1) (row_accepted (get_or rows (item_at h i - 1) blank)))
  accept_rows e = let p = answer_place 3 (inl refl) e in rows_set h i 3 rows _ e (λ z. omega arith) p.0 p.1 refl R.items.rows_are

  pub accept_next : kind_at h i ≡ 3 → (s' : Seen) → s'.oldest ≡ s.oldest
      → (((get_or rows (item_at h i - 1) blank).handed ≡ false) × (s'.held ≡ s.held + 1)) ⊎ (((get_or rows (item_at h i - 1) blank).handed ≡ true) × (s'.held ≡ s.held))
      → ItemsAre k h (i + 1) (set rows (item_at h i - 1) (row_accepted (get_or rows (item_at h i - 1) blank))) s'
  accept_next e s' o w = items_next k h i rows _ s s' R.slots (λ z. omega arith) R.items (accept_rows e) (omega (arith, o, R.items.oldest_le)) (λ q lt. R.items.none_older q (omega (arith, o)))
      (⊎_elim (λ p. p.1 ∙ ap (λ (n : ℕ). n + 1) R.items.held_is ∙ sym (held_gain h i e (sym (handed_is 3 (inl refl) e) ∙ p.0)))
      (λ p. p.1 ∙ R.items.held_is ∙ sym (held_unchanged h i e (sym (handed_is 3 (inl refl) e) ∙ p.0))) w)
