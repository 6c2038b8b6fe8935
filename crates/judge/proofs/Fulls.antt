-- A put is answered full.
use Rattle.std.proofs.Common.{◌≡◌, ℕ, ◌+◌, ◌-◌, ◌*◌, ◌<◌, ◌≤◌, true, false, ◌⊎◌, List, get_or, set, sym, refl, ◌∙◌, subst, inr, ⊎_elim, arith}
use Rattle.std.proofs.lemmas.Bool.{both_ways}
use Rattle.history.specs.Events.{kind_at, item_at}
use Rattle.history.specs.Items.{handed_out}
use Rattle.judge.specs.Flights.{together}
use Rattle.history.specs.Faults.{Fault1, Clean, Lowest}
use Rattle.history.specs.declared.event.Event.{Event}
use Rattle.history.proofs.Faults.{lowest1, lowest5, clean4}
use Rattle.judge.specs.Rows.{blank}
use Rattle.judge.specs.State.{ItemsAre}
use Rattle.judge.specs.declared.row.Row.{Row}
use Rattle.judge.specs.declared.seen.Seen.{Seen}
use Rattle.judge.proofs.Ready.{Ready}
use Rattle.judge.proofs.Together.{apart_from, apart_to}
use Rattle.judge.proofs.Rows.{row_refused, rows_set}
use Rattle.judge.proofs.Held.{held_keep}
use Rattle.judge.proofs.Others.{items_next, answer_place, handed_is}
use Rattle.judge.proofs.Counting.{held_count}

module _ {k : ℕ} {h : List Event} {i : ℕ} {rows : List Row} {s : Seen} (R : Ready k h i rows s) (n : ℕ) (four : kind_at h i ≡ 4) where
  pub full_1 : (get_or rows (item_at h i - 1) blank).handed ≡ true → Lowest k n h 1 i
  full_1 e = lowest1 k n h i (inr (four, sym (handed_is R 4 (inr refl) four) ∙ e))

  no_1 : (get_or rows (item_at h i - 1) blank).handed ≡ false → Fault1 h i → ⊥
  no_1 e f = ⊎_elim (λ p. omega (arith, p.0)) (λ p. both_ways (handed_out h i (item_at h i)) (sym (handed_is R 4 (inr refl) four) ∙ e) p.1) f

  pub full_5 : (get_or rows (item_at h i - 1) blank).handed ≡ false → together h i ≡ false → s.held ≤ (n - 1) * k → Lowest k n h 5 i
  full_5 e t le = lowest5 k n h i (no_1 e) (four, (apart_from h R.formed i (omega (arith, R.within)) t, subst (λ (m : ℕ). m ≤ (n - 1) * k) (R.items.held_is ∙ held_count h R.formed i (omega (arith, R.within))) le))

  pub full_clean : (get_or rows (item_at h i - 1) blank).handed ≡ false → (together h i ≡ true) ⊎ ((n - 1) * k < s.held) → Clean k n h i
  full_clean e w = clean4 k n h i four (no_1 e) (λ f. ⊎_elim (λ t. both_ways (together h i) (apart_to h i f.1.0) t) (λ (lt : (n - 1) * k < s.held). omega (arith, lt, f.1.1, R.items.held_is, held_count h R.formed i (omega (arith, R.within)))) w)

  pub full_next : ItemsAre k h (i + 1) (set rows (item_at h i - 1) (row_refused (get_or rows (item_at h i - 1) blank))) s
  full_next = let p = answer_place R 4 (inr refl) four in
      items_next k h i rows _ s s R.slots (λ z. omega arith) R.items (rows_set h i 4 rows _ four (λ z. omega arith) p.0 p.1 refl R.items.rows_are) R.items.oldest_le R.items.none_older (R.items.held_is ∙ sym (held_keep h i (λ z. omega arith) (λ z. omega arith)))
