-- A take is answered empty.
use Rattle.std.proofs.Common.{◌≡◌, ℕ, ◌+◌, ◌-◌, ◌<◌, ◌≤◌, List, sym, refl, ap, ◌∙◌, arith}
use Rattle.std.proofs.lemmas.Bool.{both_ways, eq-eqb, eqb-true, and_parts, and_from}
use Rattle.history.specs.Events.{kind_at, thread_at, item_at, is, tells}
use Rattle.history.specs.Calls.{by, last_event}
use Rattle.history.specs.Items.{held}
use Rattle.history.specs.Faults.{Clean, Lowest}
use Rattle.history.specs.declared.event.Event.{Event}
use Rattle.history.proofs.Positions.{last_le, some_at, some_find}
use Rattle.history.proofs.Facts.{tells_parts, tells_from}
use Rattle.history.proofs.Faults.{lowest4, clean6}
use Rattle.judge.specs.State.{holds, ItemsAre}
use Rattle.judge.specs.Walk.{First}
use Rattle.judge.specs.declared.row.Row.{Row}
use Rattle.judge.specs.declared.seen.Seen.{Seen}
use Rattle.judge.proofs.Ready.{Ready}
use Rattle.judge.proofs.Rows.{rows_keep}
use Rattle.judge.proofs.Held.{held_keep}
use Rattle.judge.proofs.Others.{items_next}

module _ {k : ℕ} {h : List Event} {i : ℕ} {rows : List Row} {s : Seen} (R : Ready k h i rows s) (n : ℕ) (six : kind_at h i ≡ 6) (r : ℕ) (first : First h i r) where
  pub empty_4 : r < last_event h (thread_at h i) i - 1 → Lowest k n h 4 i
  empty_4 lt =
      let w = first.holds_there (omega (arith, last_le (by h (thread_at h i)) i)) in
      let v = and_parts (is 3 h r) (held h i (item_at h r)) w in
      lowest4 k n h i (six, (item_at h r, (v.1, some_at (tells 3 h (item_at h r)) (last_event h (thread_at h i) i - 1) r lt (tells_from 3 h (item_at h r) r (eqb-true (kind_at h r) 3 v.0) refl))))

  pub empty_clean : last_event h (thread_at h i) i - 1 ≤ r → Clean k n h i
  empty_clean le = clean6 k n h i six (λ f.
      let a = f.1.0 in let s = some_find (tells 3 h a) (last_event h (thread_at h i) i - 1) f.1.1.1 in let p = tells_parts 3 h a s.0 s.1.1 in
      both_ways (holds h i s.0) (first.none_older s.0 (omega (arith, s.1.0)))
      (and_from (is 3 h s.0) (held h i (item_at h s.0)) (eq-eqb (kind_at h s.0) 3 p.0) (ap (held h i) p.1 ∙ f.1.1.0)))

  pub empty_next : (s' : Seen) → s'.oldest ≡ r → s'.held ≡ s.held → ItemsAre k h (i + 1) rows s'
  empty_next s' o e = items_next k h i rows rows s s' R.slots (λ z. omega arith) R.items (rows_keep h i 6 rows six (λ z. omega arith) (λ r. refl) R.items.rows_are)
      (omega (arith, o, first.le)) (λ q lt. first.none_older q (omega (arith, o))) (e ∙ R.items.held_is ∙ sym (held_keep h i (λ z. omega arith) (λ z. omega arith)))
