-- The walk that looks for a held item.
use Rattle.std.proofs.Common.{◌≡◌, ℕ, ◌+◌, ◌-◌, ◌<◌, ◌≤◌, true, false, List, length, get_or, take, drop, sym, refl, ap, ◌∙◌, subst, inl, ⊎_elim, arith}
use Rattle.std.proofs.lemmas.List.{get_or_default, length-take-le, length-drop}
use Rattle.std.proofs.lemmas.Bool.{eq-eqb, eqb-true, and_from, and_left, and_right, not_from_true, not_from_false, cases_Bool, cases_lt}
use Rattle.std.specs.List.{HoldsAt, AllWithin}
use Rattle.history.specs.Events.{nothing, kind_number, event_at, kind_at, is}
use Rattle.history.specs.declared.event.Event.{Event}
use Rattle.history.specs.declared.event.Kind.TheVariants.{Accepted}
use Rattle.history.proofs.Parts.{part_at}
use Rattle.history.proofs.Facts.{kind_if, answered_few}
use Rattle.judge.specs.Rows.{blank}
use Rattle.judge.specs.State.{holds, Knows}
use Rattle.judge.specs.Walk.{free, First}
use Rattle.judge.specs.declared.judging.Judging.{Judging}
use Rattle.judge.specs.declared.row.Row.{Row}
use Rattle.judge.proofs.Known.{free_holds}

-- the event accepts an item that the rows have as held, or not so
abbrev pub Held : List Row → Event → Type 0
Held rows x = (x.kind ≡ Accepted) × ((get_or rows (x.item - 1) blank).handed ≡ false)

abbrev pub NotHeld : List Row → Event → Type 0
NotHeld rows x = x.kind ≡ Accepted → (get_or rows (x.item - 1) blank).handed ≡ true

module _ {j : Judging} {i : ℕ} (K : Knows j i) where
  -- an event before i that accepts an item has its row
  pub look_place : (n : ℕ) (x : Event) → n < length (take (i - j.seen.oldest) (drop j.seen.oldest j.history.now)) → x ≡ get_or (take (i - j.seen.oldest) (drop j.seen.oldest j.history.now)) n x
      → x.kind ≡ Accepted → (0 < x.item) × (x.item - 1 < length j.rows.now)
  look_place n x lt at e =
      let part = take (i - j.seen.oldest) (drop j.seen.oldest j.history.now) in
      let len = length-take-le (i - j.seen.oldest) (drop j.seen.oldest j.history.now) (omega (arith, length-drop j.seen.oldest j.history.now, K.within, K.items.oldest_le)) in
      let same : x ≡ event_at j.history.now (j.seen.oldest + n) = at ∙ get_or_default part n x nothing lt ∙ part_at j.history.now j.seen.oldest i n (omega (arith, len)) in
      let a = answered_few j.history.now j.formed 3 (j.seen.oldest + n) (inl refl) (omega (arith, K.within, len)) (ap (λ (y : Event). kind_number y.kind) (sym same) ∙ ap kind_number e) in
      let s = ap (λ (y : Event). y.item) same in
      (omega (arith, a.0, s), omega (arith, a.0, a.1, s, j.fit))

  free_is : (q : ℕ) → q < i → free j.history.now j.rows.now q ≡ holds j.history.now i q
  free_is = free_holds j.history.now i j.rows.now j.formed (omega (arith, K.within)) j.fit K.items.rows_are

  look_held : (n : ℕ) → n < i - j.seen.oldest → HoldsAt (Held j.rows.now) (take (i - j.seen.oldest) (drop j.seen.oldest j.history.now)) n → holds j.history.now i (j.seen.oldest + n) ≡ true
  look_held n lt f =
      let q = j.seen.oldest + n in
      let g = subst (Held j.rows.now) (part_at j.history.now j.seen.oldest i n lt) (f nothing) in
      sym (free_is q (omega arith)) ∙ and_from (is 3 j.history.now q) _ (eq-eqb (kind_at j.history.now q) 3 (ap kind_number g.0)) (not_from_false _ g.1)

  look_past : (n : ℕ) → n < i - j.seen.oldest → HoldsAt (NotHeld j.rows.now) (take (i - j.seen.oldest) (drop j.seen.oldest j.history.now)) n → holds j.history.now i (j.seen.oldest + n) ≡ false
  look_past n lt f =
      let q = j.seen.oldest + n in
      let g = subst (NotHeld j.rows.now) (part_at j.history.now j.seen.oldest i n lt) (f nothing) in
      sym (free_is q (omega arith)) ∙ ⊎_elim
      (λ (e : is 3 j.history.now q ≡ true). and_right (is 3 j.history.now q) _ (not_from_true _ (g (kind_if _ 3 (eqb-true (kind_at j.history.now q) 3 e)))))
      (λ (e : is 3 j.history.now q ≡ false). and_left (is 3 j.history.now q) _ e)
      (cases_Bool (is 3 j.history.now q))

  -- none before the n-th from the oldest on, so none before it at all
  none_before : (n : ℕ) → n ≤ i - j.seen.oldest → AllWithin (NotHeld j.rows.now) (take (i - j.seen.oldest) (drop j.seen.oldest j.history.now)) 0 n → (q : ℕ) → q < j.seen.oldest + n → holds j.history.now i q ≡ false
  none_before n le f q lt = ⊎_elim
      (λ (l : q < j.seen.oldest). K.items.none_older q l)
      (λ (l : j.seen.oldest ≤ q).
      let at : j.seen.oldest + (q - j.seen.oldest) ≡ q = omega arith in
      subst (λ (m : ℕ). holds j.history.now i m ≡ false) at (look_past (q - j.seen.oldest) (omega arith) (λ d. f (q - j.seen.oldest) d (omega arith) (omega arith))))
      (cases_lt q j.seen.oldest)

  part_length : length (take (i - j.seen.oldest) (drop j.seen.oldest j.history.now)) ≡ i - j.seen.oldest
  part_length = length-take-le (i - j.seen.oldest) (drop j.seen.oldest j.history.now) (omega (arith, length-drop j.seen.oldest j.history.now, K.within, K.items.oldest_le))

  pub look_found : (n : ℕ) → n < length (take (i - j.seen.oldest) (drop j.seen.oldest j.history.now))
      → HoldsAt (Held j.rows.now) (take (i - j.seen.oldest) (drop j.seen.oldest j.history.now)) n
      → AllWithin (NotHeld j.rows.now) (take (i - j.seen.oldest) (drop j.seen.oldest j.history.now)) 0 n → First j.history.now i (j.seen.oldest + n)
  look_found n small f g =
      let lt : n < i - j.seen.oldest = omega (arith, small, part_length) in
      record { le = omega arith; none_older = none_before n (omega arith) g; holds_there = λ _. look_held n lt f }

  pub look_none : AllWithin (NotHeld j.rows.now) (take (i - j.seen.oldest) (drop j.seen.oldest j.history.now)) 0 (length (take (i - j.seen.oldest) (drop j.seen.oldest j.history.now))) → First j.history.now i i
  look_none f = record {
    le = omega arith;
    none_older = λ q lt. none_before (i - j.seen.oldest) (omega arith) (λ k d l u. f k d l (omega (arith, part_length))) q (omega (arith, K.items.oldest_le));
    holds_there = λ lt. absurd (omega arith);
  }
