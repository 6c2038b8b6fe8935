-- The walk that passes items.
use Rattle.std.proofs.Common.{◌≡◌, ℕ, suc, ◌+◌, ◌-◌, ◌<◌, ◌≤◌, Bool, true, false, cond, not, ◌&&◌, ◌||◌, ◌≢◌, List, length, get_or, take, drop, set, sym, refl, ap, ◌∙◌, subst, inl, ⊎_elim, add-one, arith}
use Rattle.std.proofs.lemmas.List.{get_or-set_same, get_or-set_other, set-get_or}
use Rattle.std.proofs.lemmas.Bool.{both_ways, cond-false, cond-true, ne_eqb, eq-eqb, and_from, and_left, and_right, or_left, not-false, not_from_true, not_from_false, cases_Bool, cases_eq}
use Rattle.history.specs.Positions.{count_below}
use Rattle.history.specs.Events.{nothing, kind_number, kind_at, item_at, is, tells}
use Rattle.history.specs.WellFormed.{Formed}
use Rattle.history.specs.Items.{accepted}
use Rattle.history.specs.declared.event.Event.{Event}
use Rattle.history.specs.declared.event.Kind.TheVariants.{Accepted}
use Rattle.history.proofs.Positions.{some_more, count_more, false_from, some_none, some_find, count_none}
use Rattle.history.proofs.Parts.{part_at}
use Rattle.history.proofs.Facts.{kind_if, tells_parts, tells_from, tells_other, tells_kind, accepts_once, answered_few}
use Rattle.judge.specs.Rows.{blank}
use Rattle.judge.specs.Walk.{free, bumped, passed, Walk}
use Rattle.judge.specs.declared.row.Row.{Row}

-- the walk has come to event q, and has passed so many items
abbrev pub Going : ℕ → List Event → List Row → ℕ → ℕ → List Row → Type 0
Going k h rows₀ q older rows =
    (older ≡ count_below (free h rows₀) q)
    × (((m : ℕ) → m < length rows₀ → get_or rows m blank ≡ passed h q (get_or rows₀ m blank) (suc m))
    × ((j : ℕ) → j < q → free h rows₀ j ≡ true → (get_or rows₀ (item_at h j - 1) blank).passes + 1 < k))

module _ (h : List Event) (x : ℕ) (r : Row) where
  passed_else : (q : ℕ) → tells 3 h x q ≡ false → passed h (q + 1) r x ≡ passed h q r x
  passed_else q e = ap (λ (b : Bool). cond (b && not r.handed) (bumped r) r) (some_more (tells 3 h x) q ∙ ap (λ (b : Bool). b || accepted h q x) e)

  passed_out : (q : ℕ) → r.handed ≡ true → passed h q r x ≡ r
  passed_out q e = cond-false (accepted h q x && not r.handed) (bumped r) r (and_right (accepted h q x) (not r.handed) (not_from_true r.handed e))

  pub passed_new : (q : ℕ) → accepted h q x ≡ false → passed h q r x ≡ r
  passed_new q e = cond-false (accepted h q x && not r.handed) (bumped r) r (and_left (accepted h q x) (not r.handed) e)

  pub passed_old : (q : ℕ) → accepted h q x ≡ true → r.handed ≡ false → passed h q r x ≡ bumped r
  passed_old q e f = cond-true (accepted h q x && not r.handed) (bumped r) r (and_from (accepted h q x) (not r.handed) e (not_from_false r.handed f))

  passed_here : (q : ℕ) → tells 3 h x q ≡ true → r.handed ≡ false → passed h (q + 1) r x ≡ bumped r
  passed_here q e f = passed_old (q + 1) (some_more (tells 3 h x) q ∙ or_left (tells 3 h x q) (accepted h q x) e) f

below_next : (P : ℕ → Type 0) (q : ℕ) → ((j : ℕ) → j < q → P j) → P q → (j : ℕ) → j < q + 1 → P j
below_next P q f e j lt = ⊎_elim (λ (s : j ≡ q). subst P (sym s) e) (λ (s : j ≡ q → ⊥). f j (omega arith)) (cases_eq j q)

module _ (k : ℕ) (h : List Event) (rows₀ : List Row) where
  pub go_start : (q : ℕ) → ((j : ℕ) → j < q → free h rows₀ j ≡ false) → Going k h rows₀ q 0 rows₀
  go_start q f = (
    sym (count_none (free h rows₀) q f),
    (
      (λ m lt. sym (⊎_elim
          (λ (e : accepted h q (suc m) ≡ true).
          let s = some_find (tells 3 h (suc m)) q e in let t = tells_parts 3 h (suc m) s.0 s.1.1 in
          let n : item_at h s.0 - 1 ≡ m = omega (arith, t.1) in
          let o : (get_or rows₀ (item_at h s.0 - 1) blank).handed ≡ true = not-false (get_or rows₀ (item_at h s.0 - 1) blank).handed
          (false_from (not (get_or rows₀ (item_at h s.0 - 1) blank).handed) (λ w. both_ways (free h rows₀ s.0) (f s.0 s.1.0) (and_from (is 3 h s.0) _ (eq-eqb (kind_at h s.0) 3 t.0) w))) in
          passed_out h (suc m) (get_or rows₀ m blank) q (subst (λ (i : ℕ). (get_or rows₀ i blank).handed ≡ true) n o))
          (λ (e : accepted h q (suc m) ≡ false). passed_new h (suc m) (get_or rows₀ m blank) q e)
          (cases_Bool (accepted h q (suc m))))),
      λ j lt e. absurd (both_ways (free h rows₀ j) (f j lt) e),
    ),
  )

  pub go_other : (q older : ℕ) (rows : List Row) → (kind_at h q ≡ 3 → ⊥) → Going k h rows₀ q older rows → Going k h rows₀ (q + 1) older rows
  go_other q older rows ne g =
      let w : free h rows₀ q ≡ false = and_left (is 3 h q) (not (get_or rows₀ (item_at h q - 1) blank).handed) (ne_eqb (kind_at h q) 3 ne) in (
        g.0 ∙ sym (count_more (free h rows₀) q ∙ cond-false (free h rows₀ q) _ _ w),
        (
          (λ m lt. g.1.0 m lt ∙ sym (passed_else h (suc m) (get_or rows₀ m blank) q (tells_kind 3 h (suc m) q ne))),
          below_next (λ j. free h rows₀ j ≡ true → (get_or rows₀ (item_at h j - 1) blank).passes + 1 < k) q g.1.1 (λ e. absurd (both_ways (free h rows₀ q) w e)),
        ),
      )

  module _ (F : Formed h) (q older : ℕ) (rows : List Row) (in_h : q < length h) (three : kind_at h q ≡ 3) (pos : 0 < item_at h q) (in_rows : item_at h q - 1 < length rows₀) (g : Going k h rows₀ q older rows) where
    is_item : item_at h q ≡ suc (item_at h q - 1)
    is_item = omega arith

    yet : accepted h q (suc (item_at h q - 1)) ≡ false
    yet = some_none (tells 3 h (suc (item_at h q - 1))) q (λ j lt. false_from (tells 3 h (suc (item_at h q - 1)) j) (λ e.
        let z = accepts_once h F (suc (item_at h q - 1)) j q (omega arith) in_h e (tells_from 3 h (suc (item_at h q - 1)) q three is_item) in omega arith))

    -- the row read is the row at the start
    row_same : get_or rows (item_at h q - 1) blank ≡ get_or rows₀ (item_at h q - 1) blank
    row_same = g.1.0 (item_at h q - 1) in_rows ∙ passed_new h (suc (item_at h q - 1)) (get_or rows₀ (item_at h q - 1) blank) q yet

    free_is : (get_or rows (item_at h q - 1) blank).handed ≡ false → free h rows₀ q ≡ true
    free_is e = and_from (is 3 h q) (not (get_or rows₀ (item_at h q - 1) blank).handed) (eq-eqb (kind_at h q) 3 three)
        (not_from_false (get_or rows₀ (item_at h q - 1) blank).handed (ap (λ (r : Row). r.handed) (sym row_same) ∙ e))

    elsewhere : (m : ℕ) → m ≢ item_at h q - 1 → m < length rows₀ → get_or rows m blank ≡ passed h (q + 1) (get_or rows₀ m blank) (suc m)
    elsewhere m ne lt = g.1.0 m lt ∙ sym (passed_else h (suc m) (get_or rows₀ m blank) q (tells_other 3 h (suc m) q (λ e. ne (omega arith))))

    pub go_handed : (get_or rows (item_at h q - 1) blank).handed ≡ true → Going k h rows₀ (q + 1) older rows
    go_handed e =
        let o : (get_or rows₀ (item_at h q - 1) blank).handed ≡ true = ap (λ (r : Row). r.handed) (sym row_same) ∙ e in
        let w : free h rows₀ q ≡ false = and_right (is 3 h q) (not (get_or rows₀ (item_at h q - 1) blank).handed) (not_from_true (get_or rows₀ (item_at h q - 1) blank).handed o) in (
          g.0 ∙ sym (count_more (free h rows₀) q ∙ cond-false (free h rows₀ q) _ _ w),
          (
            (λ m lt. ⊎_elim
                (λ (s : m ≡ item_at h q - 1). subst (λ (i : ℕ). get_or rows i blank ≡ passed h (q + 1) (get_or rows₀ i blank) (suc i)) (sym s)
                (row_same ∙ sym (passed_out h (suc (item_at h q - 1)) (get_or rows₀ (item_at h q - 1) blank) (q + 1) o)))
                (λ (s : m ≡ item_at h q - 1 → ⊥). elsewhere m s lt) (cases_eq m (item_at h q - 1))),
            below_next (λ j. free h rows₀ j ≡ true → (get_or rows₀ (item_at h j - 1) blank).passes + 1 < k) q g.1.1 (λ t. absurd (both_ways (free h rows₀ q) w t)),
          ),
        )

    pub go_pass : length rows ≡ length rows₀ → (get_or rows (item_at h q - 1) blank).handed ≡ false → (get_or rows (item_at h q - 1) blank).passes + 1 < k
        → Going k h rows₀ (q + 1) (older + 1) (set rows (item_at h q - 1) (bumped (get_or rows (item_at h q - 1) blank)))
    go_pass len e lt_k =
        let o : (get_or rows₀ (item_at h q - 1) blank).handed ≡ false = ap (λ (r : Row). r.handed) (sym row_same) ∙ e in
        let w = free_is e in (
          ap (λ (n : ℕ). n + 1) g.0 ∙ add-one (count_below (free h rows₀) q) ∙ sym (count_more (free h rows₀) q ∙ cond-true (free h rows₀ q) _ _ w),
          (
            (λ m lt. ⊎_elim
                (λ (s : m ≡ item_at h q - 1). subst (λ (i : ℕ). get_or (set rows (item_at h q - 1) (bumped (get_or rows (item_at h q - 1) blank))) i blank ≡ passed h (q + 1) (get_or rows₀ i blank) (suc i)) (sym s)
                (get_or-set_same rows (item_at h q - 1) (bumped (get_or rows (item_at h q - 1) blank)) blank (omega arith) ∙ ap bumped row_same
                ∙ sym (passed_here h (suc (item_at h q - 1)) (get_or rows₀ (item_at h q - 1) blank) q (tells_from 3 h (suc (item_at h q - 1)) q three is_item) o)))
                (λ (s : m ≡ item_at h q - 1 → ⊥). get_or-set_other rows (item_at h q - 1) m (bumped (get_or rows (item_at h q - 1) blank)) blank s ∙ elsewhere m s lt) (cases_eq m (item_at h q - 1))),
            below_next (λ j. free h rows₀ j ≡ true → (get_or rows₀ (item_at h j - 1) blank).passes + 1 < k) q g.1.1
                (λ _. subst (λ (r : Row). r.passes + 1 < k) row_same lt_k),
          ),
        )

-- what the loop has at a turn whose event accepts this item
pub record Turn (k : ℕ) (h : List Event) (rows₀ : List Row) (q older : ℕ) (rows : List Row) (item : ℕ) : Type 0 where
  pub pos : 0 < item
  pub in_rows : item - 1 < length rows₀
  pub few : (get_or rows (item - 1) blank).handed ≡ false → (get_or rows (item - 1) blank).passes < k
  pub full : (get_or rows (item - 1) blank).handed ≡ false → k ≤ (get_or rows (item - 1) blank).passes + 1
      → (free h rows₀ q ≡ true) × (k ≤ (get_or rows₀ (item_at h q - 1) blank).passes + 1)
  pub pass : length rows ≡ length rows₀ → (get_or rows (item - 1) blank).handed ≡ false → (get_or rows (item - 1) blank).passes + 1 < k
      → Going k h rows₀ (q + 1) (older + 1) (set rows (item - 1) (bumped (get_or rows (item - 1) blank)))
  pub leave : (get_or rows (item - 1) blank).handed ≡ true → Going k h rows₀ (q + 1) older (set rows (item - 1) (get_or rows (item - 1) blank))

turn_at : (k : ℕ) (h : List Event) (rows₀ : List Row) (from to q older : ℕ) (rows : List Row) → Walk k h rows₀ from to → q < to → kind_at h q ≡ 3 → Going k h rows₀ q older rows → Turn k h rows₀ q older rows (item_at h q)
turn_at k h rows₀ from to q older rows W lt e g =
    let in_h : q < length h = omega (arith, W.within) in
    let a = answered_few h W.formed 3 q (inl refl) in_h e in
    let in_rows : item_at h q - 1 < length rows₀ = omega (arith, a.0, a.1, W.fit) in
    let s = row_same k h rows₀ W.formed q older rows in_h e a.0 in_rows g in
    let f = free_is k h rows₀ W.formed q older rows in_h e a.0 in_rows g in
    record {
      pos = a.0;
      in_rows = in_rows;
      few = λ o. subst (λ (r : Row). r.passes < k) (sym s) (W.few q lt (f o));
      full = λ o m. (f o, subst (λ (r : Row). k ≤ r.passes + 1) s m);
      pass = go_pass k h rows₀ W.formed q older rows in_h e a.0 in_rows g;
      leave = λ o. subst (λ (xs : List Row). Going k h rows₀ (q + 1) older xs) (sym (set-get_or rows (item_at h q - 1) blank)) (go_handed k h rows₀ W.formed q older rows in_h e a.0 in_rows g o);
    }

module _ {k : ℕ} {h : List Event} {rows₀ : List Row} {from to : ℕ} (W : Walk k h rows₀ from to) (start n older : ℕ) (rows : List Row) (lt : n < to - start) (g : Going k h rows₀ (start + n) older rows) where
  pub turn : (get_or (take (to - start) (drop start h)) n nothing).kind ≡ Accepted → Turn k h rows₀ (start + n) older rows (get_or (take (to - start) (drop start h)) n nothing).item
  turn e =
      let same = part_at h start to n lt in
      subst (λ (m : ℕ). Turn k h rows₀ (start + n) older rows m) (ap (λ (y : Event). y.item) (sym same))
      (turn_at k h rows₀ from to (start + n) older rows W (omega arith) (ap (λ (y : Event). kind_number y.kind) (sym same) ∙ ap kind_number e) g)

  pub go_past : ((get_or (take (to - start) (drop start h)) n nothing).kind ≡ Accepted → ⊥) → Going k h rows₀ (start + n + 1) older rows
  go_past other = go_other k h rows₀ (start + n) older rows (λ e. other (ap (λ (y : Event). y.kind) (part_at h start to n lt) ∙ kind_if _ 3 e)) g

pub go_as : (k : ℕ) (h : List Event) (rows₀ : List Row) (q q' o o' : ℕ) (rows rows' : List Row) → q' ≡ q → o' ≡ o → rows' ≡ rows → Going k h rows₀ q o rows → Going k h rows₀ q' o' rows'
go_as k h rows₀ q q' o o' rows rows' e a b g = subst (λ (i : ℕ). Going k h rows₀ i o' rows') (sym e) (a ∙ g.0, ((λ m lt. ap (λ (l : List Row). get_or l m blank) b ∙ g.1.0 m lt), g.1.1))
