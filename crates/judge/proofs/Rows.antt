-- The working rows, one event on.
use Rattle.std.proofs.Common.{◌≡◌, ℕ, zero, suc, ◌+◌, ◌-◌, ◌<◌, Bool, true, false, cond, ◌&&◌, ◌||◌, eqb, ◌≢◌, List, length, get_or, set, Some, None, Option, sym, refl, ap, ◌∙◌, subst, ⊎_elim, add-one, arith}
use Rattle.std.proofs.lemmas.List.{get_or-set_same, get_or-set_other, length-set}
use Rattle.std.proofs.lemmas.Bool.{ne_eqb, eq-eqb, cases_Bool, cases_eq}
use Rattle.history.specs.Positions.{last_below}
use Rattle.history.specs.Events.{kind_at, item_at, tells}
use Rattle.history.specs.Items.{passes}
use Rattle.history.specs.declared.event.Event.{Event}
use Rattle.history.proofs.Items.{no_pass}
use Rattle.judge.specs.Rows.{blank, position, row_of, RowsAre}
use Rattle.judge.specs.declared.row.Row.{Row}

-- a row with one field written
abbrev pub row_begun : ℕ → Row → Row
row_begun n r = record { began = Some n; passes = r.passes; accepted = r.accepted; refused = r.refused; handed = r.handed }

abbrev pub row_accepted : Row → Row
row_accepted r = record { began = r.began; passes = r.passes; accepted = true; refused = r.refused; handed = r.handed }

abbrev pub row_refused : Row → Row
row_refused r = record { began = r.began; passes = r.passes; accepted = r.accepted; refused = true; handed = r.handed }

abbrev pub row_handed : Row → Row
row_handed r = record { began = r.began; passes = r.passes; accepted = r.accepted; refused = r.refused; handed = true }

-- the row of an item after an event of kind c, at position i, of this item or not, that passes it or not
abbrev pub row_step : ℕ → Bool → ℕ → Bool → Row → Row
row_step c b i p r =
    record { began = cond (b && eqb c 1) (Some i) r.began; passes = cond p (suc r.passes) r.passes; accepted = (b && eqb c 3) || r.accepted; refused = (b && eqb c 4) || r.refused; handed = (b && eqb c 5) || r.handed }

position_on : (b : Bool) (i n : ℕ) → position (cond b (suc i) n) ≡ cond b (Some i) (position n)
position_on true i n = refl
position_on false i n = refl

pub position_some : (n p : ℕ) → position n ≡ Some p → n ≡ suc p
position_some zero p e = absurd (cc)
position_some (suc n) p e = cc

pub position_none : (n : ℕ) → position n ≡ None → n ≡ 0
position_none zero e = refl
position_none (suc n) e = absurd (cc)

pub row_next : (h : List Event) (i x : ℕ) → row_of h (i + 1) x ≡ row_step (kind_at h i) (eqb (item_at h i) x) i (passes h x i) (row_of h i x)
row_next h i x = rw add-one (ap (λ (o : Option ℕ). record (row_step (kind_at h i) (eqb (item_at h i) x) i (passes h x i) (row_of h i x)) { began = o }) (position_on (tells 1 h x i) i (last_below (tells 1 h x) i)))

row_next_other : (h : List Event) (i c x : ℕ) → kind_at h i ≡ c → c ≢ 5 → row_of h (i + 1) x ≡ row_step c (eqb (item_at h i) x) i false (row_of h i x)
row_next_other h i c x e n5 =
    row_next h i x ∙ ap (λ (n : ℕ). row_step n (eqb (item_at h i) x) i (passes h x i) (row_of h i x)) e ∙ ap (λ (b : Bool). row_step c (eqb (item_at h i) x) i b (row_of h i x)) (no_pass h x i (λ z. n5 (sym e ∙ z)))

-- an event that is no 5 changes at most the row of its own item
pub rows_set : (h : List Event) (i c : ℕ) (rows : List Row) (r : Row) → kind_at h i ≡ c → c ≢ 5 → 0 < item_at h i → item_at h i - 1 < length rows
    → row_step c true i false (get_or rows (item_at h i - 1) blank) ≡ r → RowsAre h i rows → RowsAre h (i + 1) (set rows (item_at h i - 1) r)
rows_set h i c rows r e n5 pos in_rows is_r are m lt =
    let nx = row_next_other h i c (suc m) e n5 in
    ⊎_elim
    (λ (s : m ≡ item_at h i - 1).
    let lt' : m < length rows = omega arith in
    let own : item_at h i ≡ suc m = omega arith in
    let q = nx ∙ ap (λ (b : Bool). row_step c b i false (row_of h i (suc m))) (eq-eqb (item_at h i) (suc m) own) ∙ ap (row_step c true i false) (sym (are m lt')) in
    ap (λ (j : ℕ). get_or (set rows (item_at h i - 1) r) j blank) s ∙ get_or-set_same rows (item_at h i - 1) r blank in_rows ∙ sym is_r ∙ ap (λ (j : ℕ). row_step c true i false (get_or rows j blank)) (sym s) ∙ sym q)
    (λ (s : m ≡ item_at h i - 1 → ⊥).
    let lt' : m < length rows = subst (λ (n : ℕ). m < n) (length-set rows (item_at h i - 1) r) lt in
    get_or-set_other rows (item_at h i - 1) m r blank s ∙ are m lt'
    ∙ sym (nx ∙ ap (λ (b : Bool). row_step c b i false (row_of h i (suc m))) (ne_eqb (item_at h i) (suc m) (λ z. s (omega arith)))))
    (cases_eq m (item_at h i - 1))

-- one of kind 2 or 6 changes none
pub rows_keep : (h : List Event) (i c : ℕ) (rows : List Row) → kind_at h i ≡ c → c ≢ 5 → ((r : Row) → row_step c true i false r ≡ r) → RowsAre h i rows → RowsAre h (i + 1) rows
rows_keep h i c rows e n5 none are m lt =
    let nx = row_next_other h i c (suc m) e n5 in
    are m lt ∙ sym (nx ∙ ⊎_elim
    (λ (t : eqb (item_at h i) (suc m) ≡ true). ap (λ (b : Bool). row_step c b i false (row_of h i (suc m))) t ∙ none (row_of h i (suc m)))
    (λ (t : eqb (item_at h i) (suc m) ≡ false). ap (λ (b : Bool). row_step c b i false (row_of h i (suc m))) t) (cases_Bool (eqb (item_at h i) (suc m))))
