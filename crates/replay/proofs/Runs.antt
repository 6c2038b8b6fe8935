-- What holds in every run of the window queue on a well-formed history, and that its states are determined.
use Rattle.std.proofs.Common.{◌≡◌, ℕ, zero, suc, ◌+◌, ◌-◌, ◌<◌, ◌≤◌, true, cond, eqb, leb, ◌⊎◌, List, [], ◌∷◌, ◌++◌, length, get_or, sym, refl, ap, ◌∙◌, subst, inl, inr, ⊎_elim, arith}
use Rattle.std.specs.List.{remove}
use Rattle.std.proofs.lemmas.List.{length-append, length_push, get_or_append_left, get_or_push, get_or_read}
use Rattle.std.proofs.lemmas.List.Edits.{length-remove, get_or-remove_below, get_or-remove_above}
use Rattle.std.proofs.lemmas.Bool.{cases_lt, or_left, or_right, cond-true, cond-false, le-leb, lt-leb}
use Rattle.history.specs.Positions.{some_below, count_below}
use Rattle.history.specs.Events.{event_at, kind_number, item_at, is, tells}
use Rattle.history.specs.WellFormed.{Formed}
use Rattle.history.specs.declared.event.Event.{Event}
use Rattle.history.specs.declared.event.Kind.{Kind}
use Rattle.history.specs.declared.event.Kind.TheVariants.{PutBegun, TakeBegun, Accepted, Full, HandedOut, Empty}
use Rattle.history.proofs.Positions.{some_find}
use Rattle.history.proofs.Facts.{tells_from, accepts_once}
use Rattle.window.specs.Queue.{Queue, Allowed, taken}
use Rattle.window.specs.Law.{Stands}
use Rattle.window.specs.Sequential.{Dequeues}
use Rattle.window.proofs.Takes.{taken_at}
use Rattle.window.proofs.Lines.{follows_specification}
use Rattle.replay.specs.Run.{Does, Run}
use Rattle.replay.specs.Playing.{accepted_item}

-- THE WINDOW stays between 1 and k

does_window : (k : ℕ) (e : Kind) (x : ℕ) (s t : Queue ℕ) → 1 ≤ k → (1 ≤ s.w) × (s.w ≤ k) → Does k e x s t → (1 ≤ t.w) × (t.w ≤ k)
does_window k PutBegun x s t one w d = subst (λ (u : Queue ℕ). (1 ≤ u.w) × (u.w ≤ k)) (sym d) w
does_window k TakeBegun x s t one w d = subst (λ (u : Queue ℕ). (1 ≤ u.w) × (u.w ≤ k)) (sym d) w
does_window k Accepted x s t one w d = (omega (arith, d.1, w.0), omega (arith, d.1, w.1))
does_window k Full x s t one w d = subst (λ (u : Queue ℕ). (1 ≤ u.w) × (u.w ≤ k)) (sym d) w
does_window k HandedOut x s t one w d = ⊎_elim
    (λ a. (omega (arith, a.1), omega (arith, a.1)))
    (λ b. (omega (arith, b.narrower, b.some_older, b.within), omega (arith, b.narrower, w.1)))
    d
does_window k Empty x s t one w d = (omega (arith, d.1.1), omega (arith, d.1.1))

pub run_window : (k : ℕ) (h : List Event) (n : ℕ) (r : Run k h n) → 1 ≤ k → (j : ℕ) → j ≤ n → (1 ≤ (r.states j).w) × ((r.states j).w ≤ k)
run_window k h n r one zero le = let e = ap (λ (u : Queue ℕ). u.w) r.starts in (omega arith, omega arith)
run_window k h n r one (suc j) le =
    does_window k (event_at h j).kind (item_at h j) (r.states j) (r.states (suc j)) one (run_window k h n r one j (omega arith)) (r.goes j (omega arith))

-- THE LIST has no more elements than were accepted

pub does_length : (k : ℕ) (e : Kind) (x : ℕ) (s t : Queue ℕ) → Does k e x s t → length t.q ≤ length s.q + length (accepted_item e x)
does_length k PutBegun x s t d = omega (arith, ap (λ (u : Queue ℕ). length u.q) d)
does_length k TakeBegun x s t d = omega (arith, ap (λ (u : Queue ℕ). length u.q) d)
does_length k Accepted x s t d = omega (arith, ap length d.0, length_push s.q x)
does_length k Full x s t d = omega (arith, ap (λ (u : Queue ℕ). length u.q) d)
does_length k HandedOut x s t d = ⊎_elim
    (λ a. omega (arith, ap length a.0))
    (λ b. omega (arith, ap length b.was, ap length b.left, length-append b.older (x ∷ b.younger), length-append b.older b.younger))
    d
does_length k Empty x s t d = omega (arith, ap length d.1.0)

count_accepted : (e : Kind) (x n : ℕ) → cond (eqb (kind_number e) 3) (suc n) n ≡ n + length (accepted_item e x)
count_accepted PutBegun x n = omega arith
count_accepted TakeBegun x n = omega arith
count_accepted Accepted x n = omega arith
count_accepted Full x n = omega arith
count_accepted HandedOut x n = omega arith
count_accepted Empty x n = omega arith

pub run_length : (k : ℕ) (h : List Event) (n : ℕ) (r : Run k h n) (j : ℕ) → j ≤ n → length (r.states j).q ≤ count_below (is 3 h) j
run_length k h n r zero le = omega (arith, ap (λ (u : Queue ℕ). length u.q) r.starts)
run_length k h n r (suc j) le =
    let e = event_at h j in
    omega (arith, run_length k h n r j (omega arith), does_length k e.kind e.item (r.states j) (r.states (suc j)) (r.goes j (omega arith)), count_accepted e.kind e.item (count_below (is 3 h) j))

-- THE ELEMENTS are different items, accepted before

pub record Known (h : List Event) (j : ℕ) (q : List ℕ) : Type 0 where
  pub different : (a b : ℕ) → a < length q → b < length q → get_or q a 0 ≡ get_or q b 0 → a ≡ b
  pub told : (a : ℕ) → a < length q → some_below (tells 3 h (get_or q a 0)) j ≡ true

known_later : (h : List Event) (j : ℕ) (q : List ℕ) → Known h j q → Known h (suc j) q
known_later h j q K = record { different = K.different; told = λ a lt. or_right (tells 3 h (get_or q a 0) j) _ (K.told a lt) }

known_none : (h : List Event) (j : ℕ) → Known h j []
known_none h j = record { different = λ a b la lb e. absurd (omega arith); told = λ a la. absurd (omega arith) }

-- an element of a list without one place is one of the list
from_removed : (q : List ℕ) (m a : ℕ) → m < length q → a < length (remove q m)
    → (c : ℕ) × ((c < length q) × ((get_or (remove q m) a 0 ≡ get_or q c 0) × (((a < m) × (c ≡ a)) ⊎ ((m ≤ a) × (c ≡ a + 1)))))
from_removed q m a lt la =
    let n = length-remove q m lt in
    ⊎_elim
    (λ (b : a < m). (a, (omega arith, (get_or-remove_below q m 0 a b lt, inl (b, refl)))))
    (λ (b : m ≤ a). (a + 1, (omega arith, (get_or-remove_above q m 0 a b lt, inr (b, refl)))))
    (cases_lt a m)

known_removed : (h : List Event) (j : ℕ) (q : List ℕ) (m : ℕ) → m < length q → Known h j q → Known h j (remove q m)
known_removed h j q m lt K = record {
  different = λ a b la lb e.
      let A = from_removed q m a lt la in
      let B = from_removed q m b lt lb in
      let same = K.different A.0 B.0 A.1.0 B.1.0 (sym A.1.1.0 ∙ (e ∙ B.1.1.0)) in
      ⊎_elim
      (λ x. ⊎_elim (λ y. omega (arith, x.1, y.1, same)) (λ y. omega (arith, x.0, x.1, y.0, y.1, same)) B.1.1.1)
      (λ x. ⊎_elim (λ y. omega (arith, x.0, x.1, y.0, y.1, same)) (λ y. omega (arith, x.1, y.1, same)) B.1.1.1)
      A.1.1.1;
  told = λ a la. let A = from_removed q m a lt la in subst (λ (y : ℕ). some_below (tells 3 h y) j ≡ true) (sym A.1.1.0) (K.told A.0 A.1.0);
}

module _ (h : List Event) (F : Formed h) (j : ℕ) (lt : j < length h) (q : List ℕ) (x : ℕ) (K : Known h j q) (tell : tells 3 h x j ≡ true) where
  -- the item that event j accepts is not among those accepted before
  new_item : (a : ℕ) → a < length q → get_or q a 0 ≡ x → ⊥
  new_item a la e =
      let p = some_find (tells 3 h (get_or q a 0)) j (K.told a la) in
      let same = accepts_once h F x p.0 j (omega (arith, p.1.0)) lt (subst (λ (y : ℕ). tells 3 h y p.0 ≡ true) e p.1.1) tell in
      omega (arith, p.1.0, same)

  known_pushed : Known h (suc j) (q ++ x ∷ [])
  known_pushed =
      let n = length_push q x in
      let old : (a : ℕ) → a < length q → get_or (q ++ x ∷ []) a 0 ≡ get_or q a 0 = λ a la. get_or_append_left q (x ∷ []) 0 a la in
      let last : (a : ℕ) → a ≡ length q → get_or (q ++ x ∷ []) a 0 ≡ x = λ a e. get_or_push q x 0 a (sym e) in
      record {
        different = λ a b la lb e. ⊎_elim
            (λ (p : a < length q). ⊎_elim
            (λ (r : b < length q). K.different a b p r (sym (old a p) ∙ (e ∙ old b r)))
            (λ (r : length q ≤ b). absurd (new_item a p (sym (old a p) ∙ (e ∙ last b (omega arith)))))
            (cases_lt b (length q)))
            (λ (p : length q ≤ a). ⊎_elim
            (λ (r : b < length q). absurd (new_item b r (sym (old b r) ∙ (sym e ∙ last a (omega arith)))))
            (λ (r : length q ≤ b). omega arith)
            (cases_lt b (length q)))
            (cases_lt a (length q));
        told = λ a la. ⊎_elim
            (λ (p : a < length q). subst (λ (y : ℕ). some_below (tells 3 h y) (suc j) ≡ true) (sym (old a p)) ((known_later h j q K).told a p))
            (λ (p : length q ≤ a). subst (λ (y : ℕ). some_below (tells 3 h y) (suc j) ≡ true) (sym (last a (omega arith))) (or_left (tells 3 h x j) _ tell))
            (cases_lt a (length q));
      }

-- a dequeue is a take at some place
dequeued : (k : ℕ) (s t : Queue ℕ) (x : ℕ) → 1 ≤ s.w → Dequeues k s x t → (i : ℕ) × (Stands ℕ s i x × (Allowed s i × (t ≡ taken k s i)))
dequeued k s t x w d = ((follows_specification ℕ k).takes s t x w).1 d

does_known : (k : ℕ) (h : List Event) → Formed h → (j : ℕ) → j < length h → (e : Kind) → (event_at h j).kind ≡ e → (s t : Queue ℕ) → 1 ≤ s.w
    → Does k e (item_at h j) s t → Known h j s.q → Known h (suc j) t.q
does_known k h F j lt PutBegun is_e s t w d K = subst (λ (u : Queue ℕ). Known h (suc j) u.q) (sym d) (known_later h j s.q K)
does_known k h F j lt TakeBegun is_e s t w d K = subst (λ (u : Queue ℕ). Known h (suc j) u.q) (sym d) (known_later h j s.q K)
does_known k h F j lt Accepted is_e s t w d K =
    subst (λ (q : List ℕ). Known h (suc j) q) (sym d.0) (known_pushed h F j lt s.q (item_at h j) K (tells_from 3 h (item_at h j) j (ap kind_number is_e) refl))
does_known k h F j lt Full is_e s t w d K = subst (λ (u : Queue ℕ). Known h (suc j) u.q) (sym d) (known_later h j s.q K)
does_known k h F j lt HandedOut is_e s t w d K =
    let p = dequeued k s t (item_at h j) w d in
    let st = p.1.0 in
    let left = ap (λ (u : Queue ℕ). u.q) (p.1.1.1 ∙ taken_at s k p.0 st.from_1) in
    subst (λ (q : List ℕ). Known h (suc j) q) (sym left) (known_later h j _ (known_removed h j s.q (p.0 - 1) (omega (arith, st.from_1, st.within)) K))
does_known k h F j lt Empty is_e s t w d K = subst (λ (q : List ℕ). Known h (suc j) q) (sym d.1.0) (known_none h (suc j))

module _ (k : ℕ) (one : 1 ≤ k) (h : List Event) (F : Formed h) where
  run_known : (n : ℕ) (r : Run k h n) → n ≤ length h → (j : ℕ) → j ≤ n → Known h j (r.states j).q
  run_known n r in_h zero le = subst (λ (u : Queue ℕ). Known h 0 u.q) (sym r.starts) (known_none h 0)
  run_known n r in_h (suc j) le =
      does_known k h F j (omega arith) (event_at h j).kind refl (r.states j) (r.states (suc j)) (run_window k h n r one j (omega arith)).0 (r.goes j (omega arith)) (run_known n r in_h j (omega arith))

  -- an event leads to one state
  does_one : (j : ℕ) (e : Kind) (x : ℕ) (s t u : Queue ℕ) → 1 ≤ s.w → Known h j s.q → Does k e x s t → Does k e x s u → t ≡ u
  does_one j PutBegun x s t u w K a b = a ∙ sym b
  does_one j TakeBegun x s t u w K a b = a ∙ sym b
  does_one j Accepted x s t u w K a b = ((follows_specification ℕ k).appends s t x).1 a ∙ sym (((follows_specification ℕ k).appends s u x).1 b)
  does_one j Full x s t u w K a b = a ∙ sym b
  does_one j HandedOut x s t u w K a b =
      let p = dequeued k s t x w a in
      let r = dequeued k s u x w b in
      let P = p.1.0 in
      let R = r.1.0 in
      let same = K.different (p.0 - 1) (r.0 - 1) (omega (arith, P.from_1, P.within)) (omega (arith, R.from_1, R.within)) (sym (at_place p.0 P) ∙ at_place r.0 R) in
      let places : p.0 ≡ r.0 = omega (arith, same, P.from_1, R.from_1) in
      p.1.1.1 ∙ (ap (taken k s) places ∙ sym r.1.1.1)
    where
      at_place : (i : ℕ) → Stands ℕ s i x → x ≡ get_or s.q (i - 1) 0
      at_place i st = get_or_read s.q (i - 1) x (omega (arith, st.from_1, st.within)) st.there 0
  does_one j Empty x s t u w K a b = (((follows_specification ℕ k).takes_nothing s t).1 a).1 ∙ sym (((follows_specification ℕ k).takes_nothing s u).1 b).1

  pub runs_agree : (n m : ℕ) (r : Run k h n) (o : Run k h m) → n ≤ length h → (j : ℕ) → j ≤ n → j ≤ m → r.states j ≡ o.states j
  runs_agree n m r o in_h zero a b = r.starts ∙ sym o.starts
  runs_agree n m r o in_h (suc j) a b =
      let e = event_at h j in
      let same = runs_agree n m r o in_h j (omega arith) (omega arith) in
      does_one j e.kind e.item (r.states j) (r.states (suc j)) (o.states (suc j)) (run_window k h n r one j (omega arith)).0 (run_known n r in_h j (omega arith))
      (r.goes j (omega arith)) (subst (λ (u : Queue ℕ). Does k e.kind e.item u (o.states (suc j))) (sym same) (o.goes j (omega arith)))

-- one event more
module _ (k : ℕ) (h : List Event) (n : ℕ) (r : Run k h n) (t : Queue ℕ) (d : Does k (event_at h n).kind (event_at h n).item (r.states n) t) where
  abbrev states_more : ℕ → Queue ℕ
  states_more j = cond (leb j n) (r.states j) t

  old_state : (j : ℕ) → j ≤ n → states_more j ≡ r.states j
  old_state j le = cond-true (leb j n) (r.states j) t (le-leb j n le)

  new_state : states_more (suc n) ≡ t
  new_state = cond-false (leb (suc n) n) (r.states (suc n)) t (lt-leb (suc n) n (omega arith))

  pub run_more : (m : Run k h (suc n)) × (m.states (suc n) ≡ t)
  run_more = (
    record {
      states = states_more;
      starts = old_state 0 (omega arith) ∙ r.starts;
      goes = λ j lt. ⊎_elim
          (λ (q : j < n).
          subst (λ (u : Queue ℕ). Does k (event_at h j).kind (event_at h j).item u (states_more (suc j))) (sym (old_state j (omega arith)))
          (subst (λ (u : Queue ℕ). Does k (event_at h j).kind (event_at h j).item (r.states j) u) (sym (old_state (suc j) (omega arith))) (r.goes j q)))
          (λ (q : n ≤ j). let e : n ≡ j = omega arith in
          subst (λ (i : ℕ). Does k (event_at h i).kind (event_at h i).item (states_more i) (states_more (suc i))) e
          (subst (λ (u : Queue ℕ). Does k (event_at h n).kind (event_at h n).item u (states_more (suc n))) (sym (old_state n (omega arith)))
          (subst (λ (u : Queue ℕ). Does k (event_at h n).kind (event_at h n).item (r.states n) u) (sym new_state) d)))
          (cases_lt j n);
    },
    new_state,
  )
