-- The faults of a well-formed history, decided by computation.
use Rattle.std.proofs.Common.{◌≡◌, ℕ, zero, suc, ◌-◌, ◌*◌, ◌<◌, ◌≤◌, Bool, true, false, not, ◌&&◌, ◌||◌, eqb, ltb, leb, ◌≢◌, List, length, Decides, sym, refl, subst, inl, inr, ⊎_elim, arith}
use Rattle.std.proofs.lemmas.Bool.Decides.{Decides-eqb, Decides-and, Decides-or, Decides-not, not_from_Decides}
use Rattle.std.proofs.lemmas.Bool.{and_parts, not-true, not_from_false, cases_eq, ltb-true, leb-true, le-leb}
use Rattle.history.specs.Positions.{some_below, count_below}
use Rattle.history.specs.Events.{kind_at, item_at, is, tells}
use Rattle.history.specs.Calls.{puts_before}
use Rattle.history.specs.WellFormed.{formed, Formed}
use Rattle.history.specs.Items.{begun, accepted, refused_as_full, handed_out, held, younger, passes, count_items}
use Rattle.judge.specs.Flights.{flying, together}
use Rattle.history.specs.Faults.{Fault1, Fault2, Fault3, call_begin, Fault4, Fault5, Shows, Clean}
use Rattle.history.specs.declared.event.Event.{Event}
use Rattle.history.proofs.Positions.{some_at, some_find}
use Rattle.history.proofs.Facts.{tells_parts}
use Rattle.history.proofs.Faults.{shows_cases}
use Rattle.judge.specs.Verdicts.{Judged}
use Rattle.judge.specs.Table.{two_puts, both_begun, three_puts, empty_late, empty_early, Table}
use Rattle.judge.specs.Faults.{fault_number}
use Rattle.judge.specs.declared.fault.Fault.TheVariants.{PassedTooOften, TooManyOlder, NotEmpty}
use Rattle.judge.specs.declared.verdict.Verdict.{Verdict}
use Rattle.judge.specs.declared.verdict.Verdict.TheVariants.{Sound, Fault}
use Rattle.judge.proofs.Together.{dec_apart}
use Rattle.judge.proofs.Counting.{accepted_begun}

dec_true : (b : Bool) → Decides b (b ≡ true)
dec_true b = (λ e. e, λ e. e)

dec_false : (b : Bool) → Decides (not b) (b ≡ false)
dec_false b = (not-true b, not_from_false b)

dec_le : (a b : ℕ) → Decides (leb a b) (a ≤ b)
dec_le a b = (leb-true a b, le-leb a b)

dec_some : (p : ℕ → Bool) (Q : ℕ → Type 0) (n : ℕ) → ((a : ℕ) → Decides (p a) (Q a)) → ((a : ℕ) → Q a → a < n) → Decides (some_below p n) ((a : ℕ) × Q a)
dec_some p Q n d low = (λ e. let s = some_find p n e in (s.0, (d s.0).0 s.1.1), λ q. some_at p n q.0 (low q.0 q.1) ((d q.0).1 q.1))

-- the faults as tests
abbrev fault1 : List Event → ℕ → Bool
fault1 h i = (is 5 h i && (not (begun h i (item_at h i)) || (refused_as_full h i (item_at h i) || handed_out h i (item_at h i)))) || (is 4 h i && handed_out h i (item_at h i))

abbrev fault2 : ℕ → List Event → ℕ → Bool
fault2 k h i = is 5 h i && some_below (λ a. held h i a && (not (eqb a (item_at h i)) && leb k (count_below (passes h a) (suc i)))) (suc (puts_before h i))

abbrev fault3 : ℕ → List Event → ℕ → Bool
fault3 k h i = is 5 h i && leb k (count_items h i (λ a. held h i a && younger h i a (item_at h i)))

abbrev fault4 : List Event → ℕ → Bool
fault4 h i = is 6 h i && some_below (λ a. held h i a && accepted h (call_begin h i) a) (suc (puts_before h i))

abbrev fault5 : ℕ → ℕ → List Event → ℕ → Bool
fault5 k n h i = is 4 h i && (not (together h i) && leb (count_items h i (held h i)) ((n - 1) * k))

abbrev shown : ℕ → ℕ → List Event → ℕ → ℕ → Bool
shown k n h f i = (eqb f 1 && fault1 h i) || ((eqb f 2 && fault2 k h i) || ((eqb f 3 && fault3 k h i) || ((eqb f 4 && fault4 h i) || (eqb f 5 && fault5 k n h i))))

abbrev spotless : ℕ → ℕ → List Event → ℕ → Bool
spotless k n h i = not (fault1 h i || (fault2 k h i || (fault3 k h i || (fault4 h i || fault5 k n h i))))

abbrev every : (ℕ → Bool) → ℕ → Bool
every p zero = true
every p (suc n) = p n && every p n

every_at : (p : ℕ → Bool) (n j : ℕ) → every p n ≡ true → j < n → p j ≡ true
every_at p zero j e lt = absurd (omega arith)
every_at p (suc n) j e lt =
    let w = and_parts (p n) (every p n) e in
    ⊎_elim (λ (q : j ≡ n). subst (λ (x : ℕ). p x ≡ true) (sym q) w.0) (λ (q : j ≡ n → ⊥). every_at p n j w.1 (omega arith)) (cases_eq j n)

module _ (k n : ℕ) (h : List Event) (F : Formed h) (i : ℕ) (le : i ≤ length h) where
  held_begun : (a : ℕ) → held h i a ≡ true → a < suc (puts_before h i)
  held_begun a e =
      let s = some_find (tells 3 h a) i (and_parts (accepted h i a) (not (handed_out h i a)) e).0 in let t = tells_parts 3 h a s.0 s.1.1 in
      let b = accepted_begun h F i le s.0 s.1.0 t.0 in omega (arith, b, t.1)

  dec_fault1 : Decides (fault1 h i) (Fault1 h i)
  dec_fault1 = Decides-or _ _ (Decides-and _ _ (Decides-eqb (kind_at h i) 5) (Decides-or _ _ (dec_false (begun h i (item_at h i))) (Decides-or _ _ (dec_true (refused_as_full h i (item_at h i))) (dec_true (handed_out h i (item_at h i))))))
      (Decides-and _ _ (Decides-eqb (kind_at h i) 4) (dec_true (handed_out h i (item_at h i))))

  dec_fault2 : Decides (fault2 k h i) (Fault2 k h i)
  dec_fault2 = Decides-and _ _ (Decides-eqb (kind_at h i) 5)
      (dec_some (λ a. held h i a && (not (eqb a (item_at h i)) && leb k (count_below (passes h a) (suc i)))) (λ a. (held h i a ≡ true) × ((a ≢ item_at h i) × (k ≤ count_below (passes h a) (suc i)))) (suc (puts_before h i))
      (λ a. Decides-and _ _ (dec_true (held h i a)) (Decides-and _ _ (Decides-not (eqb a (item_at h i)) (Decides-eqb a (item_at h i))) (dec_le k (count_below (passes h a) (suc i)))))
      (λ a q. held_begun a q.0))

  dec_fault3 : Decides (fault3 k h i) (Fault3 k h i)
  dec_fault3 = Decides-and _ _ (Decides-eqb (kind_at h i) 5) (dec_le k (count_items h i (λ a. held h i a && younger h i a (item_at h i))))

  dec_fault4 : Decides (fault4 h i) (Fault4 h i)
  dec_fault4 = Decides-and _ _ (Decides-eqb (kind_at h i) 6)
      (dec_some (λ a. held h i a && accepted h (call_begin h i) a) (λ a. (held h i a ≡ true) × (accepted h (call_begin h i) a ≡ true)) (suc (puts_before h i))
      (λ a. Decides-and _ _ (dec_true (held h i a)) (dec_true (accepted h (call_begin h i) a))) (λ a q. held_begun a q.0))

  dec_fault5 : Decides (fault5 k n h i) (Fault5 k n h i)
  dec_fault5 = Decides-and _ _ (Decides-eqb (kind_at h i) 4) (Decides-and _ _ (dec_apart h F i le) (dec_le (count_items h i (held h i)) ((n - 1) * k)))

  dec_shows : (f : ℕ) → Decides (shown k n h f i) (Shows k n h f i)
  dec_shows f = Decides-or _ _ (Decides-and _ _ (Decides-eqb f 1) dec_fault1) (Decides-or _ _ (Decides-and _ _ (Decides-eqb f 2) dec_fault2) (Decides-or _ _ (Decides-and _ _ (Decides-eqb f 3) dec_fault3) (Decides-or _ _ (Decides-and _ _ (Decides-eqb f 4) dec_fault4) (Decides-and _ _ (Decides-eqb f 5) dec_fault5))))

  spotless_clean : spotless k n h i ≡ true → Clean k n h i
  spotless_clean e f s =
      let no = not_from_Decides _ (Decides-or _ _ dec_fault1 (Decides-or _ _ dec_fault2 (Decides-or _ _ dec_fault3 (Decides-or _ _ dec_fault4 dec_fault5)))) (not-true _ e) in
      shows_cases k n h f i ⊥ s (λ _ w. no (inl w)) (λ _ w. no (inr (inl w))) (λ _ w. no (inr (inr (inl w)))) (λ _ w. no (inr (inr (inr (inl w))))) (λ _ w. no (inr (inr (inr (inr w)))))

-- a verdict, checked by computation
abbrev agrees : ℕ → ℕ → List Event → Verdict → Bool
agrees k n h Sound = every (formed h) (length h) && every (spotless k n h) (length h)
agrees k n h (Fault f e) = every (formed h) (length h) && (ltb e (length h) && (shown k n h (fault_number f) e && (every (λ g. not (shown k n h g e)) (fault_number f) && every (spotless k n h) e)))

judged_by : (k n : ℕ) (h : List Event) (v : Verdict) → agrees k n h v ≡ true → Judged k n h v
judged_by k n h Sound e =
    let w = and_parts (every (formed h) (length h)) (every (spotless k n h) (length h)) e in
    let F : Formed h = λ j lt. every_at (formed h) (length h) j w.0 lt in
    λ i lt. spotless_clean k n h F i (omega arith) (every_at (spotless k n h) (length h) i w.1 lt)
judged_by k n h (Fault f e) q =
    let w = and_parts (every (formed h) (length h)) _ q in
    let F : Formed h = λ j lt. every_at (formed h) (length h) j w.0 lt in
    let a = and_parts (ltb e (length h)) _ w.1 in let b = and_parts (shown k n h (fault_number f) e) _ a.1 in
    let c = and_parts (every (λ g. not (shown k n h g e)) (fault_number f)) (every (spotless k n h) e) b.1 in
    let lt : e < length h = ltb-true e (length h) a.0 in (
      lt,
      (
        ((dec_shows k n h F e (omega arith) (fault_number f)).0 b.0, λ g l s. not_from_Decides (shown k n h g e) (dec_shows k n h F e (omega arith) g) (not-true _ (every_at (λ g. not (shown k n h g e)) (fault_number f) g c.0 l)) s),
        λ i l. spotless_clean k n h F i (omega arith) (every_at (spotless k n h) e i c.1 l),
      ),
    )

-- the worked histories
pub table : Table
unfolding flying
table = record {
  passed_once = judged_by 1 2 two_puts (Fault PassedTooOften 5) refl;
  passed_once_of_two = judged_by 2 2 two_puts Sound refl;
  begun_before = judged_by 1 2 both_begun Sound refl;
  two_older = judged_by 2 2 three_puts (Fault TooManyOlder 7) refl;
  held_before_take = judged_by 1 2 empty_late (Fault NotEmpty 3) refl;
  take_before_put = judged_by 1 2 empty_early Sound refl;
}
