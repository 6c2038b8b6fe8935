-- No two calls were in flight together exactly where at no place more than one was counted.
use Rattle.std.proofs.Common.{◌≡◌, ℕ, zero, suc, ◌-◌, ◌<◌, ◌≤◌, Bool, true, false, not, eqb, ltb, ◌≢◌, List, length, Decides, ⊎_elim, arith}
use Rattle.std.proofs.lemmas.Bool.{cases_Bool, cases_order, cond-true, cond-false, ltb-false, le-ltb, eq-eqb, eqb-true, not-true, not_from_false, or_cases}
use Rattle.history.specs.Positions.{count_below}
use Rattle.history.specs.Events.{kind_at, thread_at}
use Rattle.history.specs.Calls.{by, last_event, last_kind, in_flight, Apart}
use Rattle.history.specs.WellFormed.{Formed}
use Rattle.history.specs.declared.event.Event.{Event}
use Rattle.history.proofs.Positions.{some_none, some_not, count_none, count_mono, last_is}
use Rattle.history.proofs.Tables.{formed_small}
use Rattle.judge.specs.Flights.{flying, together}

-- a test that holds at two numbers counts two
count_in_order : (p : ℕ → Bool) (n a b : ℕ) → a < b → b < n → p a ≡ true → p b ≡ true → 1 < count_below p n
count_in_order p n a b lt lb x y =
    let at_a = cond-true (p a) (suc (count_below p a)) (count_below p a) x in
    let at_b = cond-true (p b) (suc (count_below p b)) (count_below p b) y in
    omega (arith, at_a, at_b, count_mono p (suc a) b lt, count_mono p (suc b) n lb)

-- a test that holds at one number at most counts no more than one
count_one : (p : ℕ → Bool) (n : ℕ) → ((a b : ℕ) → a < n → b < n → p a ≡ true → p b ≡ true → a ≡ b) → count_below p n ≤ 1
count_one p zero f = omega arith
count_one p (suc n) f = ⊎_elim
    (λ (e : p n ≡ true).
    let none = count_none p n (λ j lt. ⊎_elim (λ (t : p j ≡ true). absurd (let s = f j n (omega arith) (omega arith) t e in omega arith)) (λ (t : p j ≡ false). t) (cases_Bool (p j))) in
    omega (arith, none, cond-true (p n) (suc (count_below p n)) (count_below p n) e))
    (λ (e : p n ≡ false). omega (arith, count_one p n (λ a b la lb. f a b (omega arith) (omega arith)), cond-false (p n) (suc (count_below p n)) (count_below p n) e))
    (cases_Bool (p n))

-- a thread with a call in flight is below 64
in_flight_small : (h : List Event) → Formed h → (j : ℕ) → j ≤ length h → (t : ℕ) → in_flight h t j ≡ true → t < 64
in_flight_small h F j le t e =
    let some : last_event h t j ≢ 0 =
    λ z. let none = cond-true (eqb (last_event h t j) 0) 0 (kind_at h (last_event h t j - 1)) (eq-eqb (last_event h t j) 0 z) in
    ⊎_elim (λ (a : eqb (last_kind h t j) 1 ≡ true). omega (arith, none, eqb-true (last_kind h t j) 1 a)) (λ (b : eqb (last_kind h t j) 2 ≡ true). omega (arith, none, eqb-true (last_kind h t j) 2 b)) (or_cases _ _ e) in
    let l = last_is (by h t) j (last_event h t j - 1) (omega arith) in
    omega (arith, formed_small h (last_event h t j - 1) (F _ (omega (arith, l.0))), eqb-true (thread_at h (last_event h t j - 1)) t l.1.0)

two_flying : (h : List Event) (j t u : ℕ) → t < u → u < 64 → in_flight h t j ≡ true → in_flight h u j ≡ true → 1 < flying h j
unfolding flying
two_flying h j t u lt lu a b = count_in_order (λ m. in_flight h m j) 64 t u lt lu a b

one_flying : (h : List Event) (j : ℕ) → ((t u : ℕ) → in_flight h t j ≡ true → in_flight h u j ≡ true → t ≡ u) → flying h j ≤ 1
unfolding flying
one_flying h j f = count_one (λ m. in_flight h m j) 64 (λ a b la lb x y. f a b x y)

pub apart_from : (h : List Event) → Formed h → (i : ℕ) → i ≤ length h → together h i ≡ false → Apart h i
apart_from h F i in_h e j t u le a b =
    let few = ltb-false 1 (flying h j) (some_not (λ m. ltb 1 (flying h m)) (suc i) j e (omega arith)) in
    let inside : j ≤ length h = omega arith in
    ⊎_elim (λ (q : t ≡ u). q) (⊎_elim
    (λ (q : t < u). absurd (omega (arith, few, two_flying h j t u q (in_flight_small h F j inside u b) a b)))
    (λ (q : u < t). absurd (omega (arith, few, two_flying h j u t q (in_flight_small h F j inside t a) b a)))) (cases_order t u)

pub apart_to : (h : List Event) (i : ℕ) → Apart h i → together h i ≡ false
apart_to h i A = some_none (λ m. ltb 1 (flying h m)) (suc i) (λ j lt. le-ltb 1 (flying h j) (one_flying h j (λ t u x y. A j t u (omega arith) x y)))

pub dec_apart : (h : List Event) → Formed h → (i : ℕ) → i ≤ length h → Decides (not (together h i)) (Apart h i)
dec_apart h F i le = (λ e. apart_from h F i le (not-true (together h i) e), λ A. not_from_false (together h i) (apart_to h i A))
