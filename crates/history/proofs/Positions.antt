-- Laws of the words about positions.
use Rattle.std.proofs.Common.{◌≡◌, ℕ, zero, suc, ◌+◌, ◌<◌, ◌≤◌, Bool, true, false, cond, ◌&&◌, ◌||◌, ◌≢◌, sym, refl, ap, ◌∙◌, subst, ⊎_elim, add-one, arith}
use Rattle.std.proofs.lemmas.Bool.{cond_both, cases_Bool, cases_eq, cases_order, both_ways, or_cases, or_left, or_right, or_from, cond-true, cond-false, and_from, and_left, and_right}
use Rattle.history.specs.Positions.{some_below, count_below, last_below}

pub some_more : (p : ℕ → Bool) (n : ℕ) → some_below p (n + 1) ≡ (p n || some_below p n)
some_more p n = rw add-one refl

pub count_more : (p : ℕ → Bool) (n : ℕ) → count_below p (n + 1) ≡ cond (p n) (suc (count_below p n)) (count_below p n)
count_more p n = rw add-one refl

pub last_more : (p : ℕ → Bool) (n : ℕ) → last_below p (n + 1) ≡ cond (p n) (suc n) (last_below p n)
last_more p n = rw add-one refl

pub last_le : (p : ℕ → Bool) (n : ℕ) → last_below p n ≤ n
last_le p zero = omega arith
last_le p (suc n) = let h = last_le p n in cond_both (p n) (suc n) (last_below p n) (λ x. x ≤ suc n) (λ _. omega arith) (λ _. omega arith)

pub count_le : (p : ℕ → Bool) (n : ℕ) → count_below p n ≤ n
count_le p zero = omega arith
count_le p (suc n) = let h = count_le p n in cond_both (p n) (suc (count_below p n)) (count_below p n) (λ x. x ≤ suc n) (λ _. omega arith) (λ _. omega arith)

-- what a Bool that is not true is
pub false_from : (b : Bool) → (b ≡ true → ⊥) → b ≡ false
false_from b f = ⊎_elim (λ e. absurd (f e)) (λ e. e) (cases_Bool b)

pub some_at : (p : ℕ → Bool) (n j : ℕ) → j < n → p j ≡ true → some_below p n ≡ true
some_at p zero j lt e = absurd (omega arith)
some_at p (suc n) j lt e =
    ⊎_elim (λ (q : j ≡ n). or_left (p n) (some_below p n) (subst (λ (x : ℕ). p x ≡ true) q e))
    (λ (q : j ≡ n → ⊥). or_right (p n) (some_below p n) (some_at p n j (omega arith) e)) (cases_eq j n)

pub some_none : (p : ℕ → Bool) (n : ℕ) → ((j : ℕ) → j < n → p j ≡ false) → some_below p n ≡ false
some_none p zero f = refl
some_none p (suc n) f = or_from (p n) (some_below p n) (f n (omega arith)) (some_none p n (λ j lt. f j (omega arith)))

pub some_find : (p : ℕ → Bool) (n : ℕ) → some_below p n ≡ true → (j : ℕ) × ((j < n) × (p j ≡ true))
some_find p zero e = absurd (both_ways false refl e)
some_find p (suc n) e =
    ⊎_elim (λ q. (n, (omega arith, q))) (λ q. let f = some_find p n q in (f.0, (omega arith, f.1.1))) (or_cases (p n) (some_below p n) e)

pub some_not : (p : ℕ → Bool) (n j : ℕ) → some_below p n ≡ false → j < n → p j ≡ false
some_not p n j e lt = false_from (p j) (λ q. both_ways (some_below p n) e (some_at p n j lt q))

pub count_same : (p q : ℕ → Bool) (n : ℕ) → ((j : ℕ) → j < n → p j ≡ q j) → count_below p n ≡ count_below q n
count_same p q zero f = refl
count_same p q (suc n) f =
    let a = f n (omega arith) in let b = count_same p q n (λ j lt. f j (omega arith)) in
    ap (λ (x : Bool). cond x (suc (count_below p n)) (count_below p n)) a ∙ ap (λ (x : ℕ). cond (q n) (suc x) x) b

pub count_none : (p : ℕ → Bool) (n : ℕ) → ((j : ℕ) → j < n → p j ≡ false) → count_below p n ≡ 0
count_none p zero f = refl
count_none p (suc n) f = cond-false (p n) (suc (count_below p n)) (count_below p n) (f n (omega arith)) ∙ count_none p n (λ j lt. f j (omega arith))

-- nothing from m on
pub count_front : (p : ℕ → Bool) (m n : ℕ) → m ≤ n → ((j : ℕ) → m ≤ j → j < n → p j ≡ false) → count_below p n ≡ count_below p m
count_front p m zero le f = let e : 0 ≡ m = omega arith in ap (count_below p) e
count_front p m (suc n) le f =
    ⊎_elim (λ (q : m ≡ suc n). ap (count_below p) (sym q))
    (λ (q : m ≡ suc n → ⊥). cond-false (p n) (suc (count_below p n)) (count_below p n) (f n (omega arith) (omega arith)) ∙ count_front p m n (omega arith) (λ j a b. f j a (omega arith)))
    (cases_eq m (suc n))

-- p holds at z, q does not, and elsewhere they agree
pub count_less : (p q : ℕ → Bool) (n z : ℕ) → z < n → p z ≡ true → q z ≡ false → ((j : ℕ) → j < n → j ≢ z → p j ≡ q j) → count_below p n ≡ suc (count_below q n)
count_less p q zero z lt a b f = absurd (omega arith)
count_less p q (suc n) z lt a b f =
    ⊎_elim
    (λ (e : z ≡ n). let a' = subst (λ (x : ℕ). p x ≡ true) e a in let b' = subst (λ (x : ℕ). q x ≡ false) e b in
    cond-true (p n) (suc (count_below p n)) (count_below p n) a' ∙ ap suc (count_same p q n (λ j l. f j (omega arith) (omega arith)) ∙ sym (cond-false (q n) (suc (count_below q n)) (count_below q n) b')))
    (λ (e : z ≡ n → ⊥). let s = count_less p q n z (omega arith) a b (λ j l. f j (omega arith)) in
    let w = f n (omega arith) (omega arith) in
    ap (λ (x : Bool). cond x (suc (count_below p n)) (count_below p n)) w
    ∙ cond_both (q n) (suc (count_below q n)) (count_below q n) (λ x. cond (q n) (suc (count_below p n)) (count_below p n) ≡ suc x)
    (λ t. cond-true (q n) (suc (count_below p n)) (count_below p n) t ∙ ap suc s) (λ t. cond-false (q n) (suc (count_below p n)) (count_below p n) t ∙ s))
    (cases_eq z n)

pub count_mono : (p : ℕ → Bool) (m n : ℕ) → m ≤ n → count_below p m ≤ count_below p n
count_mono p m zero le = let e : m ≡ 0 = omega arith in omega (arith, ap (count_below p) e)
count_mono p m (suc n) le =
    ⊎_elim (λ (q : m ≡ suc n). omega (arith, ap (count_below p) q))
    (λ (q : m ≡ suc n → ⊥). let s = count_mono p m n (omega arith) in
    cond_both (p n) (suc (count_below p n)) (count_below p n) (λ x. count_below p m ≤ x) (λ _. omega arith) (λ _. omega arith))
    (cases_eq m (suc n))

-- what the last one is
pub last_is : (p : ℕ → Bool) (n j : ℕ) → last_below p n ≡ suc j → (j < n) × ((p j ≡ true) × ((m : ℕ) → j < m → m < n → p m ≡ false))
last_is p zero j e = absurd (omega arith)
last_is p (suc n) j e = ⊎_elim
    (λ (t : p n ≡ true). let q : suc n ≡ suc j = sym (cond-true (p n) (suc n) (last_below p n) t) ∙ e in let r : n ≡ j = omega arith in
    (omega arith, (subst (λ (x : ℕ). p x ≡ true) r t, λ m a b. absurd (omega arith))))
    (λ (t : p n ≡ false). let s = last_is p n j (sym (cond-false (p n) (suc n) (last_below p n) t) ∙ e) in
    (omega (arith, s.0), (s.1.0, λ m a b. ⊎_elim (λ (q : m ≡ n). subst (λ (x : ℕ). p x ≡ false) (sym q) t) (λ (q : m ≡ n → ⊥). s.1.1 m a (omega arith)) (cases_eq m n))))
    (cases_Bool (p n))

pub last_none : (p : ℕ → Bool) (n : ℕ) → last_below p n ≡ 0 → some_below p n ≡ false
last_none p zero e = refl
last_none p (suc n) e = ⊎_elim
    (λ (t : p n ≡ true). absurd (let q : suc n ≡ 0 = sym (cond-true (p n) (suc n) (last_below p n) t) ∙ e in omega arith))
    (λ (t : p n ≡ false). or_from (p n) (some_below p n) t (last_none p n (sym (cond-false (p n) (suc n) (last_below p n) t) ∙ e)))
    (cases_Bool (p n))

pub some_mono : (p : ℕ → Bool) (m n : ℕ) → m ≤ n → some_below p m ≡ true → some_below p n ≡ true
some_mono p m n le e = let f = some_find p m e in some_at p n f.0 (omega (arith, f.1.0)) f.1.1

-- p holds at z alone
pub some_one : (p r : ℕ → Bool) (n z : ℕ) → z < n → p z ≡ true → ((j : ℕ) → j < n → j ≢ z → p j ≡ false) → some_below (λ j. p j && r j) n ≡ r z
some_one p r n z lt e f = ⊎_elim
    (λ (t : r z ≡ true). some_at (λ j. p j && r j) n z lt (and_from (p z) (r z) e t) ∙ sym t)
    (λ (t : r z ≡ false). some_none (λ j. p j && r j) n (λ j l. ⊎_elim
    (λ (q : j ≡ z). subst (λ (x : ℕ). (p x && r x) ≡ false) (sym q) (and_right (p z) (r z) t))
    (λ (q : j ≡ z → ⊥). and_left (p j) (r j) (f j l q)) (cases_eq j z)) ∙ sym t)
    (cases_Bool (r z))

pub bool_mid : (a b c : Bool) → (c ≡ true → a ≡ true) → ((a && b) && c) ≡ (c && b)
bool_mid true true true f = refl
bool_mid true true false f = refl
bool_mid true false true f = refl
bool_mid true false false f = refl
bool_mid false true true f = absurd (both_ways false refl (f refl))
bool_mid false true false f = refl
bool_mid false false true f = refl
bool_mid false false false f = refl

-- the least position with a property is one
pub least_one : (P : ℕ → Type 0) (a b : ℕ) → P a → P b → ((i : ℕ) → i < a → P i → ⊥) → ((i : ℕ) → i < b → P i → ⊥) → a ≡ b
least_one P a b p q f g = ⊎_elim (λ e. e) (⊎_elim (λ (l : a < b). absurd (g a l p)) (λ (l : b < a). absurd (f b l q))) (cases_order a b)
