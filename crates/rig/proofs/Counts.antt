-- Elements of a list that pass a test, counted by their positions.
use Rattle.std.proofs.Common.{◌≡◌, ℕ, zero, suc, ◌≤◌, Bool, true, false, count_by, List, length, get_or, take, sym, refl, ap, ◌∙◌, ⊎_elim, add-one, arith}
use Rattle.std.proofs.lemmas.Bool.{cases_Bool, cond-true, cond-false}
use Rattle.std.proofs.lemmas.List.{take_all}
use Rattle.std.proofs.lemmas.List.Sums.{count_by_more_yes, count_by_more_no}
use Rattle.history.specs.Positions.{count_below}

counted_front : {X : Type 0} (p : X → Bool) (xs : List X) (d : X) (n : ℕ) → n ≤ length xs → count_by p (take n xs) ≡ count_below (λ j. p (get_or xs j d)) n
counted_front p xs d zero le = refl
counted_front p xs d (suc n) le =
    let before = counted_front p xs d n (omega arith) in
    let below = count_below (λ j. p (get_or xs j d)) n in
    ap (λ i. count_by p (take i xs)) (sym (add-one n))
    ∙ ⊎_elim
    (λ (t : p (get_or xs n d) ≡ true). count_by_more_yes p xs n d (omega arith) t ∙ add-one (count_by p (take n xs)) ∙ ap suc before ∙ sym (cond-true (p (get_or xs n d)) (suc below) below t))
    (λ (f : p (get_or xs n d) ≡ false). count_by_more_no p xs n d (omega arith) f ∙ before ∙ sym (cond-false (p (get_or xs n d)) (suc below) below f))
    (cases_Bool (p (get_or xs n d)))

pub counted : {X : Type 0} (p : X → Bool) (xs : List X) (d : X) → count_by p xs ≡ count_below (λ j. p (get_or xs j d)) (length xs)
counted p xs d = ap (count_by p) (sym (take_all (length xs) xs (omega arith))) ∙ counted_front p xs d (length xs) (omega arith)
