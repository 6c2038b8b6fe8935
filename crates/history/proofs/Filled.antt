-- A loop that writes one value from the front on.
use Rattle.std.proofs.Common.{◌≡◌, ℕ, zero, ◌+◌, ◌-◌, ◌<◌, ◌≤◌, min, List, [], ◌∷◌, ◌++◌, length, drop, set, replicate, sym, ap, ◌∙◌, ⊎_elim, arith}
use Rattle.std.proofs.lemmas.List.{append_assoc, length-append, length-drop, length-replicate, set-append_right, drop_more, drop_all, replicate_more}
use Rattle.std.proofs.lemmas.Slice.{drop-append-drop}
use Rattle.std.proofs.lemmas.Bool.{cases_lt}
use Rattle.history.specs.Limits.{cleared, most}

pub filled_more : {A : Type 0} (d : List A) (n : ℕ) (v : A) → n < length d → set (replicate n v ++ drop n d) n v ≡ replicate (n + 1) v ++ drop (n + 1) d
filled_more d n v lt =
    let z : n - n ≡ zero = omega arith in
    set-append_right (replicate n v) (drop n d) n n v (length-replicate n v) (omega arith)
    ∙ ap (λ i. replicate n v ++ set (drop n d) i v) z
    ∙ ap (λ xs. replicate n v ++ set xs 0 v) (drop_more d n v lt)
    ∙ sym (append_assoc (replicate n v) (v ∷ []) (drop (n + 1) d))
    ∙ ap (λ xs. xs ++ drop (n + 1) d) (replicate_more n v)

pub filled_all : {A : Type 0} (d : List A) (n : ℕ) (v : A) → n ≡ min (length d) most → replicate n v ++ drop n d ≡ cleared v d
filled_all d n v e =
    ap (λ i. replicate i v ++ drop n d) e
    ∙ ap (λ xs. replicate (min (length d) most) v ++ xs)
    (⊎_elim
    (λ (l : most < length d). ap (λ i. drop i d) (let q : n ≡ most = omega arith in q))
    (λ (l : length d ≤ most). drop_all n d (omega arith) ∙ sym (drop_all most d l))
    (cases_lt most (length d)))

-- clearing a table whose rows in use were written to
pub cleared_front : {A : Type 0} (z : A) (d ys : List A) (n : ℕ) → n ≡ min (length d) most → length ys ≡ n → cleared z (ys ++ drop n d) ≡ cleared z d
cleared_front z d ys n e l =
    let long : length (ys ++ drop n d) ≡ length d = omega (arith, length-append ys (drop n d), length-drop n d) in
    ap (λ m. replicate (min m most) z ++ drop most (ys ++ drop n d)) long
    ∙ ap (λ xs. replicate (min (length d) most) z ++ xs) (drop-append-drop n d ys most (omega arith) l)
