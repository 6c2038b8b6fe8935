-- Words that lack a byte.
use Rattle.std.proofs.Common.{◌≡◌, ℕ, Bool, true, false, cond, eqb, List, [], ◌∷◌, sym, ◌∙◌, ⊎_elim, arith}
use Rattle.std.proofs.lemmas.Bool.{cases_Bool, cond-true, cond-false, eqb-false}
use Rattle.text.specs.Cut.{Lacks}
use Rattle.text.proofs.Parts.{lacks_more}

abbrev pub all_other : ℕ → List ℕ → Bool
all_other c [] = true
all_other c (b ∷ bs) = cond (eqb b c) false (all_other c bs)

pub lacks : (c : ℕ) (bs : List ℕ) → all_other c bs ≡ true → Lacks c bs
lacks c [] h = λ k l e. omega arith
lacks c (b ∷ bs) h = ⊎_elim
    (λ e. absurd (let f : false ≡ true = sym (cond-true _ _ _ e) ∙ h in cc))
    (λ e. lacks_more c b bs (eqb-false b c e) (lacks c bs (sym (cond-false _ _ _ e) ∙ h)))
    (cases_Bool (eqb b c))
