-- Questions have one answer, and keep it where more follow.
use Rattle.std.proofs.Common.{◌≡◌, ℕ, List, [], ◌∷◌, sym, ◌∙◌, inl, inr, ⊎_elim}
use Rattle.history.specs.Questions.{Question, AllYes, FirstNo}

pub not_both : (qs : List Question) (n : ℕ) → AllYes qs → FirstNo qs n → ⊥
not_both [] n yes_all f = f
not_both (q ∷ qs) n yes_all f = ⊎_elim (λ a. a.0 yes_all.0) (λ b. not_both qs n yes_all.1 b.1) f

pub one_first : (qs : List Question) (m n : ℕ) → FirstNo qs m → FirstNo qs n → m ≡ n
one_first [] m n f g = absurd f
one_first (q ∷ qs) m n (inl a) (inl b) = a.1 ∙ sym b.1
one_first (q ∷ qs) m n (inl a) (inr b) = absurd (a.0 b.0)
one_first (q ∷ qs) m n (inr a) (inl b) = absurd (b.0 a.0)
one_first (q ∷ qs) m n (inr a) (inr b) = one_first qs m n a.1 b.1
