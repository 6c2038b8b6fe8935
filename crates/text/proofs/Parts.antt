-- Bytes that lack a byte, and bytes around one.
use Rattle.std.proofs.Common.{◌≡◌, ℕ, zero, suc, List, [], ◌∷◌, ◌++◌, length, get_or, sym, refl, ap, ◌∙◌, arith}
use Rattle.std.proofs.lemmas.List.{length-append, get_or_at}
use Rattle.text.specs.Cut.{Lacks}
use Rattle.text.specs.Numeral.{Numeral}

pub lacks_more : (c b : ℕ) (bs : List ℕ) → (b ≡ c → ⊥) → Lacks c bs → Lacks c (b ∷ bs)
lacks_more c b bs n h zero l e = n e
lacks_more c b bs n h (suc k) l e = h k (omega arith) e

pub lacks_rest : (c b : ℕ) (bs : List ℕ) → Lacks c (b ∷ bs) → Lacks c bs
lacks_rest c b bs h k l e = h (suc k) (omega arith) e

same_head : (a b : ℕ) (as' bs : List ℕ) → a ∷ as' ≡ b ∷ bs → a ≡ b
same_head a b as' bs e = cc

same_rest : (a b : ℕ) (as' bs : List ℕ) → a ∷ as' ≡ b ∷ bs → as' ≡ bs
same_rest a b as' bs e = cc

-- bytes are cut in one way at the first mark
pub one_cut : (m : ℕ) (a b c d : List ℕ) → Lacks m a → Lacks m c → a ++ m ∷ b ≡ c ++ m ∷ d → (a ≡ c) × (b ≡ d)
one_cut m [] b [] d f g e = (refl, same_rest m m b d e)
one_cut m [] b (y ∷ c) d f g e = absurd (g 0 (omega arith) (sym (same_head m y b (c ++ m ∷ d) e)))
one_cut m (x ∷ a) b [] d f g e = absurd (f 0 (omega arith) (same_head x m (a ++ m ∷ b) d e))
one_cut m (x ∷ a) b (y ∷ c) d f g e =
    let p = one_cut m a b c d (lacks_rest m x a f) (lacks_rest m y c g) (same_rest x y (a ++ m ∷ b) (c ++ m ∷ d) e) in
    (ap (λ z. z ∷ a) (same_head x y (a ++ m ∷ b) (c ++ m ∷ d) e) ∙ ap (λ l. y ∷ l) p.0, p.1)

pub not_lacking : (m : ℕ) (bs a b : List ℕ) → bs ≡ a ++ m ∷ b → Lacks m bs → ⊥
not_lacking m bs a b e f =
    f (length a) (omega (arith, ap length e, length-append a (m ∷ b))) (ap (λ l. get_or l (length a) 0) e ∙ get_or_at a m b 0 (length a) refl)

-- a number has no colon
pub digits_lack_colon : (bs : List ℕ) (n : ℕ) → Numeral bs n → Lacks 58 bs
digits_lack_colon bs n N k lt e = omega (arith, (N.digits k lt).1)
