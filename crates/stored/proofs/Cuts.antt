-- A pair's bytes: there is one way to cut them.
use Rattle.std.proofs.Common.{◌≡◌, ℕ, List, ◌∷◌, ◌++◌, sym, ◌∙◌}
use Rattle.text.specs.Cut.{Lacks}
use Rattle.text.proofs.Parts.{one_cut, digits_lack_colon}
use Rattle.stored.specs.Format.{Pair}

-- a pair is cut where the bytes are cut at their first colon
pub one_pair : (bs a b : List ℕ) → bs ≡ a ++ 58 ∷ b → Lacks 58 a → (t x : ℕ) (p : Pair bs t x) → (p.before ≡ a) × (p.behind ≡ b)
one_pair bs a b e f t x p = one_cut 58 p.before p.behind a b (digits_lack_colon p.before t p.thread_is.0) f (sym p.cut ∙ e)
