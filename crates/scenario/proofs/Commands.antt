-- The bytes of a command: there is one way to cut them.
use Rattle.std.proofs.Common.{◌≡◌, ℕ, List, ◌∷◌, ◌++◌, Some, None, Option, codes, get_or, refl, sym, ap, ◌∙◌, subst, arith}
use Rattle.text.specs.Cut.{Lacks}
use Rattle.text.proofs.Parts.{one_cut, digits_lack_colon}
use Rattle.scenario.specs.Command.{ThreadAnd, word, Arguments, Writes}
use Rattle.scenario.specs.Written.{Reads}
use Rattle.scenario.specs.declared.command.Command.{Command}
use Rattle.scenario.specs.declared.command.Command.TheVariants.{Put, Take, Step, Run, Collect}
use Rattle.scenario.proofs.Words.{lacks}

-- a thread stands before the first colon
pub one_thread : (bs a r : List ℕ) → bs ≡ a ++ 58 ∷ r → Lacks 58 a → (thread : ℕ) (P : List ℕ → Type 0) (T : ThreadAnd bs thread P) → (T.before ≡ a) × (T.behind ≡ r)
one_thread bs a r e f thread P T = one_cut 58 T.before T.behind a r (digits_lack_colon T.before thread T.thread_is.0) f (sym T.cut ∙ e)

-- what stands behind the thread is all that is known of it
pub bare : (bs : List ℕ) (thread : ℕ) (P : List ℕ → Type 0) (T : ThreadAnd bs thread P) → ThreadAnd bs thread (λ l. l ≡ T.behind)
bare bs thread P T = record { before = T.before; behind = T.behind; cut = T.cut; thread_is = T.thread_is; behind_is = refl }

pub same_behind : (bs rest : List ℕ) (t u : ℕ) (P : List ℕ → Type 0) (T : ThreadAnd bs t P) → ThreadAnd bs u (λ l. l ≡ rest) → T.behind ≡ rest
same_behind bs rest t u P T U = (one_thread bs U.before U.behind U.cut (digits_lack_colon U.before u U.thread_is.0) t P T).1 ∙ U.behind_is

word_lacks : {E : Type 0} (c : Command E) → Lacks 61 (word c)
word_lacks (Put t x) = lacks 61 (codes "put") refl
word_lacks (Take t) = lacks 61 (codes "take") refl
word_lacks (Step t) = lacks 61 (codes "step") refl
word_lacks (Run t) = lacks 61 (codes "run") refl
word_lacks (Collect t) = lacks 61 (codes "collect") refl

-- bs cut at the first =
pub read_whole : {E : Type 0} (written : List ℕ → E → Type 0) (bs name rest : List ℕ) → bs ≡ name ++ 61 ∷ rest → Lacks 61 name → (r : Option (Command E)) → Reads (λ c. (word c ≡ name) × Arguments written rest c) r → Reads (Writes written bs) r
read_whole written bs name rest e f (Some c) h = (rest, (e ∙ ap (λ l. l ++ 61 ∷ rest) (sym h.0), h.1))
read_whole written bs name rest e f None h = λ c W.
    let same = one_cut 61 (word c) W.0 name rest (word_lacks c) f (sym W.1.0 ∙ e) in
    h c (same.0, subst (λ (l : List ℕ). Arguments written l c) same.1 W.1.1)

first : {a b : List ℕ} → a ≡ b → get_or a 0 0 ≡ get_or b 0 0
first e = ap (λ l. get_or l 0 0) e

-- only a put has the word of a put
pub no_put : {E : Type 0} (written : List ℕ → E → Type 0) (bs name : List ℕ) → name ≡ codes "put" → ((p : ℕ × E) → ThreadAnd bs p.0 (λ rest. written rest p.1) → ⊥) → (c : Command E) → (word c ≡ name) × Arguments written bs c → ⊥
no_put written bs name e none (Put t x) h = none (t, x) h.1
no_put written bs name e none (Take t) h = let f : 116 ≡ 112 = first (h.0 ∙ e) in omega (arith, f)
no_put written bs name e none (Step t) h = let f : 115 ≡ 112 = first (h.0 ∙ e) in omega (arith, f)
no_put written bs name e none (Run t) h = let f : 114 ≡ 112 = first (h.0 ∙ e) in omega (arith, f)
no_put written bs name e none (Collect t) h = let f : 99 ≡ 112 = first (h.0 ∙ e) in omega (arith, f)
