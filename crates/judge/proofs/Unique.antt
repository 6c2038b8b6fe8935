-- The contract leaves one answer.
use Rattle.std.proofs.Common.{◌≡◌, ℕ, cond, eqb, List, Ok, Err, sym, refl, ap, ◌∙◌, subst}
use Rattle.history.specs.Faults.{Shows, Lowest}
use Rattle.history.specs.Refusals.{refusal_number}
use Rattle.history.specs.declared.event.Event.{Event}
use Rattle.history.specs.declared.refusal.Refusal.{Refusal}
use Rattle.history.proofs.Positions.{least_one}
use Rattle.history.proofs.Questions.{not_both, one_first}
use Rattle.history.proofs.Refusals.{refusal_one}
use Rattle.judge.specs.Faults.{fault_number}
use Rattle.judge.specs.declared.fault.Fault as judge
use Rattle.judge.specs.declared.fault.Fault.TheVariants.{NotThere, PassedTooOften, TooManyOlder, NotEmpty, NotFull}
use Rattle.judge.specs.Verdicts.{Judged}
use Rattle.judge.specs.Answers.{judge_questions}
use Rattle.judge.specs.Theorems.{OneAnswer}
use Rattle.judge.specs.declared.verdict.Verdict.{Verdict}
use Rattle.judge.specs.declared.verdict.Verdict.TheVariants.{Sound, Fault}

-- the fault of a number
abbrev fault_of : ℕ → judge.Fault
fault_of n = cond (eqb n 1) NotThere (cond (eqb n 2) PassedTooOften (cond (eqb n 3) TooManyOlder (cond (eqb n 4) NotEmpty NotFull)))

fault_back : (f : judge.Fault) → fault_of (fault_number f) ≡ f
fault_back NotThere = refl
fault_back PassedTooOften = refl
fault_back TooManyOlder = refl
fault_back NotEmpty = refl
fault_back NotFull = refl

fault_one : (f g : judge.Fault) → fault_number f ≡ fault_number g → f ≡ g
fault_one f g e = sym (fault_back f) ∙ ap fault_of e ∙ fault_back g

judged_one : (k n : ℕ) (h : List Event) (v w : Verdict) → Judged k n h v → Judged k n h w → v ≡ w
judged_one k n h Sound Sound a b = refl
judged_one k n h Sound (Fault g d) a b = absurd (a d b.0 (fault_number g) b.1.0.0)
judged_one k n h (Fault f e) Sound a b = absurd (b e a.0 (fault_number f) a.1.0.0)
judged_one k n h (Fault f e) (Fault g d) a b =
    let P : ℕ → Type 0 = λ i. (x : ℕ) × Shows k n h x i in
    let at : e ≡ d = least_one P e d (fault_number f, a.1.0.0) (fault_number g, b.1.0.0) (λ i lt p. a.1.1 i lt p.0 p.1) (λ i lt p. b.1.1 i lt p.0 p.1) in
    let b' = subst (λ (i : ℕ). Lowest k n h (fault_number g) i) (sym at) b.1.0 in
    let no : f ≡ g = fault_one f g (least_one (λ x. Shows k n h x e) (fault_number f) (fault_number g) a.1.0.0 b'.0 a.1.0.1 b'.1) in
    ap (λ (x : judge.Fault). Fault x e) no ∙ ap (λ (x : ℕ). Fault g x) at

pub answered_one : OneAnswer
answered_one k n h m (Ok v) (Ok w) a b = ap (λ (x : Verdict). Ok x) (judged_one k n h v w a.1 b.1)
answered_one k n h m (Ok v) (Err s) a b = absurd (not_both (judge_questions k n h m) (refusal_number s) a.0 b.0)
answered_one k n h m (Err r) (Ok w) a b = absurd (not_both (judge_questions k n h m) (refusal_number r) b.0 a.0)
answered_one k n h m (Err r) (Err s) a b =
    ap (λ (x : Refusal). Err x) (refusal_one h r s (one_first (judge_questions k n h m) (refusal_number r) (refusal_number s) a.0 b.0) a.1 b.1)
