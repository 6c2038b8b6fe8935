-- The contract leaves one answer.
use Rattle.std.proofs.Common.{◌≡◌, ℕ, suc, ◌<◌, ◌≤◌, List, Some, None, Ok, Err, Option, refl, ap, ⊎_elim, arith}
use Rattle.std.proofs.lemmas.Bool.{cases_order}
use Rattle.history.specs.Refusals.{refusal_number}
use Rattle.history.specs.declared.event.Event.{Event}
use Rattle.history.specs.declared.refusal.Refusal.{Refusal}
use Rattle.history.proofs.Questions.{not_both, one_first}
use Rattle.history.proofs.Refusals.{refusal_one}
use Rattle.replay.specs.Answer.{replay_questions, Replays}
use Rattle.replay.specs.Run.{Run}
use Rattle.replay.specs.Theorems.{OneAnswer}

-- the front of a run is a run
run_front : (k : ℕ) (h : List Event) (m n : ℕ) → m ≤ n → Run k h n → Run k h m
run_front k h m n le r = record { states = r.states; starts = r.starts; goes = λ j lt. r.goes j (omega arith) }

replays_one : (k : ℕ) (h : List Event) (a b : Option ℕ) → Replays k h a → Replays k h b → a ≡ b
replays_one k h None None r s = refl
replays_one k h None (Some e) r s = absurd (s.1.1 (run_front k h (suc e) _ s.0 r))
replays_one k h (Some d) None r s = absurd (r.1.1 (run_front k h (suc d) _ r.0 s))
replays_one k h (Some d) (Some e) r s = ap (λ (i : ℕ). Some i) (⊎_elim (λ q. q) (⊎_elim
    (λ (lt : d < e). absurd (r.1.1 (run_front k h (suc d) e lt s.1.0)))
    (λ (lt : e < d). absurd (s.1.1 (run_front k h (suc e) d lt r.1.0)))) (cases_order d e))

pub answered_one : OneAnswer
answered_one k h m (Ok a) (Ok b) r s = ap (λ (x : Option ℕ). Ok x) (replays_one k h a b r.1 s.1)
answered_one k h m (Ok a) (Err f) r s = absurd (not_both (replay_questions k h m) (refusal_number f) r.0 s.0)
answered_one k h m (Err e) (Ok b) r s = absurd (not_both (replay_questions k h m) (refusal_number e) s.0 r.0)
answered_one k h m (Err e) (Err f) r s =
    ap (λ (x : Refusal). Err x) (refusal_one h e f (one_first (replay_questions k h m) (refusal_number e) (refusal_number f) r.0 s.0) r.1 s.1)
