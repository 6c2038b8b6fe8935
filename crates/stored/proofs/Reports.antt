-- A report from its parts.
use Rattle.std.proofs.Common.{◌≡◌, ℕ, min, List, length, Ok, Err, Result, subst, inl, inr, arith}
use Rattle.history.specs.Calls.{Apart, puts_before}
use Rattle.history.specs.Limits.{most, SegmentFits}
use Rattle.history.specs.Questions.{AllYes, FirstNo}
use Rattle.history.specs.declared.event.Event.{Event}
use Rattle.history.specs.declared.refusal.Refusal.{Refusal}
use Rattle.history.specs.Events.{is}
use Rattle.history.proofs.Positions.{count_le}
use Rattle.history.proofs.Questions.{not_both}
use Rattle.judge.specs.Answers as judge
use Rattle.judge.specs.declared.verdict.Verdict.{Verdict}
use Rattle.stored.specs.Input.{Holds}
use Rattle.history.specs.Asked.{history_questions}
use Rattle.replay.specs.Answer.{replay_questions}
use Rattle.stored.specs.Report.{ReplayGiven, Tale, Declined}
use Rattle.stored.specs.declared.report.Replay.{Replay}

-- the judge and the replay were handed this history and this many rows
pub judged_at : (k n : ℕ) (h h' : List Event) (m m' : ℕ) (r : Result Verdict Refusal) → h ≡ h' → m ≡ m' → judge.Answered k n h m r → judge.Answered k n h' m' r
judged_at k n h h' m m' r e f g = subst (λ (l : List Event). judge.Answered k n l m' r) e (subst (λ (i : ℕ). judge.Answered k n h i r) f g)

pub given_at : (k : ℕ) (h h' : List Event) (m m' : ℕ) (r : Result Replay Refusal) → h ≡ h' → m ≡ m' → ReplayGiven k h m r → ReplayGiven k h' m' r
given_at k h h' m m' r e f g = subst (λ (l : List Event). ReplayGiven k l m' r) e (subst (λ (i : ℕ). ReplayGiven k h i r) f g)

-- what the judge answers with a row for each put begun, it answers with as many as are ever used
enough : (k n : ℕ) (h : List Event) (r : Result Verdict Refusal) → judge.Answered k n h (min (puts_before h (length h)) most) r → judge.Answered k n h most r
enough k n h (Ok v) ((slots, (segments, (short, (formed, (rows, end))))), judged) = ((slots, (segments, (short, (formed, (omega (arith, rows), end))))), judged)
enough k n h (Err r) (inl p, names) = (inl p, names)
enough k n h (Err r) (inr (slots, inl p), names) = (inr (slots, inl p), names)
enough k n h (Err r) (inr (slots, inr (segments, inl p)), names) = (inr (slots, inr (segments, inl p)), names)
enough k n h (Err r) (inr (slots, inr (segments, inr (short, inl p))), names) = (inr (slots, inr (segments, inr (short, inl p))), names)
enough k n h (Err r) (inr (slots, inr (segments, inr (short, inr (formed, inl p)))), names) = absurd (p.0 (omega (arith, count_le (is 1 h) (length h), short)))
enough k n h (Err r) (inr (slots, inr (segments, inr (short, inr (formed, inr (rows, none))))), names) = absurd none

pub judged_enough : (k n : ℕ) (h h' : List Event) (m : ℕ) (r : Result Verdict Refusal) → h ≡ h' → m ≡ min (puts_before h' (length h')) most → judge.Answered k n h m r → judge.Answered k n h' most r
judged_enough k n h h' m r e f g = enough k n h' r (judged_at k n h h' m _ r e f g)

-- calls overlap: the questions before that one were answered yes
pub overlap_found : (k m : ℕ) (h : List Event) → FirstNo (replay_questions k h m) 16 → SegmentFits k × (AllYes (history_questions h m) × (Apart h (length h) → ⊥))
overlap_found k m h (inl p) = absurd (omega (arith, p.1))
overlap_found k m h (inr (fits, inl p)) = absurd (omega (arith, p.1))
overlap_found k m h (inr (fits, inr (short, inl p))) = absurd (omega (arith, p.1))
overlap_found k m h (inr (fits, inr (short, inr (formed, inl p)))) = absurd (omega (arith, p.1))
overlap_found k m h (inr (fits, inr (short, inr (formed, inr (rows, inl p))))) = (fits, ((short, (formed, (rows, tt))), p.0))
overlap_found k m h (inr (fits, inr (short, inr (formed, inr (rows, inr (apart, none)))))) = absurd none

module _ (input : List ℕ) (k n : ℕ) (h : List Event) (H : Holds input k n h) where
  pub declined : (r : Refusal) → judge.Answered k n h most (Err r) → Declined input r
  declined r g = record { k = k; segments = n; history = h; held = H; first_no = g.0; names = g.1 }

  module _ (v : Verdict) (J : judge.Answered k n h most (Ok v)) where
    -- what the judge took the replay does not refuse
    pub not_declined : (r : Refusal) → ReplayGiven k h most (Err r) → ⊥
    not_declined r g = not_both (history_questions h most) _ J.0.1.1 (g.0 J.0.0)

    pub tale : (a : Replay) → ReplayGiven k h most (Ok a) → (events : ℕ) → events ≡ length h → Tale input (record { events = events; verdict = v; replay = a })
    tale a g events e = record { k = k; segments = n; history = h; held = H; all_yes = J.0; counted = e; judged = J.1; replayed = g.1.1 }
