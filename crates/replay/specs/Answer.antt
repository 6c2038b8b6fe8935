-- What the replay answers.
use Rattle.std.specs.Prelude.{◌≡◌, ℕ, suc, ◌<◌, List, [], ◌∷◌, ◌++◌, length, Some, None, Ok, Err, Option, Result}
use Rattle.history.specs.Asked.{history_questions}
use Rattle.history.specs.Calls.{Apart}
use Rattle.history.specs.Limits.{cleared, SegmentFits}
use Rattle.history.specs.Questions.{Question, AllYes, FirstNo}
use Rattle.history.specs.Refusals.{refusal_number, Names}
use Rattle.history.specs.declared.event.Event.{Event}
use Rattle.history.specs.declared.refusal.Refusal.{Refusal}
use Rattle.replay.specs.Run.{Run}

-- at most one call was in flight at a time
abbrev pub overlap_question : List Event → Question
overlap_question h = record { asks = Apart h (length h); number = 16 }

-- of a history and the number of working rows
abbrev pub replay_questions : ℕ → List Event → ℕ → List Question
replay_questions k h rows =
    record { asks = SegmentFits k; number = 1 }
    ∷ (history_questions h rows ++ overlap_question h ∷ [])

-- the whole history is a run of the window queue, or event e is the first at which it stops being one
abbrev pub Replays : ℕ → List Event → Option ℕ → Type 0
Replays k h None = Run k h (length h)
Replays k h (Some e) = (e < length h) × (Run k h e × (Run k h (suc e) → ⊥))

abbrev pub Answered : ℕ → List Event → ℕ → Result (Option ℕ) Refusal → Type 0
Answered k h rows (Ok a) = AllYes (replay_questions k h rows) × Replays k h a
Answered k h rows (Err r) = FirstNo (replay_questions k h rows) (refusal_number r) × Names h r

-- the rows afterwards: zero where the history was replayed, unchanged where it was refused
abbrev pub Left : List ℕ → Result (Option ℕ) Refusal → List ℕ → Type 0
Left rows (Ok a) after = after ≡ cleared 0 rows
Left rows (Err r) after = after ≡ rows
