-- What is asked of every history before it is judged or replayed.
use Rattle.std.specs.Prelude.{◌≡◌, ℕ, ◌≤◌, List, [], ◌∷◌, length, Ok, Err, Result}
use Rattle.history.specs.Calls.{puts_before}
use Rattle.history.specs.WellFormed.{Formed}
use Rattle.history.specs.Limits.{rows_used, Short}
use Rattle.history.specs.Questions.{Question, AllYes, FirstNo}
use Rattle.history.specs.Refusals.{refusal_number, Names}
use Rattle.history.specs.declared.event.Event.{Event}
use Rattle.history.specs.declared.refusal.Refusal.{Refusal}

-- of a history and the number of working rows: it is short enough, well formed, and there are rows for all items
abbrev pub history_questions : List Event → ℕ → List Question
history_questions h m =
    record { asks = Short h; number = 13 }
    ∷ (record { asks = Formed h; number = 14 }
    ∷ (record { asks = puts_before h (length h) ≤ rows_used m; number = 15 }
    ∷ []))

abbrev pub Asked : List Event → ℕ → Result ℕ Refusal → Type 0
Asked h m (Ok used) = AllYes (history_questions h m) × (used ≡ rows_used m)
Asked h m (Err r) = FirstNo (history_questions h m) (refusal_number r) × Names h r
