-- Worked histories with their verdicts, two segments each.
use Rattle.std.specs.Prelude.{ℕ, List, [], ◌∷◌}
use Rattle.history.specs.declared.event.Kind.TheVariants.{PutBegun, TakeBegun, Accepted, HandedOut, Empty}
use Rattle.history.specs.declared.event.Event.{Event}
use Rattle.judge.specs.Verdicts.{Judged}
use Rattle.judge.specs.declared.fault.Fault.TheVariants.{PassedTooOften, TooManyOlder, NotEmpty}
use Rattle.judge.specs.declared.verdict.Verdict.TheVariants.{Sound, Fault}

abbrev put : ℕ → ℕ → Event
put t x = record { kind = PutBegun; thread = t; item = x }

abbrev ok : ℕ → ℕ → Event
ok t x = record { kind = Accepted; thread = t; item = x }

abbrev take : ℕ → Event
take t = record { kind = TakeBegun; thread = t; item = 0 }

abbrev out : ℕ → ℕ → Event
out t x = record { kind = HandedOut; thread = t; item = x }

abbrev empty : ℕ → Event
empty t = record { kind = Empty; thread = t; item = 0 }

-- two puts in turn, then the second item is handed out
abbrev pub two_puts : List Event
two_puts = put 0 1 ∷ ok 0 1 ∷ put 0 2 ∷ ok 0 2 ∷ take 0 ∷ out 0 2 ∷ []

-- both puts begun before either acceptance
abbrev pub both_begun : List Event
both_begun = put 0 1 ∷ put 1 2 ∷ ok 0 1 ∷ ok 1 2 ∷ take 0 ∷ out 0 2 ∷ []

-- three puts in turn, then the third item is handed out
abbrev pub three_puts : List Event
three_puts = put 0 1 ∷ ok 0 1 ∷ put 0 2 ∷ ok 0 2 ∷ put 0 3 ∷ ok 0 3 ∷ take 0 ∷ out 0 3 ∷ []

-- a take begun after an acceptance is answered empty
abbrev pub empty_late : List Event
empty_late = put 0 1 ∷ ok 0 1 ∷ take 0 ∷ empty 0 ∷ []

-- a take begun before the put is answered empty
abbrev pub empty_early : List Event
empty_early = take 1 ∷ put 0 1 ∷ ok 0 1 ∷ empty 1 ∷ []

pub record Table : Type 0 where
  pub passed_once : Judged 1 2 two_puts (Fault PassedTooOften 5)
  pub passed_once_of_two : Judged 2 2 two_puts Sound
  pub begun_before : Judged 1 2 both_begun Sound
  pub two_older : Judged 2 2 three_puts (Fault TooManyOlder 7)
  pub held_before_take : Judged 1 2 empty_late (Fault NotEmpty 3)
  pub take_before_put : Judged 1 2 empty_early Sound
