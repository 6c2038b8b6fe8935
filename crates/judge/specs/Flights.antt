-- The calls in flight at once; threads are the numbers below 64.
use Rattle.std.specs.Prelude.{ℕ, suc, Bool, List, nat_lt}
use Rattle.history.specs.Positions.{some_below, count_below}
use Rattle.history.specs.Calls.{in_flight}
use Rattle.history.specs.declared.event.Event.{Event}

-- how many calls are in flight before event j
unfoldable pub flying : List Event → ℕ → ℕ
flying h j = count_below (λ t. in_flight h t j) 64

-- two were in flight together before event i or earlier
abbrev pub together : List Event → ℕ → Bool
together h i = some_below (λ j. nat_lt 1 (flying h j)) (suc i)
