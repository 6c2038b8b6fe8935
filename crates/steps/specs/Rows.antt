-- A row of a step table: the access that the step makes, and where it leads by what the access returned.
use Rattle.std.specs.Prelude.{ℕ, Bool}
use Rattle.memory.specs.declared.place.Place.{Place}
use Rattle.steps.specs.declared.access.Access.{Access}
use Rattle.steps.specs.declared.access.Access.TheVariants.{Read, Swap}
use Rattle.steps.specs.declared.access.Got.{Got}
use Rattle.steps.specs.declared.access.Got.TheVariants.{Pair, Said}
use Rattle.steps.specs.declared.call.Call.{Call}

pub data Row : Type 0 where
  -- read the place; then by the tag and the number that stand there
  reads : Place → (ℕ → ℕ → Call) → Row
  -- swap the place from this tag to this number; then by whether it was done
  swaps : Place → ℕ → ℕ → (Bool → Call) → Row

abbrev pub access_of : Row → Access
access_of (reads p go) = Read p
access_of (swaps p t x go) = Swap p t x

-- where the row leads; what is no answer to its access leaves the call as it is
abbrev pub led : Row → Got → Call → Call
led (reads p go) (Pair t x) c = go t x
led (reads p go) (Said b) c = c
led (swaps p t x go) (Pair u y) c = c
led (swaps p t x go) (Said b) c = go b
