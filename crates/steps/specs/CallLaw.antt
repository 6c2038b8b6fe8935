-- Every access of a call stays in the ring, whatever the accesses before it returned.
use Rattle.std.specs.Prelude.{ℕ, ◌<◌, List, [], ◌∷◌, Some, None, Option}
use Rattle.memory.specs.declared.place.Place.TheVariants.{Slot, Head, Tail}
use Rattle.steps.specs.declared.access.Access.{Access}
use Rattle.steps.specs.declared.access.Access.TheVariants.{Read, Swap}
use Rattle.steps.specs.declared.access.Got.{Got}
use Rattle.steps.specs.declared.call.Call.{Call}
use Rattle.steps.specs.Ring.{Ring, whole}
use Rattle.steps.specs.RingLaw.{Position}
use Rattle.steps.specs.Calls.{begun_put, begun_take, next_access, advanced}

-- a slot that is named is one of the ring's, and a marker moves to a position
abbrev pub Inside : Ring → Option Access → Type 0
Inside q None = Unit {0}
Inside q (Some (Read (Slot i))) = i < whole q
Inside q (Some (Read Head)) = Unit {0}
Inside q (Some (Read Tail)) = Unit {0}
Inside q (Some (Swap (Slot i) t x)) = i < whole q
Inside q (Some (Swap Head t p)) = Position q p
Inside q (Some (Swap Tail t p)) = Position q p

-- the call after steps with these start numbers, whose accesses returned this
abbrev pub after_steps : Ring → Call → List (ℕ × Got) → Call
after_steps q c [] = c
after_steps q c (s ∷ steps) = after_steps q (advanced q s.0 c s.1) steps

pub record CallLaw (q : Ring) : Type 0 where
  pub puts : (x : ℕ) (steps : List (ℕ × Got)) (r : ℕ) → Inside q (next_access q r (after_steps q (begun_put x) steps))
  pub takes : (steps : List (ℕ × Got)) (r : ℕ) → Inside q (next_access q r (after_steps q begun_take steps))
