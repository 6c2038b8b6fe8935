-- What an access to a memory returns and leaves.
use Rattle.std.specs.Prelude.{ℕ, Some, None, Option}
use Rattle.memory.specs.Laws.{looked, agrees, swapped}
use Rattle.memory.specs.Mem.{Mem}
use Rattle.steps.specs.declared.access.Access.{Access}
use Rattle.steps.specs.declared.access.Access.TheVariants.{Read, Swap}
use Rattle.steps.specs.declared.access.Got.{Got}
use Rattle.steps.specs.declared.access.Got.TheVariants.{Pair, Said}

-- a slot that is not there reads as two zeros
abbrev pub pair_of : Option (ℕ × ℕ) → Got
pair_of (Some p) = Pair p.0 p.1
pair_of None = Pair 0 0

abbrev pub returned : Mem → Access → Got
returned m (Read at) = pair_of (looked m at)
returned m (Swap at e v) = Said (agrees m at e)

abbrev pub left_by : Mem → Access → Mem
left_by m (Read at) = m
left_by m (Swap at e v) = swapped m at e v
