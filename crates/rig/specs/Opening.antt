-- Opening a rig over a memory, which is cleared.
use Rattle.std.specs.Prelude.{◌≡◌, replicate}
use Rattle.memory.specs.Laws.{cleared}
use Rattle.memory.specs.Mem.{Mem}
use Rattle.steps.specs.declared.config.Config.{Config}
use Rattle.rig.specs.declared.rig.Rig.{Rig}
use Rattle.rig.specs.Worlds.{State, state, resting}

-- all threads rest, and nothing was done yet
abbrev pub fresh : Config → State
fresh c = record { config = c; threads = replicate 64 resting; begun = 0; items = 0; events = 0; steps = 0 }

abbrev pub Opened : Config → Mem → Rig → Mem → Type 0
Opened c m r n = (state r ≡ fresh c) × (n ≡ cleared m)
