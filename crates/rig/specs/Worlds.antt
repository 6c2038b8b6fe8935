-- What a call on a rig finds and leaves: the rig, what the memory means, and the history table.
use Rattle.std.specs.Prelude.{ℕ, List, None, slice_index_or}
use Rattle.history.specs.Positions.{count_below}
use Rattle.history.specs.declared.event.Event.{Event}
use Rattle.memory.specs.Mem.{Mem}
use Rattle.steps.specs.Calls.{in_flight}
use Rattle.steps.specs.declared.call.Call.{Call}
use Rattle.steps.specs.declared.call.Call.TheVariants.{Idle}
use Rattle.steps.specs.declared.config.Config.{Config}
use Rattle.rig.specs.declared.rig.Rig.{Rig}
use Rattle.rig.specs.declared.thread.Thread.{Thread}

-- the threads, and how many calls and items were begun, events written, steps made
pub record State : Type 0 where
  pub config : Config
  pub threads : List Thread
  pub begun : ℕ
  pub items : ℕ
  pub events : ℕ
  pub steps : ℕ

pub record World : Type 0 where
  pub rig : State
  pub memory : Mem
  pub history : List Event

abbrev pub state : Rig → State
state r = record { config = r.config; threads = r.threads; begun = r.begun; items = r.items; events = r.events; steps = r.steps }

abbrev pub world : Rig → Mem → List Event → World
world r m h = record { rig = state r; memory = m; history = h }

-- a thread that is idle and has no present call
abbrev pub resting : Thread
resting = record { call = Idle; number = None }

abbrev pub thread_at : State → ℕ → Thread
thread_at r t = slice_index_or r.threads t resting

abbrev pub call_at : State → ℕ → Call
call_at r t = (thread_at r t).call

-- how many calls are in flight
unfoldable pub flights : State → ℕ
flights r = count_below (λ t. in_flight (call_at r t)) 64
