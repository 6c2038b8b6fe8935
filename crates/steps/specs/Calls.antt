-- A thread's call: its begin, its steps and its answer.
use Rattle.std.specs.Prelude.{ℕ, Bool, true, false, Some, None, Option}
use Rattle.steps.specs.declared.access.Access.{Access}
use Rattle.steps.specs.declared.access.Got.{Got}
use Rattle.steps.specs.declared.answer.Answer.{Answer}
use Rattle.steps.specs.declared.call.Call.{Call}
use Rattle.steps.specs.declared.call.Call.TheVariants.{Idle, Putting, Checking, Taking, Answered}
use Rattle.steps.specs.declared.put_step.PutStep.TheVariants.{P1}
use Rattle.steps.specs.declared.take_step.TakeStep.TheVariants.{D1}
use Rattle.steps.specs.Ring.{Ring}
use Rattle.steps.specs.Rows.{access_of, led}
use Rattle.steps.specs.PutTable.{put_row}
use Rattle.steps.specs.CheckTable.{check_row}
use Rattle.steps.specs.TakeTable.{take_row}

-- a put of the item x begins at P1, a take at D1
abbrev pub begun_put : ℕ → Call
begun_put x = Putting x P1

abbrev pub begun_take : Call
begun_take = Taking D1

-- the access that the next step makes
abbrev pub next_access : Ring → ℕ → Call → Option Access
next_access q r Idle = None
next_access q r (Putting x s) = Some (access_of (put_row q r x s))
next_access q r (Checking x slot s) = Some (access_of (check_row q x slot s))
next_access q r (Taking s) = Some (access_of (take_row q r s))
next_access q r (Answered a) = None

-- the call after the step whose access returned this
abbrev pub advanced : Ring → ℕ → Call → Got → Call
advanced q r Idle g = Idle
advanced q r (Putting x s) g = led (put_row q r x s) g (Putting x s)
advanced q r (Checking x slot s) g = led (check_row q x slot s) g (Checking x slot s)
advanced q r (Taking s) g = led (take_row q r s) g (Taking s)
advanced q r (Answered a) g = Answered a

abbrev pub answer_of : Call → Option (Answer ℕ)
answer_of Idle = None
answer_of (Putting x s) = None
answer_of (Checking x slot s) = None
answer_of (Taking s) = None
answer_of (Answered a) = Some a

-- a call is in flight from its begin to its answer
abbrev pub in_flight : Call → Bool
in_flight Idle = false
in_flight (Putting x s) = true
in_flight (Checking x slot s) = true
in_flight (Taking s) = true
in_flight (Answered a) = false

abbrev pub idle : Call → Bool
idle Idle = true
idle (Putting x s) = false
idle (Checking x slot s) = false
idle (Taking s) = false
idle (Answered a) = false
