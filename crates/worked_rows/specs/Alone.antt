-- Calls of thread 0 that nobody disturbs, all steps with the start number 0, on a ring of two segments with one slot each.
use Rattle.std.specs.Prelude.{◌≡◌, ℕ, zero, suc, ◌+◌, true, replicate, Some, None, Option}
use Rattle.std.proofs.Common.{lit≤}
use Rattle.history.specs.Events.{nothing}
use Rattle.history.specs.declared.event.Kind.TheVariants.{PutBegun, TakeBegun}
use Rattle.memory.specs.Mem.{empty}
use Rattle.rig.specs.Beginning.{begun}
use Rattle.rig.specs.Collecting.{rested}
use Rattle.rig.specs.Numbers.{told}
use Rattle.rig.specs.Opening.{fresh}
use Rattle.rig.specs.Stepping.{access_at, stepped}
use Rattle.rig.specs.Worlds.{World, call_at}
use Rattle.steps.specs.Answers.{answer_number}
use Rattle.steps.specs.Calls.{begun_put, begun_take, in_flight}
use Rattle.steps.specs.declared.access.Access.{Access}
use Rattle.steps.specs.declared.answer.Answer.{Answer}
use Rattle.steps.specs.declared.config.Config.{Config}

abbrev pub smallest : Config
smallest = record {
  k = record { number = 1; least = lit≤ tt; most = lit≤ tt };
  segments = record { number = 2; least = lit≤ tt; most = lit≤ tt };
  threads = record { number = 1; least = lit≤ tt; most = lit≤ tt };
}

-- newly opened, with two slots and sixteen entries
abbrev pub opened : World
opened = record { rig = fresh smallest; memory = empty 2; history = replicate 16 nothing }

abbrev pub put : World → World
put w = begun w 0 (begun_put (w.rig.items + 1)) (w.rig.items + 1) (record { kind = PutBegun; thread = 0; item = w.rig.items + 1 })

abbrev pub take : World → World
take w = begun w 0 begun_take w.rig.items (record { kind = TakeBegun; thread = 0; item = 0 })

-- the step whose access this is; no step where there is none
abbrev pub stepped_by : World → Option Access → World
stepped_by w None = w
stepped_by w (Some a) = stepped w 0 0 a

abbrev pub after_steps : ℕ → World → World
after_steps zero w = w
after_steps (suc n) w = after_steps n (stepped_by w (access_at w.rig 0 0))

abbrev pub collected : World → World
collected w = record { rig = rested w.rig 0; memory = w.memory; history = w.history }

-- the call that has begun gets this answer at step n + 1, and not before
pub record AnswersAfter (w : World) (n : ℕ) (a : Answer ℕ) : Type 0 where
  pub goes_on : in_flight (call_at (after_steps n w).rig 0) ≡ true
  pub answers : told (call_at (after_steps (suc n) w).rig 0) ≡ answer_number a
