-- One step of a thread.
use Rattle.std.specs.Prelude.{◌≡◌, ℕ, ◌+◌, Bool, List, [], ◌∷◌, length, Some, None, Ok, Err, Option, Result, nat_lt, slice_set}
use Rattle.history.specs.Limits.{rows_used}
use Rattle.history.specs.declared.event.Event.{Event}
use Rattle.history.specs.declared.event.Kind.TheVariants as kind
use Rattle.steps.specs.Calls.{next_access, advanced, answer_of, in_flight}
use Rattle.steps.specs.Configs.{first_no}
use Rattle.steps.specs.Ring.{ring}
use Rattle.steps.specs.declared.access.Access.{Access}
use Rattle.steps.specs.declared.answer.Answer.{Answer}
use Rattle.steps.specs.declared.answer.Answer.TheVariants.{Accepted, Full, Item, Empty}
use Rattle.steps.specs.declared.call.Call.{Call}
use Rattle.steps.specs.declared.call.Call.TheVariants.{Idle, Putting, Checking, Taking, Answered}
use Rattle.rig.specs.Accesses.{returned, left_by}
use Rattle.rig.specs.Beginning.{enough_slots, known}
use Rattle.rig.specs.Numbers.{progress_number, told}
use Rattle.rig.specs.Refusals.{refusal_number}
use Rattle.rig.specs.Worlds.{State, World, thread_at, call_at}
use Rattle.rig.specs.declared.pick.Pick.{Pick}
use Rattle.rig.specs.declared.progress.Progress.{Progress}
use Rattle.rig.specs.declared.progress.Progress.TheVariants.{Flat}
use Rattle.rig.specs.declared.refusal.Refusal.{Refusal}

-- is a history entry unused?
abbrev pub unused_entry : World → Bool
unused_entry w = nat_lt w.rig.events (rows_used (length w.history))

abbrev pub step_questions : World → ℕ → List (Bool × ℕ)
step_questions w t =
    (enough_slots w, 4)
    ∷ ((known w.rig t, 5)
    ∷ ((in_flight (call_at w.rig t), 9)
    ∷ ((unused_entry w, 7)
    ∷ ((nat_lt w.rig.steps 1000000000, 10)
    ∷ []))))

abbrev pub step_no : World → ℕ → Option ℕ
step_no w t = first_no (step_questions w t)

-- the access that thread t makes with the start number s
abbrev pub access_at : State → ℕ → ℕ → Option Access
access_at r t s = next_access (ring r.config) s (call_at r t)

-- what the access leads the thread's call to
abbrev pub next_call : World → ℕ → ℕ → Access → Call
next_call w t s a = advanced (ring w.rig.config) s (call_at w.rig t) (returned w.memory a)

-- the item that a put brings, 0 for other calls
abbrev pub item_of : Call → ℕ
item_of Idle = 0
item_of (Putting x s) = x
item_of (Checking x slot s) = x
item_of (Taking s) = 0
item_of (Answered a) = 0

-- the event of an answer that thread t got to this call
abbrev pub answer_event : ℕ → Call → Answer ℕ → Event
answer_event t c Accepted = record { kind = kind.Accepted; thread = t; item = item_of c }
answer_event t c Full = record { kind = kind.Full; thread = t; item = item_of c }
answer_event t c (Item x) = record { kind = kind.HandedOut; thread = t; item = x }
answer_event t c Empty = record { kind = kind.Empty; thread = t; item = 0 }

-- an answer is the next event of the history, which has u events
abbrev pub noted : List Event → ℕ → ℕ → Call → Option (Answer ℕ) → List Event
noted h u t c None = h
noted h u t c (Some a) = slice_set h u (answer_event t c a)

abbrev pub noted_count : ℕ → Option (Answer ℕ) → ℕ
noted_count u None = u
noted_count u (Some a) = u + 1

-- the rig once thread t is at the call c
abbrev pub stepped_rig : State → ℕ → Call → State
stepped_rig r t c = record {
  config = r.config;
  threads = slice_set r.threads t (record { call = c; number = (thread_at r t).number });
  begun = r.begun;
  items = r.items;
  events = noted_count r.events (answer_of c);
  steps = r.steps + 1;
}

-- the world after thread t made this access
abbrev pub stepped : World → ℕ → ℕ → Access → World
stepped w t s a = record {
  rig = stepped_rig w.rig t (next_call w t s a);
  memory = left_by w.memory a;
  history = noted w.history w.rig.events t (call_at w.rig t) (answer_of (next_call w t s a));
}

-- thread t makes one access, the one that its step names, and goes where that leads
pub record StepMade (w : World) (t s : ℕ) (p : Progress) (v : World) : Type 0 where
  pub access : Access
  pub named : access_at w.rig t s ≡ Some access
  pub says : progress_number p ≡ told (next_call w t s access)
  pub leaves : v ≡ stepped w t s access

-- with no thread nothing is asked and nothing moves
abbrev pub StepOf : World → Option ℕ → ℕ → Result Progress Refusal → World → Type 0
StepOf w None s r v = (r ≡ Ok Flat) × (v ≡ w)
StepOf w (Some t) s (Ok p) v = (step_no w t ≡ None) × StepMade w t s p v
StepOf w (Some t) s (Err e) v = (step_no w t ≡ Some (refusal_number e)) × (v ≡ w)

abbrev pub Steps : World → Pick → Result Progress Refusal → World → Type 0
Steps w pick r v = StepOf w pick.thread pick.start r v

-- the questions were answered yes, and this is the access of the step
abbrev pub StepAsked : World → ℕ → ℕ → Result Access Refusal → Type 0
StepAsked w t s (Ok a) = (step_no w t ≡ None) × (access_at w.rig t s ≡ Some a)
StepAsked w t s (Err e) = step_no w t ≡ Some (refusal_number e)
