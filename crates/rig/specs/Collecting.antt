-- Collecting an answered call.
use Rattle.std.specs.Prelude.{◌≡◌, ℕ, ◌-◌, Bool, true, false, ◌&&◌, List, [], ◌∷◌, length, is_some, Some, None, Ok, Err, Option, Result, ◌==◌, nat_le, nat_lt, slice_index_or, slice_set}
use Rattle.history.specs.Limits.{rows_used}
use Rattle.steps.specs.Calls.{answer_of}
use Rattle.steps.specs.Configs.{first_no}
use Rattle.steps.specs.declared.answer.Answer.{Answer}
use Rattle.steps.specs.declared.answer.Answer.TheVariants.{Accepted, Full, Item, Empty}
use Rattle.rig.specs.Beginning.{known}
use Rattle.rig.specs.Refusals.{refusal_number}
use Rattle.rig.specs.Worlds.{State, resting, thread_at, call_at}
use Rattle.rig.specs.declared.refusal.Refusal.{Refusal}
use Rattle.rig.specs.declared.token.CallToken.{CallToken}
use Rattle.rig.specs.declared.token.Declined.{Declined}

-- the number is this one
abbrev pub is_number : Option ℕ → ℕ → Bool
is_number None n = false
is_number (Some m) n = m == n

-- is it this thread's present call?
abbrev pub present : State → CallToken → Bool
present r token = is_number (thread_at r token.thread).number token.number

-- the answer, where the call has one
abbrev pub answer_at : State → CallToken → Option (Answer ℕ)
answer_at r token = answer_of (call_at r token.thread)

-- the rig once thread t is idle again
abbrev pub rested : State → ℕ → State
rested r t = record { config = r.config; threads = slice_set r.threads t resting; begun = r.begun; items = r.items; events = r.events; steps = r.steps }

module _ {E : Type 0} where
  -- for an item: has the table its row?
  abbrev pub has_row : List E → Option (Answer ℕ) → Bool
  has_row xs None = true
  has_row xs (Some Accepted) = true
  has_row xs (Some Full) = true
  has_row xs (Some (Item x)) = nat_lt 0 x && nat_le x (rows_used (length xs))
  has_row xs (Some Empty) = true

  abbrev pub collect_questions : State → List E → CallToken → List (Bool × ℕ)
  collect_questions r xs token =
      (known r token.thread, 5)
      ∷ ((present r token, 11)
      ∷ ((is_some (answer_at r token), 12)
      ∷ ((has_row xs (answer_at r token), 8)
      ∷ [])))

  abbrev pub collect_no : State → List E → CallToken → Option ℕ
  collect_no r xs token = first_no (collect_questions r xs token)

  -- the number of a reply is that of the answer; an item gives the element in its row
  abbrev pub Gives : List E → Option (Answer ℕ) → Answer E → Type 0
  Gives xs None e = ⊥
  Gives xs (Some Accepted) e = e ≡ Accepted
  Gives xs (Some Full) e = e ≡ Full
  Gives xs (Some (Item x)) e = (y : E) × ((e ≡ Item y) × (y ≡ slice_index_or xs (x - 1) y))
  Gives xs (Some Empty) e = e ≡ Empty

  abbrev pub Collects : State → List E → CallToken → Result (Answer E) Declined → State → Type 0
  Collects r xs token (Ok e) s = (collect_no r xs token ≡ None) × (Gives xs (answer_at r token) e × (s ≡ rested r token.thread))
  Collects r xs token (Err d) s = (collect_no r xs token ≡ Some (refusal_number d.refusal)) × ((d.token ≡ token) × (s ≡ r))

  -- the questions were answered yes, and this is what the call gave
  abbrev pub CollectAsked : State → List E → CallToken → Result (Answer E) Refusal → Type 0
  CollectAsked r xs token (Ok e) = (collect_no r xs token ≡ None) × Gives xs (answer_at r token) e
  CollectAsked r xs token (Err e) = collect_no r xs token ≡ Some (refusal_number e)

  -- the reply to an answer whose row is there
  abbrev pub RepliedTo : List E → Answer ℕ → Option (Answer E) → Type 0
  RepliedTo xs a (Some e) = (has_row xs (Some a) ≡ true) × Gives xs (Some a) e
  RepliedTo xs a None = has_row xs (Some a) ≡ false
