-- Beginning a put and a take.
use Rattle.std.specs.Prelude.{◌≡◌, ℕ, ◌+◌, Bool, true, List, [], ◌∷◌, length, Some, None, Ok, Err, Option, Result, nat_le, nat_lt, slice_set}
use Rattle.history.specs.Limits.{rows_used}
use Rattle.history.specs.declared.event.Event.{Event}
use Rattle.history.specs.declared.event.Kind.TheVariants.{PutBegun, TakeBegun}
use Rattle.steps.specs.Calls.{idle, begun_put, begun_take}
use Rattle.steps.specs.Configs.{first_no}
use Rattle.steps.specs.Ring.{ring, whole}
use Rattle.steps.specs.declared.call.Call.{Call}
use Rattle.rig.specs.Refusals.{refusal_number}
use Rattle.rig.specs.Worlds.{State, World, call_at, flights}
use Rattle.rig.specs.declared.refusal.Refusal.{Refusal}
use Rattle.rig.specs.declared.token.CallToken.{CallToken}

-- does the memory count k * n slots or more?
abbrev pub enough_slots : World → Bool
enough_slots w = nat_le (whole (ring w.rig.config)) (length w.memory.slots)

-- is the thread below the thread count?
abbrev pub known : State → ℕ → Bool
known r t = nat_lt t r.config.threads.number

-- are there entries for this begin, for its answer, and for the answers of the calls in flight?
abbrev pub enough_entries : World → Bool
enough_entries w = nat_le (w.rig.events + flights w.rig + 2) (rows_used (length w.history))

-- row: whether there is a row for the element that the call brings
abbrev pub begin_questions : World → ℕ → Bool → List (Bool × ℕ)
begin_questions w t row =
    (enough_slots w, 4)
    ∷ ((known w.rig t, 5)
    ∷ ((idle (call_at w.rig t), 6)
    ∷ ((enough_entries w, 7)
    ∷ ((row, 8)
    ∷ []))))

abbrev pub begin_no : World → ℕ → Bool → Option ℕ
begin_no w t row = first_no (begin_questions w t row)

-- the rig once thread t is at the first step of its new call; items: how many are begun then
abbrev pub begun_rig : State → ℕ → Call → ℕ → State
begun_rig r t c items = record {
  config = r.config;
  threads = slice_set r.threads t (record { call = c; number = Some (r.begun + 1) });
  begun = r.begun + 1;
  items = items;
  events = r.events + 1;
  steps = r.steps;
}

-- the begin is the next event of the history
abbrev pub begun : World → ℕ → Call → ℕ → Event → World
begun w t c items e = record { rig = begun_rig w.rig t c items; memory = w.memory; history = slice_set w.history w.rig.events e }

-- the token names the thread and the number of the call
abbrev pub token_of : State → ℕ → CallToken
token_of r t = record { thread = t; number = r.begun + 1 }

-- a take needs no row
abbrev pub TakeBegins : World → ℕ → Result CallToken Refusal → World → Type 0
TakeBegins w t (Ok token) v =
    (begin_no w t true ≡ None) × ((token ≡ token_of w.rig t)
    × (v ≡ begun w t begun_take w.rig.items (record { kind = TakeBegun; thread = t; item = 0 })))
TakeBegins w t (Err e) v = (begin_no w t true ≡ Some (refusal_number e)) × (v ≡ w)

module _ {E : Type 0} where
  -- has the item table an unused row?
  abbrev pub unused_row : State → List E → Bool
  unused_row r xs = nat_lt r.items (rows_used (length xs))

  -- a put's item has the next number, and its element goes into the row before that number
  abbrev pub PutBegins : World → List E → ℕ → E → Result CallToken Refusal → World → List E → Type 0
  PutBegins w xs t x (Ok token) v ys =
      (begin_no w t (unused_row w.rig xs) ≡ None) × ((token ≡ token_of w.rig t)
      × ((v ≡ begun w t (begun_put (w.rig.items + 1)) (w.rig.items + 1) (record { kind = PutBegun; thread = t; item = w.rig.items + 1 }))
      × (ys ≡ slice_set xs w.rig.items x)))
  PutBegins w xs t x (Err e) v ys = (begin_no w t (unused_row w.rig xs) ≡ Some (refusal_number e)) × ((v ≡ w) × (ys ≡ xs))
