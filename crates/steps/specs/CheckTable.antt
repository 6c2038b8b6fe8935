-- The steps of a put once its item x stands in a slot, which is kept with the tag that it has there: the kept tag + 1.
-- The ring is q; c is the kept head.
use Rattle.std.specs.Prelude.{ℕ, Bool, cond, ◌==◌, nat_le}
use Rattle.memory.specs.declared.place.Place.TheVariants.{Slot, Head, Tail}
use Rattle.steps.specs.declared.answer.Answer.TheVariants.{Accepted}
use Rattle.steps.specs.declared.call.Call.{Call}
use Rattle.steps.specs.declared.call.Call.TheVariants.{Putting, Checking, Answered}
use Rattle.steps.specs.declared.check_step.CheckStep.{CheckStep}
use Rattle.steps.specs.declared.check_step.CheckStep.TheVariants.{C1, C2, C3, C4, C5}
use Rattle.steps.specs.declared.kept.KeptSlot.{KeptSlot}
use Rattle.steps.specs.declared.kept.Marker.{Marker}
use Rattle.steps.specs.declared.put_step.PutStep.TheVariants.{P1}
use Rattle.steps.specs.Tags.{same_tag}
use Rattle.steps.specs.Ring.{Ring, position, marker, distance, segment_of}
use Rattle.steps.specs.Rows.{Row, reads, swaps}

-- tag is not kept tag + 1: accepted. Otherwise C2
abbrev pub after_C1 : ℕ → KeptSlot → ℕ → Call
after_C1 x slot tag = cond (same_tag tag slot.tag) (Checking x slot C2) (Answered Accepted)

-- a = 0: C4. 0 < a ≤ b: accepted. a > b: C5
abbrev pub C3_by : ℕ → KeptSlot → Marker → ℕ → ℕ → Call
C3_by x slot c a b = cond (a == 0) (Checking x slot (C4 c)) (cond (nat_le a b) (Answered Accepted) (Checking x slot C5))

-- by a = (item's segment - c) mod (k * n) and b = (e - c) mod (k * n), e being the tail that was read
abbrev pub after_C3 : Ring → ℕ → KeptSlot → Marker → ℕ → Call
after_C3 q x slot c e = C3_by x slot c (distance q c.at (segment_of q slot.index)) (distance q c.at (position q e))

-- done: accepted. Not done: C5
abbrev pub after_C4 : ℕ → KeptSlot → Bool → Call
after_C4 x slot done = cond done (Answered Accepted) (Checking x slot C5)

-- done: P1. Not done: accepted
abbrev pub after_C5 : ℕ → Bool → Call
after_C5 x done = cond done (Putting x P1) (Answered Accepted)

abbrev pub check_row : Ring → ℕ → KeptSlot → CheckStep → Row
check_row q x slot C1 = reads (Slot slot.index) (λ tag number. after_C1 x slot tag)
check_row q x slot C2 = reads Head (λ tag number. Checking x slot (C3 (marker q tag number)))
check_row q x slot (C3 c) = reads Tail (λ tag number. after_C3 q x slot c number)
check_row q x slot (C4 c) = swaps Head c.tag c.at (λ done. after_C4 x slot done)
check_row q x slot C5 = swaps (Slot slot.index) slot.tag 0 (λ done. after_C5 x done)
