-- The steps of a put until its item x stands in a slot.
-- The ring is q, the start number of the step r; t is the kept tail, h the kept head.
-- A kept marker is unchanged when its tag is the kept tag; else markers compare by position.
use Rattle.std.specs.Prelude.{ℕ, Bool, cond, Some, None, Option, ◌==◌}
use Rattle.memory.specs.declared.place.Place.TheVariants.{Slot, Head, Tail}
use Rattle.steps.specs.declared.answer.Answer.TheVariants.{Full}
use Rattle.steps.specs.declared.call.Call.{Call}
use Rattle.steps.specs.declared.call.Call.TheVariants.{Putting, Checking, Answered}
use Rattle.steps.specs.declared.check_step.CheckStep.TheVariants.{C1}
use Rattle.steps.specs.declared.kept.KeptSlot.{KeptSlot}
use Rattle.steps.specs.declared.kept.Marker.{Marker}
use Rattle.steps.specs.declared.put_step.PutStep.{PutStep}
use Rattle.steps.specs.declared.put_step.PutStep.TheVariants.{P1, P2, P3, P4, P5, P6, P7, P8, P9}
use Rattle.steps.specs.declared.search.Search.{Search}
use Rattle.steps.specs.Tags.{raised, same_tag}
use Rattle.steps.specs.Ring.{Ring, next, marker}
use Rattle.steps.specs.Probes.{fresh, probe, further}
use Rattle.steps.specs.Rows.{Row, reads, swaps}

-- the search goes on where a place is left
abbrev pub P3_on : Marker → Marker → Option Search → PutStep
P3_on t h (Some s) = P3 t h s
P3_on t h None = P4 t h None

-- first empty slot: keep its index and tag, P4. After k occupied: P4 with none
abbrev pub after_P3 : Ring → ℕ → Marker → Marker → Search → ℕ → ℕ → PutStep
after_P3 q r t h s tag number = cond (number == 0) (P4 t h (Some (record { index = probe q r t s; tag = tag }))) (P3_on t h (further q r s))

-- tail unchanged from t
abbrev pub P4_by : Ring → Marker → Marker → Option KeptSlot → PutStep
P4_by q t h (Some slot) = P5 slot
P4_by q t h None = cond (next q t.at == h.at) (P7 h fresh) (P6 t)

-- changed from t: P1. Slot kept: P5. None and next(t) = h: P7. Otherwise P6
abbrev pub after_P4 : Ring → Marker → Marker → Option KeptSlot → ℕ → PutStep
after_P4 q t h kept tag = cond (same_tag tag t.tag) (P4_by q t h kept) P1

-- the slot once the item stands there: its tag is the kept tag + 1
abbrev pub stored : KeptSlot → KeptSlot
stored slot = record { index = slot.index; tag = raised slot.tag }

-- done: C1. Not done: P1
abbrev pub after_P5 : ℕ → KeptSlot → Bool → Call
after_P5 x slot done = cond done (Checking x (stored slot) C1) (Putting x P1)

-- the search goes on where a place is left
abbrev pub P7_on : Marker → Option Search → PutStep
P7_on h (Some s) = P7 h s
P7_on h None = P9 h

-- first occupied: P8. After k empty: P9
abbrev pub after_P7 : Ring → ℕ → Marker → Search → ℕ → PutStep
after_P7 q r h s number = cond (number == 0) (P7_on h (further q r s)) (P8 h)

-- unchanged from h: full. Otherwise P1
abbrev pub after_P8 : ℕ → Marker → ℕ → Call
after_P8 x h tag = cond (same_tag tag h.tag) (Answered Full) (Putting x P1)

abbrev pub put_row : Ring → ℕ → ℕ → PutStep → Row
put_row q r x P1 = reads Tail (λ tag number. Putting x (P2 (marker q tag number)))
put_row q r x (P2 t) = reads Head (λ tag number. Putting x (P3 t (marker q tag number) fresh))
put_row q r x (P3 t h s) = reads (Slot (probe q r t s)) (λ tag number. Putting x (after_P3 q r t h s tag number))
put_row q r x (P4 t h kept) = reads Tail (λ tag number. Putting x (after_P4 q t h kept tag))
put_row q r x (P5 slot) = swaps (Slot slot.index) slot.tag x (λ done. after_P5 x slot done)
put_row q r x (P6 t) = swaps Tail t.tag (next q t.at) (λ done. Putting x P1)
put_row q r x (P7 h s) = reads (Slot (probe q r h s)) (λ tag number. Putting x (after_P7 q r h s number))
put_row q r x (P8 h) = reads Head (λ tag number. after_P8 x h tag)
put_row q r x (P9 h) = swaps Head h.tag (next q h.at) (λ done. Putting x P1)
