-- The steps of a take. The ring is q, the start number of the step r; h is the kept head, t the kept tail.
-- A kept marker is unchanged when its tag is the kept tag; else markers compare by position.
use Rattle.std.specs.Prelude.{ℕ, Bool, cond, Some, None, Option, ◌==◌}
use Rattle.memory.specs.declared.place.Place.TheVariants.{Slot, Head, Tail}
use Rattle.steps.specs.declared.answer.Answer.TheVariants.{Item, Empty}
use Rattle.steps.specs.declared.call.Call.{Call}
use Rattle.steps.specs.declared.call.Call.TheVariants.{Taking, Answered}
use Rattle.steps.specs.declared.kept.KeptItem.{KeptItem}
use Rattle.steps.specs.declared.kept.Marker.{Marker}
use Rattle.steps.specs.declared.search.Search.{Search}
use Rattle.steps.specs.declared.take_step.TakeStep.{TakeStep}
use Rattle.steps.specs.declared.take_step.TakeStep.TheVariants.{D1, D2, D3, D4, D5, D6, D7, D8}
use Rattle.steps.specs.Tags.{same_tag}
use Rattle.steps.specs.Ring.{Ring, next, marker}
use Rattle.steps.specs.Probes.{fresh, probe, further}
use Rattle.steps.specs.Rows.{Row, reads, swaps}

-- the search goes on where a place is left
abbrev pub D2_on : Marker → Option Search → TakeStep
D2_on h (Some s) = D2 h s
D2_on h None = D3 h None

-- first occupied: keep index, tag, item, D3. After k empty: D3 with none
abbrev pub after_D2 : Ring → ℕ → Marker → Search → ℕ → ℕ → TakeStep
after_D2 q r h s tag number = cond (number == 0) (D2_on h (further q r s)) (D3 h (Some (record { index = probe q r h s; tag = tag; item = number })))

-- head unchanged from h
abbrev pub D4_by : Marker → Option KeptItem → Marker → TakeStep
D4_by h (Some found) t = cond (t.at == h.at) (D5 found t) (D6 found)
D4_by h None t = cond (t.at == h.at) (D7 h t) (D8 h)

-- changed from h: D1. Item and t = h: D5. Item otherwise: D6. None and t = h: D7. None otherwise: D8
abbrev pub after_D4 : Marker → Option KeptItem → Marker → ℕ → TakeStep
after_D4 h kept t tag = cond (same_tag tag h.tag) (D4_by h kept t) D1

-- done: item handed out. Not done: D1
abbrev pub after_D6 : KeptItem → Bool → Call
after_D6 found done = cond done (Answered (Item found.item)) (Taking D1)

-- unchanged from t: empty. Otherwise D8
abbrev pub after_D7 : Marker → Marker → ℕ → Call
after_D7 h t tag = cond (same_tag tag t.tag) (Answered Empty) (Taking (D8 h))

abbrev pub take_row : Ring → ℕ → TakeStep → Row
take_row q r D1 = reads Head (λ tag number. Taking (D2 (marker q tag number) fresh))
take_row q r (D2 h s) = reads (Slot (probe q r h s)) (λ tag number. Taking (after_D2 q r h s tag number))
take_row q r (D3 h kept) = reads Tail (λ tag number. Taking (D4 h kept (marker q tag number)))
take_row q r (D4 h kept t) = reads Head (λ tag number. Taking (after_D4 h kept t tag))
take_row q r (D5 found t) = swaps Tail t.tag (next q t.at) (λ done. Taking (D6 found))
take_row q r (D6 found) = swaps (Slot found.index) found.tag 0 (λ done. after_D6 found done)
take_row q r (D7 h t) = reads Tail (λ tag number. after_D7 h t tag)
take_row q r (D8 h) = swaps Head h.tag (next q h.at) (λ done. Taking D1)
