-- What a call keeps lies in the ring, and so does every access that it makes.
use Rattle.std.proofs.Common.{ℕ, suc, ◌<◌, eqb, List, [], ◌∷◌, Some, None, Option, mod-lt, mul-le-mul_left, mul-suc, arith}
use Rattle.std.proofs.lemmas.Grind.{common_steps}
use Rattle.std.proofs.lemmas.Bool.{cond_both}
use Rattle.steps.specs.declared.access.Got.{Got}
use Rattle.steps.specs.declared.access.Got.TheVariants.{Pair, Said}
use Rattle.steps.specs.declared.call.Call.{Call}
use Rattle.steps.specs.declared.call.Call.TheVariants.{Idle, Putting, Checking, Taking, Answered}
use Rattle.steps.specs.declared.check_step.CheckStep.{CheckStep}
use Rattle.steps.specs.declared.check_step.CheckStep.TheVariants.{C1, C2, C3, C4, C5}
use Rattle.steps.specs.declared.kept.KeptItem.{KeptItem}
use Rattle.steps.specs.declared.kept.KeptSlot.{KeptSlot}
use Rattle.steps.specs.declared.kept.Marker.{Marker}
use Rattle.steps.specs.declared.put_step.PutStep.{PutStep}
use Rattle.steps.specs.declared.put_step.PutStep.TheVariants.{P1, P2, P3, P4, P5, P6, P7, P8, P9}
use Rattle.steps.specs.declared.search.Search.{Search}
use Rattle.steps.specs.declared.search.Search.TheVariants.{Fresh, Begun}
use Rattle.steps.specs.declared.take_step.TakeStep.{TakeStep}
use Rattle.steps.specs.declared.take_step.TakeStep.TheVariants.{D1, D2, D3, D4, D5, D6, D7, D8}
use Rattle.steps.specs.Ring.{Ring, whole, position, marker, next, distance, segment_of}
use Rattle.steps.specs.RingLaw.{Position}
use Rattle.steps.specs.Probes.{place, probe, further}
use Rattle.steps.specs.Rows.{led}
use Rattle.steps.specs.PutTable.{put_row, P3_on, P4_by, P7_on}
use Rattle.steps.specs.CheckTable.{check_row, C3_by}
use Rattle.steps.specs.TakeTable.{take_row, D2_on, D4_by}
use Rattle.steps.specs.Calls.{next_access, advanced}
use Rattle.steps.specs.CallLaw.{Inside, after_steps, CallLaw}
use Rattle.steps.proofs.RingFacts.{segment, ring_law}

module _ (q : Ring) where
  abbrev At : Marker → Type 0
  At m = Position q m.at

  abbrev SlotKept : Option KeptSlot → Type 0
  SlotKept None = Unit {0}
  SlotKept (Some slot) = slot.index < whole q

  abbrev ItemKept : Option KeptItem → Type 0
  ItemKept None = Unit {0}
  ItemKept (Some found) = found.index < whole q

  abbrev PutKept : PutStep → Type 0
  PutKept P1 = Unit {0}
  PutKept (P2 t) = At t
  PutKept (P3 t h s) = At t × At h
  PutKept (P4 t h kept) = At t × At h × SlotKept kept
  PutKept (P5 slot) = slot.index < whole q
  PutKept (P6 t) = At t
  PutKept (P7 h s) = At h
  PutKept (P8 h) = At h
  PutKept (P9 h) = At h

  abbrev CheckKept : CheckStep → Type 0
  CheckKept C1 = Unit {0}
  CheckKept C2 = Unit {0}
  CheckKept (C3 c) = At c
  CheckKept (C4 c) = At c
  CheckKept C5 = Unit {0}

  abbrev TakeKept : TakeStep → Type 0
  TakeKept D1 = Unit {0}
  TakeKept (D2 h s) = At h
  TakeKept (D3 h kept) = At h × ItemKept kept
  TakeKept (D4 h kept t) = At h × ItemKept kept × At t
  TakeKept (D5 found t) = (found.index < whole q) × At t
  TakeKept (D6 found) = found.index < whole q
  TakeKept (D7 h t) = At h × At t
  TakeKept (D8 h) = At h

  -- markers at positions, slots below k * n
  abbrev pub Kept : Call → Type 0
  Kept Idle = Unit {0}
  Kept (Putting x s) = PutKept s
  Kept (Checking x slot s) = (slot.index < whole q) × CheckKept s
  Kept (Taking s) = TakeKept s
  Kept (Answered a) = Unit {0}

  module _ (some_slots : 0 < q.k) (some_segments : 0 < q.n) where
    place_below : (r : ℕ) (s : Search) → place q r s < q.k
    place_below r Fresh = mod-lt r some_slots
    place_below r (Begun m last) = grind (arith, common_steps)

    probe_below : (r : ℕ) (m : Marker) (s : Search) → At m → probe q r m s < whole q
    probe_below r m s h =
        let g = segment q some_slots some_segments m.at h in
        omega (arith, place_below r s, g.at, mul-suc q.k g.m, mul-le-mul_left {m = suc g.m} {n = q.n} q.k g.below)

    marker_kept : (t n : ℕ) → At (marker q t n)
    marker_kept t n = (ring_law q some_slots some_segments).kept n

    next_kept : (m : Marker) → At m → Position q (next q m.at)
    next_kept m h = (ring_law q some_slots some_segments).stays m.at h

    P3_on_kept : (t h : Marker) (o : Option Search) → At t → At h → PutKept (P3_on t h o)
    P3_on_kept t h (Some s) a b = (a, b)
    P3_on_kept t h None a b = (a, b, tt)

    P4_by_kept : (t h : Marker) (o : Option KeptSlot) → At t → At h → SlotKept o → PutKept (P4_by q t h o)
    P4_by_kept t h (Some slot) a b k = k
    P4_by_kept t h None a b k = grind (arith, common_steps)

    P7_on_kept : (h : Marker) (o : Option Search) → At h → PutKept (P7_on h o)
    P7_on_kept h (Some s) a = a
    P7_on_kept h None a = a

    put_keeps : (r x : ℕ) (s : PutStep) (g : Got) → PutKept s → Kept (led (put_row q r x s) g (Putting x s))
    put_keeps r x P1 (Pair t n) k = marker_kept t n
    put_keeps r x P1 (Said b) k = k
    put_keeps r x (P2 t) (Pair u n) k = (k, marker_kept u n)
    put_keeps r x (P2 t) (Said b) k = k
    put_keeps r x (P3 t h s) (Pair u n) k = cond_both (eqb n 0) (P4 t h (Some (record { index = probe q r t s; tag = u }))) (P3_on t h (further q r s)) PutKept
        (λ _. (k.0, k.1, probe_below r t s k.0))
        (λ _. P3_on_kept t h (further q r s) k.0 k.1)
    put_keeps r x (P3 t h s) (Said b) k = k
    put_keeps r x (P4 t h o) (Pair u n) k = grind (arith, common_steps)
    put_keeps r x (P4 t h o) (Said b) k = k
    put_keeps r x (P5 slot) (Pair u n) k = k
    put_keeps r x (P5 slot) (Said b) k = grind (arith, common_steps)
    put_keeps r x (P6 t) (Pair u n) k = k
    put_keeps r x (P6 t) (Said b) k = tt
    put_keeps r x (P7 h s) (Pair u n) k = grind (arith, common_steps)
    put_keeps r x (P7 h s) (Said b) k = k
    put_keeps r x (P8 h) (Pair u n) k = grind (arith, common_steps)
    put_keeps r x (P8 h) (Said b) k = k
    put_keeps r x (P9 h) (Pair u n) k = k
    put_keeps r x (P9 h) (Said b) k = tt

    C3_by_kept : (x : ℕ) (slot : KeptSlot) (c : Marker) (a b : ℕ) → slot.index < whole q → At c → Kept (C3_by x slot c a b)
    C3_by_kept x slot c a b i k = grind (arith, common_steps)

    check_keeps : (x : ℕ) (slot : KeptSlot) (s : CheckStep) (g : Got) → slot.index < whole q → CheckKept s → Kept (led (check_row q x slot s) g (Checking x slot s))
    check_keeps x slot C1 (Pair u n) i k = grind (arith, common_steps)
    check_keeps x slot C1 (Said b) i k = (i, k)
    check_keeps x slot C2 (Pair u n) i k = (i, marker_kept u n)
    check_keeps x slot C2 (Said b) i k = (i, k)
    check_keeps x slot (C3 c) (Pair u n) i k = C3_by_kept x slot c (distance q c.at (segment_of q slot.index)) (distance q c.at (position q n)) i k
    check_keeps x slot (C3 c) (Said b) i k = (i, k)
    check_keeps x slot (C4 c) (Pair u n) i k = (i, k)
    check_keeps x slot (C4 c) (Said b) i k = grind (arith, common_steps)
    check_keeps x slot C5 (Pair u n) i k = (i, k)
    check_keeps x slot C5 (Said b) i k = grind (arith, common_steps)

    D2_on_kept : (h : Marker) (o : Option Search) → At h → TakeKept (D2_on h o)
    D2_on_kept h (Some s) a = a
    D2_on_kept h None a = (a, tt)

    D4_by_kept : (h : Marker) (o : Option KeptItem) (t : Marker) → At h → ItemKept o → At t → TakeKept (D4_by h o t)
    D4_by_kept h (Some found) t a k b = grind (arith, common_steps)
    D4_by_kept h None t a k b = grind (arith, common_steps)

    take_keeps : (r : ℕ) (s : TakeStep) (g : Got) → TakeKept s → Kept (led (take_row q r s) g (Taking s))
    take_keeps r D1 (Pair u n) k = marker_kept u n
    take_keeps r D1 (Said b) k = k
    take_keeps r (D2 h s) (Pair u n) k = cond_both (eqb n 0) (D2_on h (further q r s)) (D3 h (Some (record { index = probe q r h s; tag = u; item = n }))) TakeKept
        (λ _. D2_on_kept h (further q r s) k)
        (λ _. (k, probe_below r h s k))
    take_keeps r (D2 h s) (Said b) k = k
    take_keeps r (D3 h o) (Pair u n) k = (k.0, k.1, marker_kept u n)
    take_keeps r (D3 h o) (Said b) k = k
    take_keeps r (D4 h o t) (Pair u n) k = grind (arith, common_steps)
    take_keeps r (D4 h o t) (Said b) k = k
    take_keeps r (D5 found t) (Pair u n) k = k
    take_keeps r (D5 found t) (Said b) k = k.0
    take_keeps r (D6 found) (Pair u n) k = k
    take_keeps r (D6 found) (Said b) k = grind (arith, common_steps)
    take_keeps r (D7 h t) (Pair u n) k = grind (arith, common_steps)
    take_keeps r (D7 h t) (Said b) k = k
    take_keeps r (D8 h) (Pair u n) k = k
    take_keeps r (D8 h) (Said b) k = tt

    pub keeps : (r : ℕ) (c : Call) (g : Got) → Kept c → Kept (advanced q r c g)
    keeps r Idle g k = k
    keeps r (Putting x s) g k = put_keeps r x s g k
    keeps r (Checking x slot s) g k = check_keeps x slot s g k.0 k.1
    keeps r (Taking s) g k = take_keeps r s g k
    keeps r (Answered a) g k = k

    pub inside : (r : ℕ) (c : Call) → Kept c → Inside q (next_access q r c)
    inside r Idle k = tt
    inside r (Putting x P1) k = tt
    inside r (Putting x (P2 t)) k = tt
    inside r (Putting x (P3 t h s)) k = probe_below r t s k.0
    inside r (Putting x (P4 t h o)) k = tt
    inside r (Putting x (P5 slot)) k = k
    inside r (Putting x (P6 t)) k = next_kept t k
    inside r (Putting x (P7 h s)) k = probe_below r h s k
    inside r (Putting x (P8 h)) k = tt
    inside r (Putting x (P9 h)) k = next_kept h k
    inside r (Checking x slot C1) k = k.0
    inside r (Checking x slot C2) k = tt
    inside r (Checking x slot (C3 c)) k = tt
    inside r (Checking x slot (C4 c)) k = k.1
    inside r (Checking x slot C5) k = k.0
    inside r (Taking D1) k = tt
    inside r (Taking (D2 h s)) k = probe_below r h s k
    inside r (Taking (D3 h o)) k = tt
    inside r (Taking (D4 h o t)) k = tt
    inside r (Taking (D5 found t)) k = next_kept t k.1
    inside r (Taking (D6 found)) k = k
    inside r (Taking (D7 h t)) k = tt
    inside r (Taking (D8 h)) k = next_kept h k
    inside r (Answered a) k = tt

    steps_keep : (c : Call) (steps : List (ℕ × Got)) → Kept c → Kept (after_steps q c steps)
    steps_keep c [] k = k
    steps_keep c (s ∷ steps) k = steps_keep (advanced q s.0 c s.1) steps (keeps s.0 c s.1 k)

    pub call_law : CallLaw q
    call_law = record {
      puts = λ x steps r. inside r (after_steps q (Putting x P1) steps) (steps_keep (Putting x P1) steps tt);
      takes = λ steps r. inside r (after_steps q (Taking D1) steps) (steps_keep (Taking D1) steps tt);
    }
