-- What the laws come to.
use Rattle.std.proofs.Common.{◌≡◌, ℕ, true, ◌≢◌, ◌↔◌, length, get_or, None, refl, arith}
use Rattle.std.proofs.lemmas.Grind.{common_steps}
use Rattle.std.proofs.lemmas.List.{ext_get_or, length-replicate}
use Rattle.memory.specs.declared.place.Place.{Place}
use Rattle.memory.specs.declared.place.Place.TheVariants.{Slot, Head, Tail}
use Rattle.memory.specs.Mem.{Mem}
use Rattle.memory.specs.Tags.{may_rise, raised}
use Rattle.memory.specs.Laws.{cleared, looked, agrees, swapped}
use Rattle.memory.specs.Consequences.{Outside, Holds, Consequences}

unseen : (m : Mem) (at : Place) → (looked m at ≡ None) ↔ Outside m at
unseen m (Slot i) = grind (arith, common_steps)
unseen m Head = grind (arith, common_steps)
unseen m Tail = grind (arith, common_steps)

clear : (m : Mem) (at : Place) → (Outside m at → ⊥) → Holds (cleared m) at 0 0
clear m (Slot i) there = grind (arith, common_steps)
clear m Head there = refl
clear m Tail there = refl

says_yes : (m : Mem) (e : ℕ) (at : Place) → (agrees m at e ≡ true) ↔ ((number : ℕ) × (Holds m at e number × (may_rise e ≡ true)))
says_yes m e (Slot i) = (λ h. ((get_or m.slots i (0, 0)).1, grind (arith, common_steps)), grind (arith, common_steps))
says_yes m e Head = (λ h. (m.head.1, grind (arith, common_steps)), grind (arith, common_steps))
says_yes m e Tail = (λ h. (m.tail.1, grind (arith, common_steps)), grind (arith, common_steps))

module _ (m : Mem) (e v : ℕ) where
  after_yes : (at : Place) → agrees m at e ≡ true → Holds (swapped m at e v) at (raised e) v
  after_yes (Slot i) h = grind (arith, common_steps)
  after_yes Head h = grind (arith, common_steps)
  after_yes Tail h = grind (arith, common_steps)

  others : (at other : Place) → other ≢ at → looked (swapped m at e v) other ≡ looked m other
  others (Slot i) (Slot j) ne = grind (arith, common_steps)
  others (Slot i) Head ne = grind (arith, common_steps)
  others (Slot i) Tail ne = grind (arith, common_steps)
  others Head Head ne = absurd (ne refl)
  others Head other ne = grind (arith, common_steps)
  others Tail Tail ne = absurd (ne refl)
  others Tail other ne = grind (arith, common_steps)

  count : (at : Place) → length (swapped m at e v).slots ≡ length m.slots
  count (Slot i) = grind (arith, common_steps)
  count Head = grind (arith, common_steps)
  count Tail = grind (arith, common_steps)

seen : (m n : Mem) → ((at : Place) → looked m at ≡ looked n at) → m ≡ n
seen m n all =
    let same : length m.slots ≡ length n.slots = grind (arith, common_steps, all (Slot (length n.slots)), all (Slot (length m.slots))) in
    let slots : m.slots ≡ n.slots = ext_get_or (0, 0) m.slots n.slots same (λ i l. grind (arith, common_steps, all (Slot i))) in
    let head : m.head ≡ n.head = cc (all Head) in
    let tail : m.tail ≡ n.tail = cc (all Tail) in
    grind (arith, common_steps)

pub consequences : Consequences
consequences = record {
  unseen = unseen;
  seen = seen;
  after_clear = clear;
  says_yes = λ m at e. says_yes m e at;
  after_yes = λ m at e v h. after_yes m e v at h;
  after_no = λ m at e v h. cc;
  others = λ m at other e v ne. others m e v at other ne;
  count_stays = λ m at e v. (count m e v at, length-replicate (length m.slots) (0, 0));
}
