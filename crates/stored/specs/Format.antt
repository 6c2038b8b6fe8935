-- The lines of a stored history.
use Rattle.std.specs.Prelude.{◌≡◌, ℕ, ◌^◌, ◌<◌, List, ◌∷◌, ◌++◌, Some, None, Ok, Err, codes, Option, Result, ◌≢◌}
use Rattle.std.specs.Borrow.{Bor}
use Rattle.history.specs.declared.event.Event.{Event}
use Rattle.history.specs.declared.event.Kind.{Kind}
use Rattle.history.specs.declared.event.Kind.TheVariants.{PutBegun, TakeBegun, Accepted, Full, HandedOut, Empty}
use Rattle.text.specs.Numeral.{Numeral}
use Rattle.text.specs.Refusal.{refusal}
use Rattle.text.specs.declared.line.BadLine.{BadLine}
use Rattle.text.specs.declared.line.Reason.TheVariants.{Unreadable}

-- the word of each kind
abbrev pub word : Kind → List ℕ
word PutBegun = codes "put="
word TakeBegun = codes "take="
word Accepted = codes "accepted="
word Full = codes "full="
word HandedOut = codes "item="
word Empty = codes "empty="

-- the bytes write a number of 32 bits
abbrev pub Number32 : List ℕ → ℕ → Type 0
Number32 bs n = Numeral bs n × (n < 2 ^ 32)

-- a thread and an item, with a colon (58) between them
pub record Pair (bs : List ℕ) (thread item : ℕ) : Type 0 where
  pub before : List ℕ
  pub behind : List ℕ
  pub cut : bs ≡ before ++ 58 ∷ behind
  pub thread_is : Number32 before thread
  pub item_is : Number32 behind item

-- what follows the word of a kind: the thread, and the item unless the kind carries none
abbrev pub Numbers : Kind → List ℕ → ℕ → ℕ → Type 0
Numbers PutBegun bs t x = Pair bs t x
Numbers TakeBegun bs t x = Number32 bs t × (x ≡ 0)
Numbers Accepted bs t x = Pair bs t x
Numbers Full bs t x = Pair bs t x
Numbers HandedOut bs t x = Pair bs t x
Numbers Empty bs t x = Number32 bs t × (x ≡ 0)

-- the line of an event
abbrev pub Writes : List ℕ → Event → Type 0
Writes bs e = (rest : List ℕ) × ((bs ≡ word e.kind ++ rest) × Numbers e.kind rest e.thread e.item)

abbrev pub KeyOf : List ℕ → Option (Kind × Bor (List ℕ)) → Type 0
KeyOf bs (Some p) = bs ≡ word p.0 ++ p.1.now
KeyOf bs None = (k : Kind) (rest : List ℕ) → bs ≢ word k ++ rest

abbrev pub NumbersRead : Kind → List ℕ → ℕ → Result (ℕ × ℕ) BadLine → Type 0
NumbersRead k bs line (Ok p) = Numbers k bs p.0 p.1
NumbersRead k bs line (Err bad) = ((t x : ℕ) → Numbers k bs t x → ⊥) × (bad ≡ refusal line Unreadable)

abbrev pub EventRead : List ℕ → ℕ → Result Event BadLine → Type 0
EventRead bs line (Ok e) = Writes bs e
EventRead bs line (Err bad) = ((e : Event) → Writes bs e → ⊥) × (bad ≡ refusal line Unreadable)
