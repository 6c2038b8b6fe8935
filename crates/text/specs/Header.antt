-- Header lines: a key with a number of 32 bits behind it.
use Rattle.std.specs.Prelude.{◌≡◌, ℕ, ◌+◌, ◌^◌, ◌<◌, ◌≤◌, ◌⊎◌, List, [], ◌∷◌, ◌++◌, length, Ok, Err, Result}
use Rattle.text.specs.declared.line.BadLine.{BadLine}
use Rattle.text.specs.declared.line.Reason.TheVariants.{Unreadable, NotDue, TooLong}
use Rattle.text.specs.declared.reader.Reader.{Reader}
use Rattle.text.specs.Numeral.{Numeral}
use Rattle.text.specs.Reading.{left}
use Rattle.text.specs.Refusal.{refusal}

-- the line begins with the key
abbrev pub Begins : List ℕ → List ℕ → Type 0
Begins key l = (rest : List ℕ) × (l ≡ key ++ rest)

-- it is the key and the number n
abbrev pub Header : List ℕ → List ℕ → ℕ → Type 0
Header key l n = (rest : List ℕ) × ((l ≡ key ++ rest) × (Numeral rest n × (n < 2 ^ 32)))

-- why line n is not that header line: it is over 80 bytes, or else has another key, or else no number
abbrev pub BadHeader : List ℕ → ℕ → List ℕ → BadLine → Type 0
BadHeader key n l bad =
    ((80 < length l) × (bad ≡ refusal n TooLong))
    ⊎ ((length l ≤ 80) × (((Begins key l → ⊥) × (bad ≡ refusal n NotDue))
    ⊎ (Begins key l × (((m : ℕ) → Header key l m → ⊥) × (bad ≡ refusal n Unreadable)))))

-- the same of the first of the lines that are left; where none is, the line that is due is missing
abbrev pub BadFirst : ℕ → List ℕ → ℕ → List (List ℕ) → BadLine → Type 0
BadFirst at key n [] bad = bad ≡ refusal at NotDue
BadFirst at key n (l ∷ ls) bad = BadHeader key n l bad

-- the header line due, from reader s to reader t; at: its number
pub record HeaderTaken (key : List ℕ) (s : Reader) (n : ℕ) (t : Reader) : Type 0 where
  pub line : List ℕ
  pub first : left s ≡ line ∷ left t
  pub short : length line ≤ 80
  pub header : Header key line n
  pub counted : t.number ≡ s.number + 1

abbrev pub HeaderRead : ℕ → List ℕ → Reader → Result ℕ BadLine → Reader → Type 0
HeaderRead at key s (Ok n) t = HeaderTaken key s n t
HeaderRead at key s (Err bad) t = BadFirst at key (s.number + 1) (left s) bad
