-- A stored history: a line with k, a line with the number of segments, then an event a line.
use Rattle.std.specs.Prelude.{◌≡◌, ℕ, ◌+◌, ◌<◌, ◌≤◌, ◌⊎◌, List, [], ◌∷◌, ◌++◌, length, Ok, Err, vec_items, codes, Result, Vec}
use Rattle.std.specs.declared.alloc.Global.{Global}
use Rattle.history.specs.Limits.{most}
use Rattle.history.specs.declared.event.Event.{Event}
use Rattle.text.specs.Lines.{lines}
use Rattle.text.specs.Header.{Header, BadFirst}
use Rattle.text.specs.Refusal.{refusal}
use Rattle.text.specs.declared.line.BadLine.{BadLine}
use Rattle.text.specs.declared.line.Reason.TheVariants.{Unreadable, TooLong}
use Rattle.stored.specs.Format.{Writes}
use Rattle.stored.specs.declared.fault.Fault.{Fault}
use Rattle.stored.specs.declared.fault.Fault.TheVariants.{Bad, Refused, Memory}
use Rattle.stored.specs.declared.read.Stored.{Stored}

-- these lines write these events, one each
abbrev pub EventLines : List (List ℕ) → List Event → Type 0
EventLines [] [] = Unit {0}
EventLines [] (e ∷ es) = ⊥
EventLines (l ∷ ls) [] = ⊥
EventLines (l ∷ ls) (e ∷ es) = ((length l ≤ 80) × Writes l e) × EventLines ls es

-- why line n is no event's line: it is over 80 bytes, or else writes none
abbrev pub BadEvent : List ℕ → ℕ → BadLine → Type 0
BadEvent l n bad =
    ((80 < length l) × (bad ≡ refusal n TooLong))
    ⊎ ((length l ≤ 80) × (((e : Event) → Writes l e → ⊥) × (bad ≡ refusal n Unreadable)))

-- the lines write these events, all of them or as many as show that there are too many
pub record Events (ls : List (List ℕ)) (es : List Event) : Type 0 where
  pub read : List (List ℕ)
  pub unread : List (List ℕ)
  pub cut : ls ≡ read ++ unread
  pub write : EventLines read es
  pub enough : (unread ≡ []) ⊎ (length es ≡ most + 1)

-- the first of the lines that is no event's, where n lines came before them
pub record BadEvents (ls : List (List ℕ)) (n : ℕ) (bad : BadLine) : Type 0 where
  pub read : List (List ℕ)
  pub here : List ℕ
  pub unread : List (List ℕ)
  pub cut : ls ≡ read ++ here ∷ unread
  pub before : (es : List Event) × (EventLines read es × (length es ≤ most))
  pub why : BadEvent here (n + length read + 1) bad

abbrev pub EventsRead : List (List ℕ) → ℕ → Result (Vec Event Global) Fault → Type 0
EventsRead ls n (Ok v) = Events ls (vec_items v)
EventsRead ls n (Err (Bad bad)) = BadEvents ls n bad
EventsRead ls n (Err (Refused r)) = ⊥
EventsRead ls n (Err Memory) = Unit {0}

-- the input writes k, the number of segments n, and these events
pub record Holds (input : List ℕ) (k n : ℕ) (es : List Event) : Type 0 where
  pub k_line : List ℕ
  pub segments_line : List ℕ
  pub behind : List (List ℕ)
  pub cut : lines input ≡ k_line ∷ (segments_line ∷ behind)
  pub short : (length k_line ≤ 80) × (length segments_line ≤ 80)
  pub k_is : Header (codes "k=") k_line k
  pub segments_is : Header (codes "segments=") segments_line n
  pub events : Events behind es

-- the first of the lines is the header line with this key
pub record HeaderFirst (key : List ℕ) (ls : List (List ℕ)) : Type 0 where
  pub line : List ℕ
  pub rest : List (List ℕ)
  pub cut : ls ≡ line ∷ rest
  pub short : length line ≤ 80
  pub header : (n : ℕ) × Header key line n

-- the first line that is not as it should be: the line with k, the line with the segments, or an event's
abbrev pub BadInput : List (List ℕ) → BadLine → Type 0
BadInput ls bad =
    BadFirst 1 (codes "k=") 1 ls bad
    ⊎ ((a : HeaderFirst (codes "k=") ls) × (BadFirst 2 (codes "segments=") 2 a.rest bad
    ⊎ ((b : HeaderFirst (codes "segments=") a.rest) × BadEvents b.rest 2 bad)))

abbrev pub Read : List ℕ → Result Stored Fault → Type 0
Read input (Ok s) = Holds input s.k s.segments (vec_items s.events)
Read input (Err (Bad bad)) = BadInput (lines input) bad
Read input (Err (Refused r)) = ⊥
Read input (Err Memory) = Unit {0}
