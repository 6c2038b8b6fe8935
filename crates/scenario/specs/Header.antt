-- The four header lines of a scenario.
use Rattle.std.specs.Prelude.{◌≡◌, ℕ, ◌+◌, ◌<◌, ◌≤◌, ◌⊎◌, List, [], ◌∷◌, ◌++◌, length, Ok, Err, codes, Result}
use Rattle.std.specs.Borrow.{Bor}
use Rattle.text.specs.Header.{Begins}
use Rattle.text.specs.Numeral.{Numeral}
use Rattle.text.specs.Reading.{left, Hands}
use Rattle.text.specs.Refusal.{refusal}
use Rattle.text.specs.declared.line.BadLine.{BadLine}
use Rattle.text.specs.declared.line.Line.{Line}
use Rattle.text.specs.declared.line.Reason.TheVariants.{Unreadable, NotDue, TooLong}
use Rattle.text.specs.declared.reader.Reader.{Reader}
use Rattle.scenario.specs.Written.{Number32}
use Rattle.scenario.specs.declared.header.Header.{Header}
use Rattle.scenario.specs.declared.header.Kind.{Kind}
use Rattle.scenario.specs.declared.header.Kind.TheVariants.{Number, Quote}

-- at most four threads
abbrev pub ThreadsWritten : List ℕ → ℕ → Type 0
ThreadsWritten bs n = Numeral bs n × (n ≤ 4)

abbrev pub kind_word : Kind → List ℕ
kind_word Number = codes "number"
kind_word Quote = codes "quote"

abbrev pub KindWritten : List ℕ → Kind → Type 0
KindWritten bs kind = bs ≡ kind_word kind

-- the line is the key with x written behind it
abbrev pub Keyed : {A : Type 0} → (List ℕ → A → Type 0) → List ℕ → List ℕ → A → Type 0
Keyed written key l x = (rest : List ℕ) × ((l ≡ key ++ rest) × written rest x)

-- why line n is not that header line: it is over 80 bytes, or else has another key, or else nothing is written behind it
abbrev pub BadHeader : {A : Type 0} → (List ℕ → A → Type 0) → List ℕ → ℕ → List ℕ → BadLine → Type 0
BadHeader {A} written key n l bad =
    ((80 < length l) × (bad ≡ refusal n TooLong))
    ⊎ ((length l ≤ 80) × (((Begins key l → ⊥) × (bad ≡ refusal n NotDue))
    ⊎ (Begins key l × (((x : A) → Keyed written key l x → ⊥) × (bad ≡ refusal n Unreadable)))))

-- the same of the first of the lines; where there is none, the line that is due is missing
abbrev pub BadFirst : {A : Type 0} → (List ℕ → A → Type 0) → ℕ → List ℕ → ℕ → List (List ℕ) → BadLine → Type 0
BadFirst written at key n [] bad = bad ≡ refusal at NotDue
BadFirst written at key n (l ∷ ls) bad = BadHeader written key n l bad

-- the header line due, from reader s to reader t
pub record Taken {A : Type 0} (written : List ℕ → A → Type 0) (key : List ℕ) (s : Reader) (x : A) (t : Reader) : Type 0 where
  pub line : List ℕ
  pub first : left s ≡ line ∷ left t
  pub short : length line ≤ 80
  pub says : Keyed written key line x
  pub counted : t.number ≡ s.number + 1

abbrev pub DueRead : {A : Type 0} → (List ℕ → A → Type 0) → ℕ → List ℕ → Reader → Result A BadLine → Reader → Type 0
DueRead written at key s (Ok x) t = Taken written key s x t
DueRead written at key s (Err bad) t = BadFirst written at key (s.number + 1) (left s) bad

-- why the first of the lines does not begin with the key
abbrev pub OtherFirst : ℕ → List ℕ → ℕ → List (List ℕ) → BadLine → Type 0
OtherFirst at key n [] bad = bad ≡ refusal at NotDue
OtherFirst at key n (l ∷ ls) bad =
    ((80 < length l) × (bad ≡ refusal n TooLong))
    ⊎ ((length l ≤ 80) × ((Begins key l → ⊥) × (bad ≡ refusal n NotDue)))

-- what follows the key on the header line due, whatever it writes
abbrev pub ValueRead : ℕ → List ℕ → Reader → Result (Line × Bor (List ℕ)) BadLine → Reader → Type 0
ValueRead at key s (Ok p) t = Hands s p.0 t × (p.0.bytes.now ≡ key ++ p.1.now)
ValueRead at key s (Err bad) t = OtherFirst at key (s.number + 1) (left s) bad

-- the first of the lines is the header line with this key
pub record HeaderFirst {A : Type 0} (written : List ℕ → A → Type 0) (key : List ℕ) (ls : List (List ℕ)) : Type 0 where
  pub line : List ℕ
  pub rest : List (List ℕ)
  pub cut : ls ≡ line ∷ rest
  pub short : length line ≤ 80
  pub value : A
  pub says : Keyed written key line value

-- the lines begin with the four header lines, which write this header
pub record HeaderLines (ls : List (List ℕ)) (h : Header) (rest : List (List ℕ)) : Type 0 where
  pub k_line : List ℕ
  pub segments_line : List ℕ
  pub threads_line : List ℕ
  pub kind_line : List ℕ
  pub cut : ls ≡ k_line ∷ (segments_line ∷ (threads_line ∷ (kind_line ∷ rest)))
  pub short : (length k_line ≤ 80) × ((length segments_line ≤ 80) × ((length threads_line ≤ 80) × (length kind_line ≤ 80)))
  pub k_is : Keyed Number32 (codes "k=") k_line h.k
  pub segments_is : Keyed Number32 (codes "segments=") segments_line h.segments
  pub threads_is : Keyed ThreadsWritten (codes "threads=") threads_line h.threads
  pub kind_is : Keyed KindWritten (codes "kind=") kind_line h.kind

-- the first header line that is not as it should be, where n lines came before them
abbrev pub BadHeaders : List (List ℕ) → ℕ → BadLine → Type 0
BadHeaders ls n bad =
    BadFirst Number32 1 (codes "k=") (n + 1) ls bad
    ⊎ ((a : HeaderFirst Number32 (codes "k=") ls) × (BadFirst Number32 2 (codes "segments=") (n + 2) a.rest bad
    ⊎ ((b : HeaderFirst Number32 (codes "segments=") a.rest) × (BadFirst ThreadsWritten 3 (codes "threads=") (n + 3) b.rest bad
    ⊎ ((c : HeaderFirst ThreadsWritten (codes "threads=") b.rest) × BadFirst KindWritten 4 (codes "kind=") (n + 4) c.rest bad)))))

abbrev pub HeaderRead : Reader → Result Header BadLine → Reader → Type 0
HeaderRead s (Ok h) t = HeaderLines (left s) h (left t) × (t.number ≡ s.number + 4)
HeaderRead s (Err bad) t = BadHeaders (left s) s.number bad
