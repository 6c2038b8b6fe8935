-- What a reader hands on.
use Rattle.std.specs.Prelude.{◌≡◌, ℕ, ◌+◌, ◌<◌, ◌≤◌, List, [], ◌∷◌, length, take, drop, Some, None, Ok, Err, Option, Result}
use Rattle.text.specs.declared.line.BadLine.{BadLine}
use Rattle.text.specs.declared.line.Line.{Line}
use Rattle.text.specs.declared.line.Reason.TheVariants.{TooLong}
use Rattle.text.specs.declared.reader.Reader.{Reader}
use Rattle.text.specs.Lines.{lines, LinesOf}
use Rattle.text.specs.Refusal.{refusal}

-- all bytes, also those that were handed on
abbrev pub input : Reader → List ℕ
input r = r.bytes.now

-- the bytes of the lines that were not handed on yet
abbrev pub ahead : Reader → List ℕ
ahead r = drop r.pos (input r)

-- the lines that were not handed on yet
abbrev pub left : Reader → List (List ℕ)
left r = lines (ahead r)

-- all lines of bs are left, and no other lines than these are the lines of bs
pub record Opens (bs : List ℕ) (r : Reader) : Type 0 where
  pub over : input r ≡ bs
  pub start : r.pos ≡ 0
  pub none : r.number ≡ 0
  pub cuts : LinesOf bs (left r)
  pub only : (ls : List (List ℕ)) → LinesOf bs ls → ls ≡ left r

-- line is the first line that is left, and t is the reader behind it
pub record Hands (s : Reader) (line : Line) (t : Reader) : Type 0 where
  pub first : left s ≡ line.bytes.now ∷ left t
  pub part : line.bytes.now ≡ take (length line.bytes.now) (ahead s)
  pub short : length line.bytes.now ≤ 80
  pub numbered : line.number ≡ s.number + 1
  pub counted : t.number ≡ s.number + 1
  pub same : input t ≡ input s

-- the first line that is left has more than 80 bytes
abbrev pub TooLongFirst : List (List ℕ) → Type 0
TooLongFirst [] = ⊥
TooLongFirst (l ∷ ls) = 80 < length l

-- no line is left; or the first is handed on; or it is refused, and the reader stays
abbrev pub NextLine : Reader → Result (Option Line) BadLine → Reader → Type 0
NextLine s (Ok None) t = (left s ≡ []) × (t ≡ s)
NextLine s (Ok (Some line)) t = Hands s line t
NextLine s (Err bad) t = TooLongFirst (left s) × (bad ≡ refusal (s.number + 1) TooLong) × (t ≡ s)
