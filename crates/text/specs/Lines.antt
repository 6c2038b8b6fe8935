-- The lines of an input.
use Rattle.std.specs.Prelude.{◌≡◌, ℕ, ◌+◌, cond, List, [], ◌∷◌, ◌++◌, length, take, drop, ◌==◌}
use Rattle.text.specs.Cut.{Lacks}

-- the byte b in front of the first line
abbrev pub onto_first : ℕ → List (List ℕ) → List (List ℕ)
onto_first b [] = (b ∷ []) ∷ []
onto_first b (l ∷ ls) = (b ∷ l) ∷ ls

-- a line ends at byte 10 or with the input; behind a final byte 10 no line begins
abbrev pub lines : List ℕ → List (List ℕ)
lines [] = []
lines (b ∷ bs) = cond (b == 10) ([] ∷ lines bs) (onto_first b (lines bs))

-- each line with byte 10 behind it
abbrev pub ended : List (List ℕ) → List ℕ
ended [] = []
ended (l ∷ ls) = l ++ 10 ∷ ended ls

-- the input, with byte 10 added where its last line has none
abbrev pub closed : List ℕ → List ℕ
closed [] = []
closed (b ∷ []) = cond (b == 10) (b ∷ []) (b ∷ 10 ∷ [])
closed (b ∷ c ∷ bs) = b ∷ closed (c ∷ bs)

-- no byte of any line is c
abbrev pub AllLack : ℕ → List (List ℕ) → Type 0
AllLack c [] = Unit {0}
AllLack c (l ∷ ls) = Lacks c l × AllLack c ls

-- ls are the lines of the input: none holds byte 10, and with byte 10 behind each they are the input
abbrev pub LinesOf : List ℕ → List (List ℕ) → Type 0
LinesOf input ls = AllLack 10 ls × (ended ls ≡ closed input)

-- line is the first line of bs, and the other lines start behind it and one byte more
pub record FirstLine (bs line : List ℕ) : Type 0 where
  pub front : line ≡ take (length line) bs
  pub first : lines bs ≡ line ∷ lines (drop (length line + 1) bs)
