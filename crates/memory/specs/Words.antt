-- Words as slots: a word holds the tag in its upper 32 bits and the item in the lower.
use Rattle.std.specs.Prelude.{ℕ, ◌+◌, ◌*◌, ◌/◌, ◌%◌, ◌^◌, min, Bool, cond, ◌&&◌, List, ◌++◌, map, length, take, drop, replicate, Some, None, Option, nat_lt, slice_index, slice_set}
use Rattle.memory.specs.declared.marked.Marked.{Marked}
use Rattle.memory.specs.declared.word.WordSlots.{WordSlots}
use Rattle.memory.specs.Mem.{Mem, with_markers}
use Rattle.memory.specs.Tags.{takes, raised}

abbrev pub packed : ℕ × ℕ → ℕ
packed p = p.0 * 2 ^ 32 + p.1

abbrev pub unpacked : ℕ → ℕ × ℕ
unpacked w = (w / 2 ^ 32, w % 2 ^ 32)

-- how many of the words are slots
abbrev pub used : List ℕ → ℕ
used ws = min (length ws) 4096

-- the slots that words mean
abbrev pub word_pairs : List ℕ → List (ℕ × ℕ)
word_pairs ws = take (used ws) (map unpacked ws)

-- what words and markers mean
abbrev pub words_mean : List ℕ → ℕ × ℕ → ℕ × ℕ → Mem
words_mean ws h t = with_markers (word_pairs ws) h t

abbrev pub word_meaning : Marked WordSlots → Mem
word_meaning s = words_mean s.slots.words.now s.head s.tail

-- zero in the first n words
abbrev pub wiped : ℕ → List ℕ → List ℕ
wiped n ws = replicate n 0 ++ drop n ws

-- what a read of word i sees, when it takes a swap, and the words after one
abbrev pub word_looked : List ℕ → ℕ → Option (ℕ × ℕ)
word_looked ws i = cond (nat_lt i (used ws)) (Some (unpacked (slice_index ws i))) None

abbrev pub word_agrees : List ℕ → ℕ → ℕ → Bool
word_agrees ws i e = nat_lt i (used ws) && takes (unpacked (slice_index ws i)) e

abbrev pub words_swapped : List ℕ → ℕ → ℕ → ℕ → List ℕ
words_swapped ws i e v = cond (word_agrees ws i e) (slice_set ws i (packed (raised e, v))) ws
