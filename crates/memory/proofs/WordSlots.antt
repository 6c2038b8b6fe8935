-- What the slots of words become when words are wiped or one is swapped.
use Rattle.std.proofs.Common.{◌≡◌, ℕ, zero, suc, ◌^◌, ◌<◌, List, ◌∷◌, map, length, drop, set, replicate, refl, ap, arith}
use Rattle.std.proofs.Math.Seq.{take-set-lt}
use Rattle.std.proofs.lemmas.Grind.{common_steps}
use Rattle.std.proofs.lemmas.List.{map-set, map-append, take_at, length-set, length-replicate, length-append, length-drop}
use Rattle.memory.specs.Laws.{slot_agrees, slots_swapped}
use Rattle.memory.specs.Tags.{raised}
use Rattle.memory.specs.Words.{packed, unpacked, used, word_pairs, word_agrees, words_swapped, wiped}
use Rattle.memory.proofs.Packs.{unpacked_packed}

zeros_unpacked : (n : ℕ) → map unpacked (replicate n 0) ≡ replicate n (0, 0)
zeros_unpacked zero = refl
zeros_unpacked (suc n) = ap (λ l. (0, 0) ∷ l) (zeros_unpacked n)

module _ (ws : List ℕ) where
  count_is : length (word_pairs ws) ≡ used ws
  count_is = grind (arith, common_steps)

  wiped_count : used (wiped (used ws) ws) ≡ used ws
  wiped_count = simp (length-append, length-replicate, length-drop) (omega arith)

  pub wiped_slots : word_pairs (wiped (used ws) ws) ≡ replicate (length (word_pairs ws)) (0, 0)
  wiped_slots = rw (wiped_count, count_is, map-append, zeros_unpacked) (take_at (replicate (used ws) (0, 0)) (map unpacked (drop (used ws) ws)) (used ws) (length-replicate (used ws) (0, 0)))

  module _ (i e v : ℕ) (low : v < 2 ^ 32) where
    agrees_is : word_agrees ws i e ≡ slot_agrees (word_pairs ws) i e
    agrees_is = grind (arith, common_steps)

    set_is : (p : ℕ × ℕ) → i < used ws → p.1 < 2 ^ 32 → word_pairs (set ws i (packed p)) ≡ set (word_pairs ws) i p
    set_is p h below = simp (length-set, map-set) (rw (unpacked_packed p below) (take-set-lt (used ws) (map unpacked ws) i p h))

    pub swapped_slots : word_pairs (words_swapped ws i e v) ≡ slots_swapped (word_pairs ws) i e v
    swapped_slots = grind (arith, common_steps, agrees_is, set_is (raised e, v))
