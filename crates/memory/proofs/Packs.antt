-- Packing a pair into a word loses nothing.
use Rattle.std.proofs.Common.{◌≡◌, ℕ, ◌^◌, ◌<◌, arith}
use Rattle.std.proofs.lemmas.Grind.{common_steps}
use Rattle.std.proofs.lemmas.Nat.{shr_high, mod_low}
use Rattle.memory.specs.Words.{packed, unpacked}

pub unpacked_packed : (p : ℕ × ℕ) → p.1 < 2 ^ 32 → unpacked (packed p) ≡ p
unpacked_packed p low = grind (arith, common_steps, shr_high, mod_low)
