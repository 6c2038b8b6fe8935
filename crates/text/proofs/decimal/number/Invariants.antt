use Rattle.std.proofs.Common.{◌≡◌, ℕ, ◌^◌, ◌<◌, get_or, drop}
use Rattle.text.specs.Numeral.{Digit, with_digits}
use Rattle.text.proofs.decimal.number.Given as goal

abbrev pub invariant-loop-b : goal.invariant-loop-b
invariant-loop-b l = (l.n < 2 ^ 32) × ((k : ℕ) → k < l.b-index → Digit (get_or l.bytes k 0)) × (with_digits l.n (drop l.b-index l.bytes) ≡ with_digits 0 l.bytes)
