-- A refusal is known by its number and the event that it names.
use Rattle.std.proofs.Common.{◌≡◌, ℕ, false, cond, eqb, List, sym, refl, ap, ◌∙◌, subst}
use Rattle.std.proofs.lemmas.Bool.{both_ways}
use Rattle.history.specs.WellFormed.{formed}
use Rattle.history.specs.Refusals.{refusal_number, Names}
use Rattle.history.specs.declared.event.Event.{Event}
use Rattle.history.specs.declared.refusal.Refusal.{Refusal}
use Rattle.history.specs.declared.refusal.Refusal.TheVariants.{SegmentSize, Segments, TooLong, Malformed, TooFewRows, Overlap}
use Rattle.history.proofs.Positions.{least_one}
use Rattle.history.specs.WellFormed as history

malformed_one : (h : List Event) (d e : ℕ) → history.Malformed h d → history.Malformed h e → d ≡ e
malformed_one h d e a b = least_one (λ j. formed h j ≡ false) d e a.here b.here
    (λ j lt p. both_ways (formed h j) p (a.before j lt)) (λ j lt p. both_ways (formed h j) p (b.before j lt))

-- the refusal with this number that names this event
abbrev numbered : ℕ → ℕ → Refusal
numbered n e = cond (eqb n 1) SegmentSize (cond (eqb n 2) Segments (cond (eqb n 13) TooLong (cond (eqb n 14) (Malformed e) (cond (eqb n 15) TooFewRows Overlap))))

abbrev named : Refusal → ℕ
named SegmentSize = 0
named Segments = 0
named TooLong = 0
named (Malformed e) = e
named TooFewRows = 0
named Overlap = 0

numbered_back : (r : Refusal) → numbered (refusal_number r) (named r) ≡ r
numbered_back SegmentSize = refl
numbered_back Segments = refl
numbered_back TooLong = refl
numbered_back (Malformed e) = refl
numbered_back TooFewRows = refl
numbered_back Overlap = refl

from_number : (s : Refusal) (n : ℕ) → n ≡ refusal_number s → numbered n (named s) ≡ s
from_number s n e = ap (λ (x : ℕ). numbered x (named s)) e ∙ numbered_back s

pub refusal_one : (h : List Event) (r s : Refusal) → refusal_number r ≡ refusal_number s → Names h r → Names h s → r ≡ s
refusal_one h SegmentSize s e a b = from_number s 1 e
refusal_one h Segments s e a b = from_number s 2 e
refusal_one h TooLong s e a b = from_number s 13 e
refusal_one h (Malformed d) s e a b =
    let own = from_number s 14 e in
    ap (λ (x : ℕ). Malformed x) (malformed_one h d (named s) a (subst (λ (r : Refusal). Names h r) (sym own) b)) ∙ own
refusal_one h TooFewRows s e a b = from_number s 15 e
refusal_one h Overlap s e a b = from_number s 16 e
