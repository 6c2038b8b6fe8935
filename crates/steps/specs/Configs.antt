-- Which configurations there are. The questions are asked in order, and the first that is answered no is the refusal.
use Rattle.std.specs.Prelude.{◌≡◌, ℕ, Bool, cond, ◌&&◌, List, [], ◌∷◌, Some, None, Ok, Err, Option, Result, nat_le, decimal}
use Rattle.steps.specs.declared.config.Config.{Config}
use Rattle.steps.specs.declared.config_refusal.ConfigRefusal.{ConfigRefusal}
use Rattle.steps.specs.declared.config_refusal.ConfigRefusal.TheVariants.{SegmentSize, Segments, Threads}

abbrev pub refusal_number : ConfigRefusal → ℕ
refusal_number SegmentSize = 1
refusal_number Segments = 2
refusal_number Threads = 3

abbrev pub refusal_text : ConfigRefusal → List ℕ
refusal_text refusal = decimal (refusal_number refusal)

abbrev pub within : ℕ → ℕ → ℕ → Bool
within low high x = nat_le low x && nat_le x high

-- is k 1 to 64? (1) Are there 2 to 64 segments? (2) 1 to 64 threads? (3)
abbrev pub config_questions : ℕ → ℕ → ℕ → List (Bool × ℕ)
config_questions k n t = (within 1 64 k, 1) ∷ ((within 2 64 n, 2) ∷ ((within 1 64 t, 3) ∷ []))

-- the number of the first question that is answered no
abbrev pub first_no : List (Bool × ℕ) → Option ℕ
first_no [] = None
first_no (q ∷ qs) = cond q.0 (first_no qs) (Some q.1)

-- a configuration with these three numbers where every question is answered yes, else the refusal
abbrev pub Made : ℕ → ℕ → ℕ → Result Config ConfigRefusal → Type 0
Made k n t (Ok c) = (first_no (config_questions k n t) ≡ None) × ((c.k.number ≡ k) × ((c.segments.number ≡ n) × (c.threads.number ≡ t)))
Made k n t (Err e) = first_no (config_questions k n t) ≡ Some (refusal_number e)
