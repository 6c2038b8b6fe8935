use Rattle.std.proofs.Common.{◌≢◌, ℕ, ◌<◌, List, ◌++◌, get_or}
use Rattle.history.specs.declared.event.Kind.TheVariants.{PutBegun}
use Rattle.stored.specs.Format.{word}
use Rattle.stored.proofs.event_line.kind_of.Given as goal

-- the line begins with the word of no kind that was tried
abbrev pub invariant-loop-kind : goal.invariant-loop-kind
invariant-loop-kind l = (j : ℕ) → j < l.kind-index → (rest : List ℕ) → l.line.bytes.now ≢ word (get_or l.kind-items j PutBegun) ++ rest
