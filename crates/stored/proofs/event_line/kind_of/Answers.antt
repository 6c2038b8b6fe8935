use Rattle.std.proofs.Common.{arith}
use Rattle.history.specs.declared.event.Kind.TheVariants.{PutBegun, TakeBegun, Accepted, Full, HandedOut, Empty}
use Rattle.stored.proofs.event_line.kind_of.Goals as goal

-- every kind was tried
pub returns : goal.returns
returns c PutBegun = c.loop-kind.invariant 0 (omega arith)
returns c TakeBegun = c.loop-kind.invariant 1 (omega arith)
returns c Accepted = c.loop-kind.invariant 2 (omega arith)
returns c Full = c.loop-kind.invariant 3 (omega arith)
returns c HandedOut = c.loop-kind.invariant 4 (omega arith)
returns c Empty = c.loop-kind.invariant 5 (omega arith)
