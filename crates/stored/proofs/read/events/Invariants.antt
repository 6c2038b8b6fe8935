use Rattle.std.proofs.Common.{◌-◌, ◌≤◌, vec_items, vec_len}
use Rattle.text.specs.Reading.{left}
use Rattle.stored.proofs.SoFar.{SoFar}
use Rattle.stored.proofs.read.events.Given as goal

abbrev pub invariant-loop-reader : goal.invariant-loop-reader
invariant-loop-reader l = SoFar (left l.initial.reader) l.initial.reader.number l.reader (vec_items l.events) × (vec_len l.events ≤ 65537)

abbrev pub decreases-loop-reader : goal.decreases-loop-reader
decreases-loop-reader l = 65537 - vec_len l.events
