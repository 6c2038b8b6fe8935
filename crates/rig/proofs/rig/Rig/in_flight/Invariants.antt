use Rattle.std.proofs.Common.{◌≡◌, ◌≤◌, count_by, take}
use Rattle.steps.specs.Calls.{in_flight}
use Rattle.rig.specs.declared.thread.Thread.{Thread}
use Rattle.rig.proofs.rig.Rig.in_flight.Given as goal

abbrev pub invariant-loop-thread : goal.invariant-loop-thread
invariant-loop-thread l = (l.count ≡ count_by (λ (t : Thread). in_flight t.call) (take l.thread-index l.self.threads)) × (l.count ≤ l.thread-index)
