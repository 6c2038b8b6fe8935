use Rattle.std.proofs.Common.{◌≡◌, count_by, length, ap, ◌∙◌, arith}
use Rattle.std.proofs.lemmas.List.{take_all}
use Rattle.history.specs.Positions.{count_below}
use Rattle.steps.specs.Calls.{in_flight}
use Rattle.rig.specs.Worlds.{State, state, resting, call_at, flights}
use Rattle.rig.specs.declared.thread.Thread.{Thread}
use Rattle.rig.proofs.Counts.{counted}
use Rattle.rig.proofs.rig.Rig.in_flight.Goals as goal

all_flights : (r : State) → length r.threads ≡ 64 → count_by (λ (t : Thread). in_flight t.call) r.threads ≡ flights r
unfolding flights
all_flights r e = counted (λ (t : Thread). in_flight t.call) r.threads resting ∙ ap (count_below (λ t. in_flight (call_at r t))) e

pub returns-clause-is : goal.returns-clause-is
returns-clause-is c =
    let threads = c.args.self.now.threads in
    c.loop-thread.invariant.0
    ∙ ap (count_by (λ (t : Thread). in_flight t.call)) (take_all c.loop-thread.thread-index threads (omega arith))
    ∙ all_flights (state c.args.self.now) c.args.self.now.whole
