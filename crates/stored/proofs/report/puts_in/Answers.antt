use Rattle.std.proofs.Common.{rules, ◌+◌, sym, ap, ◌∙◌, arith}
use Rattle.history.specs.Events.{is}
use Rattle.history.proofs.Positions.{count_le}
use Rattle.history.proofs.Tables.{puts_yes, puts_no}
use Rattle.stored.proofs.report.puts_in.Goals as goal
use Rattle.stored.proofs.report.puts_in.Goals.{then-eq, else-eq}

pub overflow_add-puts : goal.overflow_add-puts
overflow_add-puts c = omega (arith, count_le (is 1 c.args.history.now) c.loop-event.event-index)

pub loop-event-preserved : goal.loop-event-preserved
loop-event-preserved c =
    let h = c.args.history.now in
    let i = c.loop-event.event-index in
    elim c.if-eq.branch [
      | then-eq w ↦ w.puts-is ∙ ap (λ x. x + 1) c.loop-event.invariant ∙ sym (puts_yes h i (search rules))
      | else-eq w ↦ w.puts-is ∙ c.loop-event.invariant ∙ sym (puts_no h i (search rules))
    ]
