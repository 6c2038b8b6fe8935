use Rattle.std.proofs.Common.{rules, ◌+◌, refl, arith}
use Rattle.history.proofs.Positions.{count_le}
use Rattle.judge.specs.Walk.{free}
use Rattle.judge.proofs.Walks.{go_start, turn, go_past, go_as}
use Rattle.judge.proofs.walk.pass.Goals as goal
use Rattle.judge.proofs.walk.pass.Goals.{then-eq+then-not-row+else-row-k, then-eq+else-not-row, else-eq}

pub loop-event-init : goal.loop-event-init
loop-event-init c = go_as _ _ _ _ _ _ _ _ _ (omega arith) refl refl (go_start c.args.k c.args.history.now c.args.rows.now c.min-start.result (λ j lt. c.requires.none_older j (omega arith)))

pub overflow_sub-row : goal.overflow_sub-row
overflow_sub-row c = let t = turn c.requires c.min-start.result c.loop-event.event-index c.loop-event.older c.loop-event.rows (omega arith) c.loop-event.invariant (search rules) in t.pos

pub bounds-rows-event : goal.bounds-rows-event
bounds-rows-event c = let t = turn c.requires c.min-start.result c.loop-event.event-index c.loop-event.older c.loop-event.rows (omega arith) c.loop-event.invariant (search rules) in omega (arith, t.in_rows)

pub overflow_add-row : goal.overflow_add-row
overflow_add-row c = let t = turn c.requires c.min-start.result c.loop-event.event-index c.loop-event.older c.loop-event.rows (omega arith) c.loop-event.invariant (search rules) in omega (arith, t.few c.if-not-row.true)

pub returns-then-row-k : goal.returns-then-row-k
returns-then-row-k c = let t = turn c.requires c.min-start.result c.loop-event.event-index c.loop-event.older c.loop-event.rows (omega arith) c.loop-event.invariant (search rules) in (c.min-start.result + c.loop-event.event-index, (omega arith, t.full c.if-not-row.true c.if-row-k.true))

pub overflow_add-older : goal.overflow_add-older
overflow_add-older c = omega (arith, c.loop-event.invariant.0, count_le (free c.args.history.now c.args.rows.now) (c.min-start.result + c.loop-event.event-index), c.requires.within, c.requires.short)

pub loop-event-preserved : goal.loop-event-preserved
loop-event-preserved c = elim c.if-eq.branch [
  | then-eq+then-not-row+else-row-k w ↦ let t = turn c.requires c.min-start.result c.loop-event.event-index c.loop-event.older c.loop-event.rows (omega arith) c.loop-event.invariant (search rules) in go_as c.args.k c.args.history.now c.args.rows.now _ _ _ _ _ _ (omega arith) w.older-is w.rows-is (t.pass c.loop-event.auto.rows w.if-not-row.true w.if-row-k.false)
  | then-eq+else-not-row w ↦ let t = turn c.requires c.min-start.result c.loop-event.event-index c.loop-event.older c.loop-event.rows (omega arith) c.loop-event.invariant (search rules) in go_as c.args.k c.args.history.now c.args.rows.now _ _ _ _ _ _ (omega arith) w.older-is w.rows-is (t.leave w.if-not-row.false)
  | else-eq w ↦ go_as c.args.k c.args.history.now c.args.rows.now _ _ _ _ _ _ (omega arith) w.older-is w.rows-is (go_past c.requires c.min-start.result c.loop-event.event-index c.loop-event.older c.loop-event.rows (omega arith) c.loop-event.invariant (search rules))
]
