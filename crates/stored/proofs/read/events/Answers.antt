use Rattle.std.proofs.Common.{List, Ok, vec_items, Option, sym, subst, arith}
use Rattle.history.specs.declared.event.Event.{Event}
use Rattle.text.specs.Reading.{left, NextLine, Hands}
use Rattle.text.specs.declared.line.Line.{Line}
use Rattle.stored.proofs.SoFar.{SoFar, so_far_more}
use Rattle.stored.proofs.read.events.Goals as goal

pub loop-reader-preserved : goal.loop-reader-preserved
loop-reader-preserved c =
    let from = c.args.reader.now in
    let s = c.loop-reader.reader in
    let t = c.next_line.new.self in
    let line = c.in-Some.line in
    let pushed = c.in_ok-push.ensures in
    let hands : Hands s line t = subst (λ (o : Option Line). NextLine s (Ok o) t) c.in-Some.is c.in_ok-line.ensures in (
      subst (λ (es : List Event). SoFar (left from) from.number t es) (sym pushed.items)
          (so_far_more (left from) from.number s (vec_items c.loop-reader.events) c.loop-reader.invariant.0 line t c.in_ok-e.e hands c.in_ok-e.ensures),
      omega (arith, pushed.len, c.len.ensures, c.loop-reader-test.true),
    )
