use Rattle.std.proofs.Common.{◌-◌, refl, arith}
use Rattle.history.proofs.Faults.{lowest1}
use Rattle.judge.proofs.Ready.{ready, fresh}
use Rattle.judge.proofs.Known.{past_rows, unbegun, was_refused, was_handed}
use Rattle.judge.proofs.HandOut.{walk, shows2, held_fewer, held_as_before, shows3, goes_on}
use Rattle.judge.proofs.judging.Judging.hand_out.Goals as goal
use Rattle.judge.proofs.judging.Judging.hand_out.Goals.{then-row-via-then-row, then-row-via-else-row+then-row-2}

pub returns-then-m-self : goal.returns-then-m-self
returns-then-m-self c = lowest1 _ _ _ _ (past_rows (ready c.requires.knows) c.requires.five c.if-m-self.true)

pub returns-in_default : goal.returns-in_default
returns-in_default c = lowest1 _ _ _ _ (unbegun (ready c.requires.knows) c.requires.five c.if-m-self.false c.in_default.is)

pub returns-then-row : goal.returns-then-row
returns-then-row c = lowest1 _ _ _ _ (elim c.then-row.branch [
  | then-row-via-then-row w ↦ was_refused (ready c.requires.knows) c.requires.five c.if-m-self.false w.if-row.true
  | then-row-via-else-row+then-row-2 w ↦ was_handed (ready c.requires.knows) c.requires.five c.if-m-self.false w.if-row-2.true
])

pub pass-requires : goal.pass-requires
pass-requires c =
    let f = fresh c.requires.knows c.requires.five c.if-m-self.false c.in-Some.is c.if-row.false c.if-row-2.false in
    rw c.get-k.ensures (walk f c.first_held-self.result c.first_held-self.ensures.le c.first_held-self.ensures.none_older)

pub returns-in_default-pass : goal.returns-in_default-pass
returns-in_default-pass c =
    let f = fresh c.requires.knows c.requires.five c.if-m-self.false c.in-Some.is c.if-row.false c.if-row-2.false in
    shows2 f _ _ c.pass.new.rows c.get-k.ensures c.in_default-pass.ensures

pub returns-then-older-k : goal.returns-then-older-k
returns-then-older-k c =
    let f = fresh c.requires.knows c.requires.five c.if-m-self.false c.in-Some.is c.if-row.false c.if-row-2.false in
    shows3 f c.get-k.result c.pass.new.rows c.in-Some-pass.older c.get-k.ensures c.in-Some-pass.ensures _ (omega (arith, c.get-k.ensures, c.if-older-k.true))

pub overflow_sub-self : goal.overflow_sub-self
overflow_sub-self c =
    let f = fresh c.requires.knows c.requires.five c.if-m-self.false c.in-Some.is c.if-row.false c.if-row-2.false in
    omega (arith, held_fewer f c.if-row-3.true)

pub returns-then-row-3 : goal.returns-then-row-3
returns-then-row-3 c =
    let f = fresh c.requires.knows c.requires.five c.if-m-self.false c.in-Some.is c.if-row.false c.if-row-2.false in
    let g = goes_on f c.get-k.result c.pass.new.rows c.in-Some-pass.older c.get-k.ensures c.in-Some-pass.ensures c.args.self.now.shape.segments.number record { oldest = c.first_held-self.result; held = c.args.self.now.seen.held - 1 }
    (omega (arith, c.get-k.ensures, c.if-older-k.false)) c.pass.auto.rows c.first_held-self.ensures.le c.first_held-self.ensures.none_older (omega (arith, held_fewer f c.if-row-3.true)) in
    record { clean = g.0; same_history = refl; same_shape = refl; items = g.1 }

pub returns-else-row-3 : goal.returns-else-row-3
returns-else-row-3 c =
    let f = fresh c.requires.knows c.requires.five c.if-m-self.false c.in-Some.is c.if-row.false c.if-row-2.false in
    let g = goes_on f c.get-k.result c.pass.new.rows c.in-Some-pass.older c.get-k.ensures c.in-Some-pass.ensures c.args.self.now.shape.segments.number record { oldest = c.first_held-self.result; held = c.args.self.now.seen.held }
    (omega (arith, c.get-k.ensures, c.if-older-k.false)) c.pass.auto.rows c.first_held-self.ensures.le c.first_held-self.ensures.none_older (held_as_before f c.if-row-3.false) in
    record { clean = g.0; same_history = refl; same_shape = refl; items = g.1 }
