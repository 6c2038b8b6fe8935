use Rattle.std.proofs.Common.{refl, ap, arith}
use Rattle.history.specs.Tables.{mark}
use Rattle.judge.proofs.Ready.{ready}
use Rattle.judge.proofs.Empties.{empty_4, empty_clean, empty_next}
use Rattle.judge.proofs.judging.Judging.answer_empty.Goals as goal

pub returns-in-Some : goal.returns-in-Some
returns-in-Some c = empty_4 (ready c.requires.knows) _ c.requires.six _ c.first_held-self.ensures (omega (arith, ap mark c.in-Some.is, c.requires.last, c.if-self-begun.true))

pub returns-in_default : goal.returns-in_default
returns-in_default c = record {
  clean = empty_clean (ready c.requires.knows) _ c.requires.six _ c.first_held-self.ensures (omega (arith, ap mark c.in-Some.is, c.requires.last, c.if-self-begun.false));
  same_history = refl;
  same_shape = refl;
  items = empty_next (ready c.requires.knows) c.args.self.now.shape.segments.number c.requires.six _ c.first_held-self.ensures _ refl refl;
}
