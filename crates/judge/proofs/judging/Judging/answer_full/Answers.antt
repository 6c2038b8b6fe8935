use Rattle.std.proofs.Common.{sym, refl, ◌∙◌, inl, inr}
use Rattle.judge.proofs.Ready.{ready}
use Rattle.judge.proofs.Others.{answer_place}
use Rattle.judge.proofs.Fulls.{full_1, full_5, full_clean, full_next}
use Rattle.judge.proofs.judging.Judging.answer_full.Goals as goal
use Rattle.judge.proofs.judging.Judging.answer_full.Goals.{else-not-crossed-via-then-not-crossed+else-self-segments, else-not-crossed-via-else-not-crossed}

pub overflow_sub-m : goal.overflow_sub-m
overflow_sub-m c = (answer_place (ready c.requires.knows) 4 (inr refl) c.requires.four).0

pub bounds-self-m : goal.bounds-self-m
bounds-self-m c = (answer_place (ready c.requires.knows) 4 (inr refl) c.requires.four).1

pub returns-then-self-m : goal.returns-then-self-m
returns-then-self-m c = full_1 (ready c.requires.knows) _ c.requires.four c.if-self-m.true

pub returns-then-self-segments : goal.returns-then-self-segments
returns-then-self-segments c = full_5 (ready c.requires.knows) _ c.requires.four c.if-self-m.false (sym c.requires.crossed ∙ c.if-not-crossed.true) (rw (← c.get-segments.ensures, ← c.get-k.ensures) c.if-self-segments.true)

pub bounds-self-m-2 : goal.bounds-self-m-2
bounds-self-m-2 c = (answer_place (ready c.requires.knows) 4 (inr refl) c.requires.four).1

pub returns : goal.returns
returns c = record {
  clean = elim c.else-not-crossed.branch [
    | else-not-crossed-via-then-not-crossed+else-self-segments w ↦ full_clean (ready c.requires.knows) _ c.requires.four c.if-self-m.false (inr (rw (← c.get-segments.ensures, ← c.get-k.ensures) w.if-self-segments.false))
    | else-not-crossed-via-else-not-crossed w ↦ full_clean (ready c.requires.knows) _ c.requires.four c.if-self-m.false (inl (sym c.requires.crossed ∙ w.if-not-crossed.false))
  ];
  same_history = refl;
  same_shape = refl;
  items = full_next (ready c.requires.knows) c.args.self.now.shape.segments.number c.requires.four;
}
