use Rattle.std.proofs.Common.{◌≡◌, ◌+◌, List, refl, subst, ◌∙◌, arith, below_more}
use Rattle.std.proofs.lemmas.Bool.{both_ways}
use Rattle.history.specs.Faults.{Clean, Lowest}
use Rattle.history.specs.declared.event.Event.{Event}
use Rattle.judge.specs.Faults.{fault_number}
use Rattle.judge.specs.State.{ItemsAre}
use Rattle.judge.specs.declared.shape.Shape.{Shape}
use Rattle.judge.proofs.judge.run.Goals as goal

-- what holds of the history and the size that the judge has, holds of those that it was given
same : (P : Shape → List Event → Type 0) (s s' : Shape) (h h' : List Event) → s ≡ s' → h ≡ h' → P s h → P s' h'
same P s s' h h' e f p = subst (λ (x : Shape). P x h') e (subst (λ (x : List Event). P s x) f p)

pub loop-i-init : goal.loop-i-init
loop-i-init c = record {
  same_history = refl;
  same_shape = refl;
  items = record { rows_are = c.requires.blank; oldest_le = omega arith; none_older = λ q lt. absurd (omega arith); held_is = refl; few = λ a e. absurd (both_ways _ refl e) };
  flights = c.new-flights.ensures c.args.history.now;
  clean = λ j lt. absurd (omega arith);
}

pub returns-in-Some : goal.returns-in-Some
returns-in-Some c =
    let v = c.loop-i.invariant in
    (c.loop-i-test.true, (same (λ s h. Lowest s.k.number s.segments.number h (fault_number c.in-Some.fault) c.loop-i.i) _ _ _ _ v.same_shape v.same_history c.in-Some.ensures, v.clean))

pub loop-i-preserved : goal.loop-i-preserved
loop-i-preserved c =
    let v = c.loop-i.invariant in
    let g = c.in_default.ensures in
    record {
      same_history = g.same_history ∙ v.same_history;
      same_shape = g.same_shape ∙ v.same_shape;
      items = same (λ s h. ItemsAre s.k.number h (c.loop-i.i + 1) c.step.new.self.rows.now c.step.new.self.seen) _ _ _ _ v.same_shape v.same_history g.items;
      flights = c.note.ensures;
      clean = below_more _ _ v.clean (same (λ s h. Clean s.k.number s.segments.number h c.loop-i.i) _ _ _ _ v.same_shape v.same_history g.clean);
    }

pub returns : goal.returns
returns c = λ i lt. c.loop-i.invariant.clean i (omega arith)
