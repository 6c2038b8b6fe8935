use Rattle.std.proofs.Common.{rules}
use borrow.Author.Tests.{tests}
use Rattle.std.proofs.lemmas.Iterator.{YieldsList-from_slice, IsFirst-from_position}
use Rattle.std.proofs.lemmas.Iterator.Adapters.{serves_from_places}
use Rattle.history.specs.declared.event.Event.{Event}
use Rattle.judge.proofs.Looking.{Held, NotHeld, look_place, look_found, look_none}
use Rattle.judge.proofs.judging.Judging.first_held.Goals as goal

pub position-held-requires-clause-callable : goal.position-held-requires-clause-callable
position-held-requires-clause-callable c = serves_from_places (YieldsList-from_slice _ c.iter.ensures.rest) (λ x q k. search rules) (λ x k lt e. let p = look_place c.requires k x.now lt e in search rules)

pub returns-in-Some : goal.returns-in-Some
returns-in-Some c =
    let f = IsFirst-from_position {B = Event} _ _ _ (Held c.args.self.now.rows.now) (NotHeld c.args.self.now.rows.now) c.in-Some.ensures.ran (YieldsList-from_slice _ c.iter.ensures.rest) (λ x q k. search (rules, tests)) (λ x q k. search (rules, tests)) in
    look_found c.requires c.in-Some.ahead f.0 f.1 f.2

pub returns-in-None : goal.returns-in-None
returns-in-None c = look_none c.requires
    (IsFirst-from_position {B = Event} _ _ _ (Held c.args.self.now.rows.now) (NotHeld c.args.self.now.rows.now) c.in-None.ensures.ran (YieldsList-from_slice _ c.iter.ensures.rest) (λ x q k. search (rules, tests)) (λ x q k. search (rules, tests)))
