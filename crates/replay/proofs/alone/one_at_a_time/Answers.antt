use Rattle.std.proofs.Common.{◌≡◌, true, false, sym, refl, ◌∙◌, subst}
use Rattle.std.proofs.lemmas.Bool.{both_ways}
use Rattle.history.specs.Events.{event_at}
use Rattle.history.proofs.Flights.{begins}
use Rattle.replay.proofs.OneAtATime.{Alone, begins_from, answers_from, alone_more, begin_overlaps}
use Rattle.replay.proofs.alone.one_at_a_time.Goals as goal
use Rattle.replay.proofs.alone.one_at_a_time.Goals.{in-PutBegun, in_default, else-busy-via-then-busy+else-begins, else-busy-via-else-busy}

pub returns-then-begins : goal.returns-then-begins
returns-then-begins c =
    let h = c.args.history.now in
    let i = c.loop-event.event-index in
    let s = subst (Alone h i) c.if-busy.true c.loop-event.invariant in
    let b : begins (event_at h i).kind ≡ true = elim c.match-matches.branch [
      | in-PutBegun w ↦ begins_from (event_at h i).kind w.in-PutBegun.is
      | in_default w ↦ absurd (both_ways _ w.matches-is c.if-begins.true)
    ] in (
      λ e. absurd (both_ways false refl e),
      λ apart. absurd (begin_overlaps h i (c.requires i c.loop-event-test.true) c.loop-event-test.true b s apart),
    )

pub loop-event-preserved : goal.loop-event-preserved
loop-event-preserved c =
    let h = c.args.history.now in
    let i = c.loop-event.event-index in
    let b : begins (event_at h i).kind ≡ c.match-matches.matches = elim c.match-matches.branch [
      | in-PutBegun w ↦ begins_from (event_at h i).kind w.in-PutBegun.is ∙ sym w.matches-is
      | in_default w ↦ answers_from (event_at h i).kind w.in_default.not-PutBegun w.in_default.not-TakeBegun ∙ sym w.matches-is
    ] in
    let f : c.match-matches.matches ≡ true → c.loop-event.busy ≡ false = λ e. elim c.else-busy.branch [
      | else-busy-via-then-busy+else-begins w ↦ absurd (both_ways _ w.if-begins.false e)
      | else-busy-via-else-busy w ↦ w.if-busy.false
    ] in
    alone_more h i (c.requires i c.loop-event-test.true) c.loop-event.busy c.match-matches.matches b f c.loop-event.invariant
