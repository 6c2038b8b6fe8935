use Rattle.std.proofs.Common.{ℕ, length, sym, ap, subst}
use Rattle.window.specs.Places.{content}
use Rattle.replay.specs.Playing.{Ready, Playing, Fed}
use Rattle.replay.proofs.Plays.{playing_at_first, play_on, play_stops}
use Rattle.replay.proofs.replay.run.Goals as goal

pub loop-i-init : goal.loop-i-init
loop-i-init c =
    let k = c.args.limit.k.number in
    let made = c.new-waiting.ensures.made in
    let R = subst (Ready k c.args.history.now) (ap length (sym made.1.0)) c.requires in
    playing_at_first k c.args.history.now (content c.new-waiting.result) R made.0 made.1.1

pub feed-fed-requires-clause-playing : goal.feed-fed-requires-clause-playing
feed-fed-requires-clause-playing c =
    subst (λ (n : ℕ). Playing n c.args.history.now c.loop-i.i c.loop-i.fed (content c.loop-i.waiting)) (sym c.loop-i.invariant.k_is) c.loop-i.invariant

pub returns-then-not-play : goal.returns-then-not-play
returns-then-not-play c =
    let k = c.args.limit.k.number in
    let h = c.args.history.now in
    let i = c.loop-i.i in
    let front = content c.feed-fed.new.waiting in
    let F = subst (λ (n : ℕ). Fed n h i c.feed-fed.result front) c.loop-i.invariant.k_is c.feed-fed.ensures in
    (c.loop-i-test.true, (F.playing.run, play_stops k h i c.feed-fed.result front c.loop-i-test.true F (content c.play.new.waiting) c.if-not-play.ensures))

pub loop-i-preserved : goal.loop-i-preserved
loop-i-preserved c =
    let k = c.args.limit.k.number in
    let h = c.args.history.now in
    let i = c.loop-i.i in
    let front = content c.feed-fed.new.waiting in
    let F = subst (λ (n : ℕ). Fed n h i c.feed-fed.result front) c.loop-i.invariant.k_is c.feed-fed.ensures in
    play_on k h i c.feed-fed.result front c.loop-i-test.true F (content c.play.new.waiting) c.if-not-play.ensures
