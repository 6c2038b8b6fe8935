use Rattle.std.proofs.Common.{refl}
use Rattle.window.specs.Places.{content}
use Rattle.replay.proofs.Takes.{plays_take, plays_nothing}
use Rattle.replay.proofs.play.play.Goals as goal

pub returns-in-Some : goal.returns-in-Some
returns-in-Some c =
    let found = c.in-Some.ensures in
    plays_take c.args.event.kind c.in-HandedOut.is c.args.event.item (content c.args.waiting.now) c.args.waiting.now.at_least_1
    c.in-Some.i found.0 found.1 (content c.take_at.new.self) c.take_at.result c.take_at.ensures c.is_ok.result c.is_ok.ensures.value

pub returns-in-None : goal.returns-in-None
returns-in-None c = (plays_nothing c.args.event.kind c.in-HandedOut.is c.args.event.item (content c.args.waiting.now) c.args.waiting.now.at_least_1 c.in-None.ensures, refl)
