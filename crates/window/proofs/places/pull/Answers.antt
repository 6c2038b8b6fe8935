use Rattle.std.proofs.Common.{◌∙◌}
use Rattle.window.proofs.Takes.{closed_up}
use Rattle.window.proofs.places.pull.Goals as goal

pub returns : goal.returns
returns g c = c.copy_within.ensures.after ∙ closed_up c.args.used.now c.args.at c.requires
