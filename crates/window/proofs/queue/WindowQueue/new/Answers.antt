use Rattle.window.proofs.Lines.{follows_specification}
use Rattle.window.proofs.queue.WindowQueue.new.Goals as goal

pub returns-clause-law : goal.returns-clause-law
returns-clause-law g c = follows_specification _ _
