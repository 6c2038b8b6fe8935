use Rattle.memory.proofs.Follows.{consequences}
use Rattle.memory.proofs.word.Marked+WordSlots.new.Goals as goal

pub returns-clause-laws : goal.returns-clause-laws
returns-clause-laws c = consequences
