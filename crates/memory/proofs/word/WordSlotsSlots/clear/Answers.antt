use Rattle.std.proofs.Common.{ap, ◌∙◌}
use Rattle.memory.specs.Words.{word_pairs}
use Rattle.memory.proofs.WordSlots.{wiped_slots}
use Rattle.memory.proofs.word.WordSlotsSlots.clear.Goals as goal

pub returns : goal.returns
returns c = ap word_pairs c.wipe.ensures ∙ wiped_slots c.args.self.now.words.now
