use Rattle.std.proofs.Common.{ap, ◌∙◌, arith}
use Rattle.memory.specs.Words.{word_pairs}
use Rattle.memory.proofs.WordSlots.{swapped_slots}
use Rattle.memory.proofs.word.WordSlotsSlots.swap.Goals as goal

pub returns-clause-after : goal.returns-clause-after
returns-clause-after c =
    ap word_pairs c.swap_word.ensures.after ∙ swapped_slots c.args.self.now.words.now c.args.index c.args.expected c.args.new (omega arith)
