use Rattle.std.proofs.Common.{sym, arith}
use Rattle.std.proofs.lemmas.List.{length-take-le}
use Rattle.memory.proofs.Fronts.{first_empty}
use Rattle.memory.proofs.array.ArraySlotsSlots.clear.Goals as goal

pub returns : goal.returns
returns c =
    let s = c.args.self.now in
    first_empty s.count _ (omega arith) (sym (length-take-le s.count s.pairs (omega arith)))
