use Rattle.std.proofs.Common.{rules}
use Rattle.std.proofs.lemmas.Slice.Eq.{strip_prefix_is}
use Rattle.text.proofs.line.Line.after.Goals as goal
use Rattle.std.proofs.lemmas.Bool.Decides.{Decides-eqb}

pub returns : goal.returns
returns c = search (rules, strip_prefix_is Decides-eqb c.args.self.now.bytes.now c.args.key.now c.strip_prefix.result)
