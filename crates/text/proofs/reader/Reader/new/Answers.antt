use Rattle.std.proofs.Common.{rules}
use Rattle.text.proofs.LineLaws.{lines_stand, lines_only}
use Rattle.text.proofs.reader.Reader.new.Goals as goal

pub returns : goal.returns
returns c = search (rules, lines_stand, lines_only)
