use Rattle.std.proofs.Common.{rules}
use Rattle.text.proofs.LineLaws.{first_to_ten, first_is_all}
use Rattle.text.proofs.reader.reading.first_line.Goals as goal

pub returns-in-Some : goal.returns-in-Some
returns-in-Some c = search (rules, first_to_ten, c.in-Some.ensures)

pub returns-in-None : goal.returns-in-None
returns-in-None c = search (rules, first_is_all, c.in-None.ensures)
