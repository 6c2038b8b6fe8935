use Rattle.judge.proofs.Decide.{table}
use Rattle.judge.proofs.theorems.worked_rows_stand.Goals as goal

pub returns : goal.returns
returns c = table
