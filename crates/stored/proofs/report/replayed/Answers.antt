use Rattle.std.proofs.Common.{length}
use Rattle.stored.proofs.Reports.{overlap_found}
use Rattle.stored.proofs.report.replayed.Goals as goal

pub returns-in-Err-Overlap : goal.returns-in-Err-Overlap
returns-in-Err-Overlap c =
    overlap_found c.args.k (length c.args.rows.now) c.args.history.now (rw c.in-Err-Overlap.field-0-is at c.in-Err-Overlap.ensures.answer).0
