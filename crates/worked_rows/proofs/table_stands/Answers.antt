use Rattle.std.proofs.Common.{refl}
use Rattle.worked_rows.proofs.table_stands.Goals as goal

pub returns : goal.returns
returns c =
    record {
      fresh_take = record { goes_on = refl; answers = refl };
      fresh_put = record { goes_on = refl; answers = refl };
      second_put = record { goes_on = refl; answers = refl };
      third_put = record { goes_on = refl; answers = refl };
      judged = c.worked_rows_stand.ensures;
    }
