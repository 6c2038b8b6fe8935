use Rattle.std.proofs.Common.{◌≡◌, ℕ, ◌≤◌, List, ◌++◌, length, take, drop, replicate, ap, ◌∙◌, arith}
use Rattle.std.proofs.lemmas.List.{length-append, length-drop, length-take-le}
use Rattle.std.proofs.lemmas.Slice.{drop-append-drop}
use Rattle.history.specs.Events.{is}
use Rattle.history.specs.Limits.{most, rows_used, cleared}
use Rattle.history.proofs.Positions.{count_le}
use Rattle.judge.specs.Rows.{blank}
use Rattle.judge.specs.declared.row.Row.{Row}
use Rattle.judge.proofs.judge.judge.Goals as goal

-- the first n of the rows were written to
module _ (rows part : List Row) (n : ℕ) (long : length part ≡ n) where
  in_front : n ≤ length rows → length (take n (part ++ drop n rows)) ≡ n
  in_front le = length-take-le n (part ++ drop n rows) (omega (arith, long, length-append part (drop n rows)))

  as_long : n ≤ length rows → length (part ++ drop n rows) ≡ length rows
  as_long le = omega (arith, long, length-append part (drop n rows), length-drop n rows)

  -- blanking the rows leaves nothing of that
  cleared_after : n ≤ rows_used (length rows) → cleared blank (part ++ drop n rows) ≡ cleared blank rows
  cleared_after le =
      ap (λ m. replicate (rows_used m) blank ++ drop most (part ++ drop n rows)) (as_long (omega arith))
      ∙ ap (λ xs. replicate (rows_used (length rows)) blank ++ xs) (drop-append-drop n rows part most (omega arith) long)

pub run-verdict-requires-clause-fit : goal.run-verdict-requires-clause-fit
run-verdict-requires-clause-fit c =
    let h = c.args.history.now in
    let rows = c.args.rows.now in
    let n = c.min-used.result in
    let few : n ≤ length rows = omega (arith, c.min-used.ensures, c.in_ok-asked.ensures.1) in
    let blanked = c.clear.auto.rows ∙ length-take-le n rows few in
    omega (arith, in_front rows c.clear.new.rows n blanked few, count_le (is 1 h) (length h), c.in_ok-asked.ensures.0.1.1.0, c.in_ok-asked.ensures.1, c.min-used.ensures)

pub returns-clause-rows : goal.returns-clause-rows
returns-clause-rows c =
    let rows = c.args.rows.now in
    let n = c.min-used.result in
    let few : n ≤ rows_used (length rows) = omega (arith, c.min-used.ensures, c.in_ok-asked.ensures.1) in
    let blanked = c.clear.auto.rows ∙ length-take-le n rows (omega arith) in
    let worked = c.run-verdict.auto.rows ∙ in_front rows c.clear.new.rows n blanked (omega arith) in
    c.clear-2.ensures
    ∙ cleared_after (c.clear.new.rows ++ drop n rows) c.run-verdict.new.rows n worked (omega (arith, few, as_long rows c.clear.new.rows n blanked (omega arith)))
    ∙ cleared_after rows c.clear.new.rows n blanked few
