use Rattle.std.proofs.Common.{◌≡◌, set, ap, ◌∙◌, arith, ◌++◌, [], min, length, take, drop, replicate}
use Rattle.std.proofs.lemmas.List.{append_assoc, length-take, drop_all}
use Rattle.history.proofs.Filled.{filled_more, filled_all}
use Rattle.history.proofs.rows.clear.Goals as goal

pub loop-row-preserved : goal.loop-row-preserved
loop-row-preserved g c =
    ap (λ xs. set xs c.loop-row.row-index c.args.blank) c.loop-row.invariant
    ∙ filled_more (take c.min-used.result c.args.rows.now) c.loop-row.row-index c.args.blank (omega arith)

pub returns : goal.returns
returns g c =
    let e : c.loop-row.row-index ≡ min (length c.args.rows.now) 65536 = omega (arith, length-take c.min-used.result c.args.rows.now) in
    ap (λ xs. xs ++ drop c.min-used.result c.args.rows.now) (c.loop-row.invariant ∙ ap (λ xs. replicate c.loop-row.row-index c.args.blank ++ xs) (drop_all c.loop-row.row-index (take c.min-used.result c.args.rows.now) (omega arith)))
    ∙ append_assoc (replicate c.loop-row.row-index c.args.blank) [] (drop c.min-used.result c.args.rows.now)
    ∙ ap (λ n. replicate c.loop-row.row-index c.args.blank ++ drop n c.args.rows.now) (let q : c.min-used.result ≡ c.loop-row.row-index = omega (arith, length-take c.min-used.result c.args.rows.now) in q)
    ∙ filled_all c.args.rows.now c.loop-row.row-index c.args.blank e
