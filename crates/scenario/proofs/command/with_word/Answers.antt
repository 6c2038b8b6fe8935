use Rattle.std.proofs.Common.{◌≡◌, codes, sym, arith, rules}
use Rattle.std.proofs.lemmas.Slice.Eq.{text_from_reads}
use Rattle.scenario.proofs.Commands.{no_put}
use Rattle.scenario.proofs.command.with_word.Goals as goal

pub returns-in_err-thread-in-put : goal.returns-in_err-thread-in-put
returns-in_err-thread-in-put g c =
    let e : c.args.name.now ≡ codes "put" = text_from_reads c.args.name.now (codes "put") (omega arith) (search rules) in
    rw c.from_residual.ensures (no_put g.E.Element.written c.args.bytes.now c.args.name.now e c.in_err-thread-in-put.ensures)

pub returns-in_ok-number-in-collect : goal.returns-in_ok-number-in-collect
returns-in_ok-number-in-collect g c =
    let e : c.args.name.now ≡ codes "collect" = text_from_reads c.args.name.now (codes "collect") (omega arith) (search rules) in
    (sym e, c.in_ok-number-in-collect.ensures)
