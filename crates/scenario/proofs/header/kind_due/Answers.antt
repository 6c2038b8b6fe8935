use Rattle.std.proofs.Common.{◌+◌, Err, Result, codes, sym, ap, ◌∙◌, subst}
use Rattle.std.proofs.lemmas.Result.{err_from_is_err_and}
use Rattle.text.specs.Reading.{left}
use Rattle.text.specs.declared.line.BadLine.{BadLine}
use Rattle.scenario.specs.Header.{KindWritten, DueRead}
use Rattle.scenario.specs.declared.header.Kind.{Kind}
use Rattle.scenario.proofs.Headers.{bad_other, unreadable}
use Rattle.scenario.proofs.header.kind_due.Goals as goal

pub returns-in_err-line : goal.returns-in_err-line
returns-in_err-line c =
    let s = c.args.reader.now in
    let t = c.value_due.new.reader in
    let p = err_from_is_err_and c.from_residual.result c.from_residual.ensures.1 in
    let bad = bad_other KindWritten 4 (codes "kind=") (s.number + 1) (left s) c.in_err-line.field-0.0 c.in_err-line.ensures in
    subst (λ (r : Result Kind BadLine). DueRead KindWritten 4 (codes "kind=") s r t) (sym (p.1 ∙ ap (λ (b : BadLine). Err b) p.2)) bad

pub returns-in_default : goal.returns-in_default
returns-in_default c =
    let due = c.in_ok-line.ensures in
    unreadable KindWritten (codes "kind=") c.args.reader.now c.value_due.new.reader c.in_ok-line.line c.in_ok-line.value.now due.0 due.1 4 c.bad.result c.in_default.ensures c.bad.ensures
