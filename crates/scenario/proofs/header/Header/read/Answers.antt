use Rattle.std.proofs.Common.{Err, Result, sym, ap, ◌∙◌, subst, codes}
use Rattle.std.proofs.lemmas.Result.{err_from_is_err_and}
use Rattle.text.specs.declared.line.BadLine.{BadLine}
use Rattle.scenario.specs.Header.{HeaderRead}
use Rattle.scenario.specs.declared.header.Header.{Header}
use Rattle.scenario.proofs.Headers.{number_taken, bad_second, bad_third, bad_fourth}
use Rattle.scenario.proofs.header.Header.read.Goals as goal

pub returns-in_err-segments : goal.returns-in_err-segments
returns-in_err-segments c =
    let s = c.args.reader.now in
    let a = c.header_number.new.reader in
    let first = number_taken (codes "k=") s c.in_ok-k.k a c.in_ok-k.ensures in
    let p = err_from_is_err_and c.from_residual-in_err-segments.result c.from_residual-in_err-segments.ensures.1 in
    let bad = bad_second s a c.in_ok-k.k first c.in_err-segments.field-0.0 c.in_err-segments.ensures in
    subst (λ (r : Result Header BadLine). HeaderRead s r c.header_number-2.new.reader) (sym (p.1 ∙ ap (λ (b : BadLine). Err b) p.2)) bad

pub returns-in_err-threads : goal.returns-in_err-threads
returns-in_err-threads c =
    let s = c.args.reader.now in
    let a = c.header_number.new.reader in
    let b = c.header_number-2.new.reader in
    let first = number_taken (codes "k=") s c.in_ok-k.k a c.in_ok-k.ensures in
    let second = number_taken (codes "segments=") a c.in_ok-segments.segments b c.in_ok-segments.ensures in
    let p = err_from_is_err_and c.from_residual-in_err-threads.result c.from_residual-in_err-threads.ensures.1 in
    let bad = bad_third s a c.in_ok-k.k first b c.in_ok-segments.segments second c.in_err-threads.field-0.0 c.in_err-threads.ensures in
    subst (λ (r : Result Header BadLine). HeaderRead s r c.threads_due.new.reader) (sym (p.1 ∙ ap (λ (b : BadLine). Err b) p.2)) bad

pub returns-in_err-kind : goal.returns-in_err-kind
returns-in_err-kind c =
    let s = c.args.reader.now in
    let a = c.header_number.new.reader in
    let b = c.header_number-2.new.reader in
    let t = c.threads_due.new.reader in
    let first = number_taken (codes "k=") s c.in_ok-k.k a c.in_ok-k.ensures in
    let second = number_taken (codes "segments=") a c.in_ok-segments.segments b c.in_ok-segments.ensures in
    let p = err_from_is_err_and c.from_residual-in_err-kind.result c.from_residual-in_err-kind.ensures.1 in
    let bad = bad_fourth s a c.in_ok-k.k first b c.in_ok-segments.segments second t c.in_ok-threads.threads c.in_ok-threads.ensures c.in_err-kind.field-0.0 c.in_err-kind.ensures in
    subst (λ (r : Result Header BadLine). HeaderRead s r c.kind_due.new.reader) (sym (p.1 ∙ ap (λ (b : BadLine). Err b) p.2)) bad
