use Rattle.std.proofs.Common.{Err, vec_items, Result, sym, ap, ◌∙◌, subst}
use Rattle.std.proofs.lemmas.Result.{err_from_is_err_and}
use Rattle.stored.specs.Input.{Read}
use Rattle.stored.specs.declared.fault.Fault.{Fault}
use Rattle.stored.specs.declared.read.Stored.{Stored}
use Rattle.stored.proofs.Inputs.{bad_second, bad_events, holds}
use Rattle.stored.proofs.read.read.Goals as goal

pub returns-in_err-segments : goal.returns-in_err-segments
returns-in_err-segments c =
    let p = err_from_is_err_and c.from_residual-in_err-segments.result c.from_residual-in_err-segments.ensures.1 in
    let bad = bad_second c.args.input.now c.new-reader.result c.header_number.new.reader c.in_ok-k.k c.new-reader.ensures c.in_ok-k.ensures _ c.in_err-segments.ensures in
    subst (λ (r : Result Stored Fault). Read c.args.input.now r) (sym (p.1 ∙ ap (λ (f : Fault). Err f) p.2)) bad

pub returns-in_err-events : goal.returns-in_err-events
returns-in_err-events c =
    let p = err_from_is_err_and c.from_residual-in_err-events.result c.from_residual-in_err-events.ensures.1 in
    let bad = bad_events c.args.input.now c.new-reader.result c.header_number.new.reader c.in_ok-k.k c.new-reader.ensures c.in_ok-k.ensures
    c.header_number-2.new.reader c.in_ok-segments.segments c.in_ok-segments.ensures c.in_err-events.field-0.0 c.in_err-events.ensures in
    subst (λ (r : Result Stored Fault). Read c.args.input.now r) (sym (p.1 ∙ ap (λ (f : Fault). Err f) p.2)) bad

pub returns : goal.returns
returns c =
    holds c.args.input.now c.new-reader.result c.header_number.new.reader c.in_ok-k.k c.new-reader.ensures c.in_ok-k.ensures
    c.header_number-2.new.reader c.in_ok-segments.segments c.in_ok-segments.ensures (vec_items c.in_ok-events.events) c.in_ok-events.ensures
