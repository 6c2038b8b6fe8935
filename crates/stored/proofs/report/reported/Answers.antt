-- Each way out of a report, from what the judge and the replay ensure.
use Rattle.std.proofs.Common.{length, Ok, Err, vec_items, Result, sym, ap, ◌∙◌, subst, arith}
use Rattle.std.proofs.lemmas.Result.{err_from_is_err_and}
use Rattle.history.specs.Calls.{puts_before}
use Rattle.stored.specs.Report.{Reported}
use Rattle.stored.specs.declared.fault.Fault.{Fault}
use Rattle.stored.specs.declared.report.Report.{Report}
use Rattle.stored.proofs.Reports.{judged_enough, given_at, declined, not_declined, tale}
use Rattle.stored.proofs.report.reported.Goals as goal

pub returns-in_err-verdict : goal.returns-in_err-verdict
returns-in_err-verdict c =
    let p = err_from_is_err_and c.from_residual-in_err-verdict.result c.from_residual-in_err-verdict.ensures.1 in
    let s = c.in_ok-stored.stored in
    let refusal = c.in_err-verdict.field-0.0 in
    let judged = judged_enough s.k s.segments c.deref-2.result.now (vec_items s.events) (length c.deref_mut.result.now) (Err refusal) c.deref-2.ensures.value (omega (arith, c.in_ok-rows.ensures.len, c.deref_mut.ensures.len, c.puts_in.ensures, ap (λ l. puts_before l (length l)) c.deref.ensures.value)) c.in_err-verdict.ensures.answer in
    subst (λ (r : Result Report Fault). Reported c.args.input.now r) (sym (p.1 ∙ ap (λ (f : Fault). Err f) p.2))
    (declined c.args.input.now s.k s.segments (vec_items s.events) c.in_ok-stored.ensures refusal judged)

pub returns-in_err-places : goal.returns-in_err-places
returns-in_err-places c =
    let p = err_from_is_err_and c.from_residual-in_err-places.result c.from_residual-in_err-places.ensures.1 in
    subst (λ (r : Result Report Fault). Reported c.args.input.now r) (sym (p.1 ∙ ap (λ (f : Fault). Err f) p.2)) tt

pub returns-in_err-replay : goal.returns-in_err-replay
returns-in_err-replay c =
    let s = c.in_ok-stored.stored in
    let h = vec_items s.events in
    let judged = judged_enough s.k s.segments c.deref-2.result.now h (length c.deref_mut.result.now) (Ok c.in_ok-verdict.verdict) c.deref-2.ensures.value (omega (arith, c.in_ok-rows.ensures.len, c.deref_mut.ensures.len, c.puts_in.ensures, ap (λ l. puts_before l (length l)) c.deref.ensures.value)) c.in_ok-verdict.ensures.answer in
    let given = given_at s.k c.deref-3.result.now h (length c.deref_mut-2.result.now) 65536 (Err c.in_err-replay.field-0.0) c.deref-3.ensures.value (omega (arith, c.in_ok-places.ensures.len, c.deref_mut-2.ensures.len)) c.in_err-replay.ensures in
    absurd (not_declined c.args.input.now s.k s.segments h c.in_ok-stored.ensures c.in_ok-verdict.verdict judged c.in_err-replay.field-0.0 given)

pub returns : goal.returns
returns c =
    let s = c.in_ok-stored.stored in
    let h = vec_items s.events in
    let a = c.in_ok-replay.replay in
    let judged = judged_enough s.k s.segments c.deref-2.result.now h (length c.deref_mut.result.now) (Ok c.in_ok-verdict.verdict) c.deref-2.ensures.value (omega (arith, c.in_ok-rows.ensures.len, c.deref_mut.ensures.len, c.puts_in.ensures, ap (λ l. puts_before l (length l)) c.deref.ensures.value)) c.in_ok-verdict.ensures.answer in
    let given = given_at s.k c.deref-3.result.now h (length c.deref_mut-2.result.now) 65536 (Ok a) c.deref-3.ensures.value (omega (arith, c.in_ok-places.ensures.len, c.deref_mut-2.ensures.len)) c.in_ok-replay.ensures in
    tale c.args.input.now s.k s.segments h c.in_ok-stored.ensures c.in_ok-verdict.verdict judged a given c.len.result (c.len.ensures ∙ s.events.ok.0)
