use Rattle.std.proofs.Common.{◌≡◌, ℕ, List, subst}
use Rattle.text.specs.Numeral.{Numeral}
use Rattle.text.proofs.Parts.{not_lacking}
use Rattle.scenario.proofs.Commands.{one_thread}
use Rattle.scenario.proofs.command.thread_first.Goals as goal

pub returns-in_err-thread : goal.returns-in_err-thread
returns-in_err-thread c = rw c.from_residual.ensures (λ t r T. not_lacking 58 c.args.bytes.now T.before T.behind T.cut c.in_err-thread.ensures)

pub returns-in_err-number : goal.returns-in_err-number
returns-in_err-number c =
    let a = c.in_ok-thread in
    rw c.from_residual-in_err-number.ensures (λ t r T.
    let same = one_thread c.args.bytes.now a.thread.now a.rest.now a.ensures.0 a.ensures.1 t (λ l. l ≡ r) T in
    c.in_err-number.ensures t (subst (λ (l : List ℕ). Numeral l t) same.0 T.thread_is.0) T.thread_is.1)
