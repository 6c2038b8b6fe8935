use Rattle.std.proofs.Common.{ℕ, List, subst}
use Rattle.scenario.proofs.Commands.{bare, same_behind}
use Rattle.scenario.proofs.command.put.Goals as goal

pub returns-in_err-thread : goal.returns-in_err-thread
returns-in_err-thread g c =
    rw c.from_residual.ensures (λ p T. c.in_err-thread.ensures p.0 T.behind (bare c.args.bytes.now p.0 (λ l. g.E.Element.written l p.1) T))

pub returns-in_err-read : goal.returns-in_err-read
returns-in_err-read g c =
    let a = c.in_ok-thread in
    rw c.from_residual-in_err-read.ensures (λ p T.
    let same = same_behind c.args.bytes.now a.rest.now p.0 a.thread (λ l. g.E.Element.written l p.1) T a.ensures in
    c.in_err-read.ensures p.1 (subst (λ (l : List ℕ). g.E.Element.written l p.1) same T.behind_is))
