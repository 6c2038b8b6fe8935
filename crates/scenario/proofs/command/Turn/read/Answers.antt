use Rattle.std.proofs.Common.{ℕ, List, subst}
use Rattle.scenario.specs.Written.{Number32}
use Rattle.scenario.proofs.Commands.{bare, same_behind}
use Rattle.scenario.proofs.command.Turn.read.Goals as goal

pub returns-in_err-thread : goal.returns-in_err-thread
returns-in_err-thread c =
    rw c.from_residual.ensures (λ turn T. c.in_err-thread.ensures turn.thread T.behind (bare c.args.bytes.now turn.thread (λ l. Number32 l turn.start) T))

pub returns-in_err-start : goal.returns-in_err-start
returns-in_err-start c =
    let a = c.in_ok-thread in
    rw c.from_residual-in_err-start.ensures (λ turn T.
    let same = same_behind c.args.bytes.now a.rest.now turn.thread a.thread (λ l. Number32 l turn.start) T a.ensures in
    let start = subst (λ (l : List ℕ). Number32 l turn.start) same T.behind_is in
    c.in_err-start.ensures turn.start start.0 start.1)
