use Rattle.text.proofs.Parts.{not_lacking}
use Rattle.scenario.specs.Command.{word}
use Rattle.scenario.proofs.Commands.{read_whole}
use Rattle.scenario.proofs.command.written.Goals as goal

pub returns-in_err-name : goal.returns-in_err-name
returns-in_err-name g c = rw c.from_residual.ensures (λ d W. not_lacking 61 c.args.bytes.now (word d) W.0 W.1.0 c.in_err-name.ensures)

pub returns : goal.returns
returns g c =
    let a = c.in_ok-name in
    read_whole g.E.Element.written c.args.bytes.now a.name.now a.rest.now a.ensures.0 a.ensures.1 c.with_word.result c.with_word.ensures
