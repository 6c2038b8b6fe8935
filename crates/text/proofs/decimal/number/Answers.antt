use Rattle.std.proofs.Common.{sym, subst}
use Rattle.text.specs.Numeral.{Reads}
use Rattle.text.proofs.Values.{too_large}
use Rattle.text.proofs.decimal.number.Goals as goal

pub returns-in_err-n : goal.returns-in_err-n
returns-in_err-n c =
    subst (Reads c.args.bytes.now) (sym c.from_residual.ensures)
    (λ m. too_large c.loop-b.n m c.args.bytes.now c.loop-b.b-index c.loop-b-test.true c.loop-b.invariant.2 c.in_err-n.ensures)
