-- Where a part cannot be read, no quote is written: it would have that part.
use Rattle.std.proofs.Common.{ℕ, List, sym, subst}
use Rattle.text.specs.Numeral.{Numeral}
use Rattle.text.proofs.Parts.{not_lacking}
use Rattle.scenario.specs.Quote.{side_word}
use Rattle.scenario.specs.Written.{Signed}
use Rattle.scenario.proofs.Quotes.{one_instrument, one_side}
use Rattle.scenario.proofs.quote.Quote.read.Goals as goal

pub returns-in_err-instrument : goal.returns-in_err-instrument
returns-in_err-instrument c = rw c.from_residual.ensures (λ q W. not_lacking 58 c.args.bytes.now W.instrument _ W.cut c.in_err-instrument.ensures)

pub returns-in_err-side : goal.returns-in_err-side
returns-in_err-side c =
    let a = c.in_ok-instrument in
    rw c.from_residual-in_err-side.ensures (λ q W.
    not_lacking 58 a.rest.now (side_word q.side) W.quantity (sym (one_instrument c.args.bytes.now a.instrument.now a.rest.now a.ensures.0 a.ensures.1 q W).1) c.in_err-side.ensures)

pub returns-in_err-instrument-2 : goal.returns-in_err-instrument-2
returns-in_err-instrument-2 c =
    let a = c.in_ok-instrument in
    rw c.from_residual-in_err-instrument-2.ensures (λ q W.
    let same = one_instrument c.args.bytes.now a.instrument.now a.rest.now a.ensures.0 a.ensures.1 q W in
    c.in_err-instrument-2.ensures q.instrument (subst (λ (l : List ℕ). Numeral l q.instrument) same.0 W.instrument_is.0) W.instrument_is.1)

pub returns-in_err-side-2 : goal.returns-in_err-side-2
returns-in_err-side-2 c =
    let a = c.in_ok-instrument in
    let b = c.in_ok-side in
    rw c.from_residual-in_err-side-2.ensures (λ q W.
    let same = one_side c.args.bytes.now a.instrument.now a.rest.now a.ensures.0 a.ensures.1 q W b.side.now b.quantity.now b.ensures.0 b.ensures.1 in
    c.in_err-side-2.ensures q.side (sym same.0))

pub returns-in_err-quantity : goal.returns-in_err-quantity
returns-in_err-quantity c =
    let a = c.in_ok-instrument in
    let b = c.in_ok-side in
    rw c.from_residual-in_err-quantity.ensures (λ q W.
    let same = one_side c.args.bytes.now a.instrument.now a.rest.now a.ensures.0 a.ensures.1 q W b.side.now b.quantity.now b.ensures.0 b.ensures.1 in
    c.in_err-quantity.ensures q.quantity (subst (λ (l : List ℕ). Signed l q.quantity.number) same.1 W.quantity_is))
