use Rattle.std.proofs.Common.{ℕ, List, subst}
use Rattle.text.specs.Numeral.{Numeral}
use Rattle.text.proofs.Parts.{not_lacking}
use Rattle.stored.proofs.Cuts.{one_pair}
use Rattle.stored.proofs.event_line.pair.Goals as goal

pub returns-in_default : goal.returns-in_default
returns-in_default c = (λ t x p. not_lacking 58 c.args.bytes.now p.before p.behind p.cut c.in_default.ensures, c.bad.ensures)

pub returns-in_default-number : goal.returns-in_default-number
returns-in_default-number c =
    let s = c.in-Some.ensures in (
      λ t x p.
          let same = one_pair c.args.bytes.now c.in-Some.before.now c.in-Some.behind.now s.0 s.1 t x p in
          c.in_default-number.ensures t (subst (λ (l : List ℕ). Numeral l t) same.0 p.thread_is.0) p.thread_is.1,
      c.bad-in_default-number.ensures,
    )

pub returns-in_default-number-2 : goal.returns-in_default-number-2
returns-in_default-number-2 c =
    let s = c.in-Some.ensures in (
      λ t x p.
          let same = one_pair c.args.bytes.now c.in-Some.before.now c.in-Some.behind.now s.0 s.1 t x p in
          c.in_default-number-2.ensures x (subst (λ (l : List ℕ). Numeral l x) same.1 p.item_is.0) p.item_is.1,
      c.bad-in_default-number-2.ensures,
    )
