use Rattle.std.proofs.Common.{ℕ, ◌+◌, List, Ok, Option, sym, ap, ◌∙◌, subst, inr}
use Rattle.text.specs.Header.{BadFirst}
use Rattle.text.specs.Reading.{NextLine, Hands}
use Rattle.text.specs.Refusal.{refusal}
use Rattle.text.specs.declared.line.Line.{Line}
use Rattle.text.specs.declared.line.Reason.TheVariants.{Unreadable}
use Rattle.text.proofs.Headers.{no_header}
use Rattle.text.proofs.header.header_number.Goals as goal

pub returns-in_default-number : goal.returns-in_default-number
returns-in_default-number c =
    let s = c.args.reader.now in
    let line = c.in-Some.line in
    let key = c.args.key.now in
    let hands : Hands s line c.next_line.new.self = subst (λ (o : Option Line). NextLine s (Ok o) c.next_line.new.self) c.in-Some.is c.in_ok-line.ensures in
    let cut = c.in-Some-after.ensures in
    subst (λ (ls : List (List ℕ)). BadFirst c.args.at key (s.number + 1) ls c.bad-in_default-number.result) (sym hands.first) (inr (
      hands.short,
      inr (
        (c.in-Some-after.value.now, cut),
        (no_header key line.bytes.now c.in-Some-after.value.now cut c.in_default-number.ensures, c.bad-in_default-number.ensures ∙ ap (λ n. refusal n Unreadable) hands.numbered),
      ),
    ))
