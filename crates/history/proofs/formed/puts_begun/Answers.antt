use Rattle.std.proofs.Common.{rules, ◌+◌, get_or, None, sym, refl, ap, ◌∙◌, arith, below_more}
use Rattle.std.proofs.lemmas.List.{get_or-replicate}
use Rattle.history.specs.Events.{is}
use Rattle.history.specs.Tables.{mark}
use Rattle.history.proofs.Positions.{count_le}
use Rattle.history.proofs.Tables.{lasts_next, formed_small, puts_yes, puts_no}
use Rattle.history.proofs.formed.puts_begun.Goals as goal
use Rattle.history.proofs.formed.puts_begun.Goals.{then-eq, else-eq}

pub loop-i-init : goal.loop-i-init
loop-i-init c = (
  record { lasts = λ t lt. ap (λ xs. mark (get_or xs t None)) c.new-threads.ensures ∙ ap mark (get_or-replicate 64 t None None lt); puts = refl },
  λ j lt. absurd (omega arith),
)

pub overflow_add-begun : goal.overflow_add-begun
overflow_add-begun c = omega (arith, count_le (is 1 c.args.history.now) c.loop-i.i)

pub loop-i-preserved : goal.loop-i-preserved
loop-i-preserved c =
    let h = c.args.history.now in
    let i = c.loop-i.i in
    let fits = sym c.if-not-is_formed.ensures in
    let table = c.loop-i.threads in (
      record {
        lasts = λ t lt. ap (λ xs. mark (get_or xs t None)) c.note.ensures ∙ lasts_next h i table.positions table.whole (formed_small h i fits) c.loop-i.invariant.0.lasts t lt;
        puts = elim c.if-eq.branch [
          | then-eq w ↦ w.begun-is ∙ ap (λ x. x + 1) c.loop-i.invariant.0.puts ∙ sym (puts_yes h i (search rules))
          | else-eq w ↦ w.begun-is ∙ c.loop-i.invariant.0.puts ∙ sym (puts_no h i (search rules))
        ];
      },
      below_more _ _ c.loop-i.invariant.1 fits,
    )
