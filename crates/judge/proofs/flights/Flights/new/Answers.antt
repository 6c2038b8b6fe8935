use Rattle.std.proofs.Common.{None, get_or, sym, ap, ◌∙◌}
use Rattle.std.proofs.lemmas.List.{get_or-replicate}
use Rattle.history.specs.Tables.{mark}
use Rattle.judge.proofs.Flying.{flying_none, together_none}
use Rattle.judge.proofs.flights.Flights.new.Goals as goal

pub returns : goal.returns
returns c h = record {
  lasts = λ t lt. ap (λ xs. mark (get_or xs t None)) c.new.ensures ∙ ap mark (get_or-replicate 64 t None None lt);
  count_is = sym (flying_none h);
  crossed_is = sym (together_none h);
}
