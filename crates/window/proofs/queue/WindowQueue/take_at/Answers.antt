use Rattle.std.proofs.Common.{◌≡◌, ◌-◌, cond, leb, get_or, sym, refl, ap, ◌∙◌, arith}
use Rattle.std.proofs.lemmas.List.{get_or-take, length-take-le}
use Rattle.std.proofs.lemmas.Bool.Decides.{nat_tests}
use Rattle.window.specs.Places.{content, queue}
use Rattle.window.proofs.Takes.{allowed_from, places_after, queue_after}
use Rattle.window.proofs.queue.WindowQueue.take_at.Goals as goal
use Rattle.window.proofs.queue.WindowQueue.take_at.Goals.{then-i-eq1, else-i-eq1}

pub returns : goal.returns
returns g c =
    let s = c.args.self.now in
    let xs = s.places.now in
    let ys = c.pull.new.used in
    let i = c.args.i in
    let all = length-take-le s.len xs s.within in
    let w : c.if-i-eq1.self ≡ cond (leb i 1) s.limit.k.number (s.window - 1) = elim c.if-i-eq1.branch [
      | then-i-eq1 w ↦ grind (arith, nat_tests)
      | else-i-eq1 w ↦ grind (arith, nat_tests)
    ] in (
      ((omega arith, omega (arith, all)), ap (get_or xs (i - 1)) c.index-self-i.is ∙ sym (get_or-take s.len xs (i - 1) _ (omega arith))),
      (
        allowed_from (queue (content s)) i (omega arith) (omega arith) (omega (arith, all)),
        (
          queue_after xs ys s.len i (omega arith) (omega arith) s.within c.pull.ensures s.window s.limit.k.number c.if-i-eq1.self w,
          (places_after xs ys s.len i (omega arith) (omega arith) s.within c.pull.ensures, refl),
        ),
      ),
    )
