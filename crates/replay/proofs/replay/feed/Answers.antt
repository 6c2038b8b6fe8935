use Rattle.std.proofs.Common.{◌≡◌, ℕ, ◌+◌, ◌-◌, ◌≢◌, [], ◌∷◌, get_or, take, drop, refl, inr, sym, ap, ◌∙◌, subst, rules, arith}
use Rattle.history.specs.Events.{nothing}
use Rattle.history.specs.declared.event.Event.{Event}
use Rattle.history.specs.declared.event.Kind.{Kind}
use Rattle.history.specs.declared.event.Kind.TheVariants.{Accepted}
use Rattle.history.proofs.Parts.{part_at}
use Rattle.window.specs.Places.{content}
use Rattle.window.specs.declared.queue.WindowQueue.{WindowQueue}
use Rattle.replay.specs.Playing.{accepted_item, Playing}
use Rattle.replay.proofs.Plays.{feed_other, feed_one, has_place, not_accepted}
use Rattle.replay.proofs.replay.feed.Goals as goal
use Rattle.replay.proofs.replay.feed.Goals.{then-eq+in-Ok, else-eq}

-- an event that accepts an item, and the same event under another name
accepts : (e f : Event) → e ≡ f → e.kind ≡ Accepted → accepted_item f.kind f.item ≡ e.item ∷ []
accepts e f same is = ap (λ (x : Event). accepted_item x.kind x.item) (sym same) ∙ ap (λ (k : Kind). accepted_item k e.item) is

accepts_none : (e f : Event) → e ≡ f → (e.kind ≡ Accepted → ⊥) → accepted_item f.kind f.item ≡ []
accepts_none e f same other = ap (λ (x : Event). accepted_item x.kind x.item) (sym same) ∙ not_accepted e.kind e.item other

pub loop-ahead-init : goal.loop-ahead-init
loop-ahead-init c =
    let start : c.args.fed ≡ c.args.fed + 0 = omega arith in
    subst (λ (n : ℕ). Playing (content c.args.waiting.now).k c.args.history.now c.args.i n (content c.args.waiting.now)) start c.requires.playing

pub unreachable-requires : goal.unreachable-requires
unreachable-requires c =
    let h = c.args.history.now in
    let n = c.loop-ahead.ahead in
    let e = get_or (take (c.args.i - c.args.fed) (drop c.args.fed h)) n nothing in
    let same = part_at h c.args.fed c.args.i n (omega arith) in
    let is : e.kind ≡ Accepted = search rules in
    let room = has_place (content c.args.waiting.now).k h c.args.i (c.args.fed + n) (content c.loop-ahead.waiting) c.requires.within c.loop-ahead.invariant (omega arith) e.item (accepts e _ same is) in
    omega (arith, room, c.in_default.ensures.0)

pub loop-ahead-preserved : goal.loop-ahead-preserved
loop-ahead-preserved c =
    let k = (content c.args.waiting.now).k in
    let h = c.args.history.now in
    let i = c.args.i in
    let n = c.loop-ahead.ahead in
    let at = c.args.fed + n in
    let old = content c.loop-ahead.waiting in
    let e = get_or (take (i - c.args.fed) (drop c.args.fed h)) n nothing in
    let same = part_at h c.args.fed i n (omega arith) in
    let next : at + 1 ≡ c.args.fed + (n + 1) = omega arith in
    subst (λ (m : ℕ). Playing k h i m (content c.if-eq.waiting)) next
    (elim c.if-eq.branch [
      | then-eq+in-Ok w ↦
          let is : e.kind ≡ Accepted = search rules in
          subst (λ (s : WindowQueue ℕ). Playing k h i (at + 1) (content s)) (sym w.waiting-is)
          (feed_one k h i at old c.requires.within c.loop-ahead.invariant (omega arith) e.item (accepts e _ same is) (omega arith) (content w.append.new.self) w.in-Ok.ensures)
      | else-eq w ↦
          let other : e.kind ≢ Accepted = search rules in
          subst (λ (s : WindowQueue ℕ). Playing k h i (at + 1) (content s)) (sym w.waiting-is)
          (feed_other k h i at old c.requires.within c.loop-ahead.invariant (omega arith) (accepts_none e _ same other))
    ])

pub returns : goal.returns
returns c =
    let end : c.args.fed + c.loop-ahead.ahead ≡ c.args.i = omega arith in
    record { playing = subst (λ (n : ℕ). Playing (content c.args.waiting.now).k c.args.history.now c.args.i n (content c.loop-ahead.waiting)) end c.loop-ahead.invariant; reaches = inr refl }
