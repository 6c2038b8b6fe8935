use Rattle.std.proofs.Common.{◌≡◌, ℕ, ◌+◌, ◌-◌, ◌<◌, Bool, true, false, ◌||◌, ltb, ◌⊎◌, List, length, get_or, set, Some, None, sym, refl, ap, ◌∙◌, subst, ⊎_elim, arith}
use Rattle.std.proofs.lemmas.Bool.{or_right}
use Rattle.history.specs.Events.{event_at, thread_at}
use Rattle.history.specs.WellFormed.{Formed}
use Rattle.history.specs.Tables.{LastsAre, mark}
use Rattle.history.specs.declared.event.Event.{Event}
use Rattle.history.specs.declared.event.Kind.{Kind}
use Rattle.history.specs.declared.event.Kind.TheVariants.{PutBegun, TakeBegun, Accepted, Full, HandedOut, Empty}
use Rattle.history.specs.declared.threads.LastEvents.{LastEvents}
use Rattle.history.proofs.Flights.{begins}
use Rattle.history.proofs.Tables.{lasts_next, formed_small}
use Rattle.judge.specs.Flights.{flying, together}
use Rattle.judge.specs.State.{FlightsAre}
use Rattle.judge.specs.declared.flights.Flights.{Flights}
use Rattle.judge.proofs.Flying.{flying_begin, flying_answer, flying_le, together_more}
use Rattle.judge.proofs.flights.Flights.note.Goals as goal
use Rattle.judge.proofs.flights.Flights.note.Goals.{in-PutBegun, in-Accepted, then-self, else-self}

a_begin : (k : Kind) → (k ≡ PutBegun) ⊎ (k ≡ TakeBegun) → begins k ≡ true
a_begin k w = ⊎_elim (λ e. ap begins e) (λ e. ap begins e) w

an_answer : (k : Kind) → (k ≡ Accepted) ⊎ ((k ≡ Full) ⊎ ((k ≡ HandedOut) ⊎ (k ≡ Empty))) → begins k ≡ false
an_answer k w = ⊎_elim (λ e. ap begins e) (⊎_elim (λ e. ap begins e) (⊎_elim (λ e. ap begins e) (λ e. ap begins e))) w

module _ (h : List Event) (i : ℕ) (F : Formed h) (in_h : i < length h) (f : Flights) (known : FlightsAre h i f) where
  noted : (table : LastEvents) → table.positions ≡ set f.last_events.positions (thread_at h i) (Some i) → LastsAre h (i + 1) table
  noted table e t lt = ap (λ xs. mark (get_or xs t None)) e ∙ lasts_next h i f.last_events.positions f.last_events.whole (formed_small h i (F i in_h)) known.lasts t lt

  -- the calls were counted, and it is not yet said whether two are together
  record Counted (g : Flights) : Type 0 where
    pub lasts : LastsAre h (i + 1) g.last_events
    pub count_is : g.count ≡ flying h (i + 1)
    pub crossed_as : g.crossed ≡ f.crossed

  counted : (g : Flights) (table : LastEvents) (n : ℕ) → table.positions ≡ set f.last_events.positions (thread_at h i) (Some i) → n ≡ flying h (i + 1)
      → g ≡ record { last_events = table; count = n; crossed = f.crossed } → Counted g
  counted g table n e c s = subst Counted (sym s) (record { lasts = noted table e; count_is = c; crossed_as = refl })

  crossed_then : (g : Flights) → Counted g → g.crossed ≡ true → g.crossed ≡ together h (i + 1)
  crossed_then g m e = e ∙ sym (together_more h i ∙ or_right (ltb 1 (flying h (i + 1))) (together h i) (sym known.crossed_is ∙ sym m.crossed_as ∙ e))

  crossed_else : (g : Flights) → Counted g → g.crossed ≡ false → ltb 1 g.count ≡ together h (i + 1)
  crossed_else g m e = ap (ltb 1) m.count_is ∙ sym (together_more h i ∙ or_none (ltb 1 (flying h (i + 1))) (together h i) (sym known.crossed_is ∙ sym m.crossed_as ∙ e))
    where
      or_none : (a b : Bool) → b ≡ false → (a || b) ≡ a
      or_none true b e = refl
      or_none false b e = e

pub overflow_add-self : goal.overflow_add-self
overflow_add-self c = omega (arith, c.requires.flights.count_is, flying_le c.args.history.now c.args.i)

pub overflow_sub-self : goal.overflow_sub-self
overflow_sub-self c = omega (arith, c.requires.flights.count_is, flying_answer _ _ c.requires.formed c.requires.within (an_answer (event_at c.args.history.now c.args.i).kind c.in-Accepted.is))

pub returns : goal.returns
returns c =
    let h = c.args.history.now in let i = c.args.i in let f = c.args.self.now in
    let m : Counted h i c.requires.formed c.requires.within f c.requires.flights c.match-event.self = elim c.match-event.branch [
      | in-PutBegun w ↦ counted _ _ c.requires.formed c.requires.within _ c.requires.flights _ c.note.new.self (f.count + 1) c.note.ensures
          (omega (arith, c.requires.flights.count_is, flying_begin h i c.requires.formed c.requires.within (a_begin (event_at h i).kind w.in-PutBegun.is))) w.self-is
      | in-Accepted w ↦ counted _ _ c.requires.formed c.requires.within _ c.requires.flights _ c.note.new.self (f.count - 1) c.note.ensures
          (omega (arith, c.requires.flights.count_is, flying_answer h i c.requires.formed c.requires.within (an_answer (event_at h i).kind w.in-Accepted.is))) w.self-is
    ] in
    record {
      lasts = m.lasts;
      count_is = m.count_is;
      crossed_is = elim c.if-self.branch [
        | then-self w ↦ w.self-is ∙ crossed_then _ _ c.requires.formed c.requires.within _ c.requires.flights _ m w.if-self.true
        | else-self w ↦ w.self-is ∙ crossed_else _ _ c.requires.formed c.requires.within _ c.requires.flights _ m w.if-self.false
      ];
    }
