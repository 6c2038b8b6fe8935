-- A take from the queue in the rows, as an event does it.
use Rattle.std.proofs.Common.{◌≡◌, ℕ, ◌-◌, ◌<◌, ◌≤◌, Bool, ◌++◌, length, drop, is_ok, Some, None, Ok, Err, Option, Result, sym, ap, subst, arith}
use Rattle.std.specs.List.{remove}
use Rattle.std.proofs.lemmas.List.{length-append, length-take, length-drop}
use Rattle.std.proofs.lemmas.List.Edits.{length-remove}
use Rattle.history.specs.declared.event.Kind.{Kind}
use Rattle.history.specs.declared.event.Kind.TheVariants.{HandedOut}
use Rattle.window.specs.Queue.{Queue}
use Rattle.window.specs.Law.{Stands}
use Rattle.window.specs.Places.{Places, queue, Taken}
use Rattle.window.specs.declared.refusal.Refusal.{Refusal}
use Rattle.window.proofs.Takes.{allowed_from, allowed_parts}
use Rattle.window.proofs.Lines.{follows_specification}
use Rattle.replay.specs.Playing.{Moves, Plays}

-- a take leaves as many places
kept_places : (c d : Places ℕ) (i : ℕ) → 1 ≤ i → i ≤ length (queue c).q → d.places ≡ remove (queue c).q (i - 1) ++ drop (length (queue c).q - 1) c.places
    → length d.places ≡ length c.places
kept_places c d i one within e =
    let q = (queue c).q in
    omega (
      arith,
      ap length e,
      length-append (remove q (i - 1)) (drop (length q - 1) c.places),
      length-remove q (i - 1) (omega arith),
      length-drop (length q - 1) c.places,
      length-take c.len c.places,
    )

module _ (e : Kind) (is_out : e ≡ HandedOut) (x : ℕ) (c : Places ℕ) (window : 1 ≤ c.w) where
  pub plays_take : (i : ℕ) → Stands ℕ (queue c) i x → i ≤ c.w → (d : Places ℕ) (r : Result (Option ℕ) Refusal) → Taken i c r d → (b : Bool) → b ≡ is_ok r → Plays e x c b d
  plays_take i st near d (Ok None) t b is_b = absurd (omega (arith, t.0, st.from_1))
  plays_take i st near d (Ok (Some y)) t b is_b =
      subst (λ (f : Bool). Plays e x c f d) (sym is_b) (
        subst (λ (k : Kind). Moves c.k k x (queue c) (queue d)) (sym is_out) (((follows_specification ℕ c.k).takes (queue c) (queue d) x window).0 (i, (st, (t.1.0, t.1.1.0)))),
        (t.1.1.1.1, kept_places c d i st.from_1 st.within t.1.1.1.0),
      )
  plays_take i st near d (Err f) t b is_b = absurd (t.0 (allowed_from (queue c) i st.from_1 near st.within))

  pub plays_nothing : ((i : ℕ) → Stands ℕ (queue c) i x → c.w < i) → (t : Queue ℕ) → Moves c.k e x (queue c) t → ⊥
  plays_nothing far t m =
      let p = ((follows_specification ℕ c.k).takes (queue c) t x window).1 (subst (λ (k : Kind). Moves c.k k x (queue c) t) is_out m) in
      let near = allowed_parts (queue c) p.0 p.1.0.from_1 p.1.1.0 in
      omega (arith, near.0, far p.0 p.1.0)
