-- How many calls are in flight, one event on.
use Rattle.std.proofs.Common.{◌≡◌, ℕ, ◌+◌, ◌<◌, ◌≤◌, true, false, not, ◌||◌, ltb, List, length, sym, refl, ap, ◌∙◌, add-one}
use Rattle.history.specs.Positions.{some_below}
use Rattle.history.specs.Events.{event_at, thread_at}
use Rattle.history.specs.Calls.{in_flight}
use Rattle.history.specs.WellFormed.{Formed}
use Rattle.judge.specs.Flights.{flying, together}
use Rattle.history.specs.declared.event.Event.{Event}
use Rattle.history.proofs.Positions.{count_le, count_none, count_less}
use Rattle.history.proofs.Tables.{formed_small}
use Rattle.history.proofs.Flights.{in_flight_other, begins, flight_after, flight_before}

module _ (h : List Event) (i : ℕ) (F : Formed h) (in_h : i < length h) where
  small : thread_at h i < 64
  small = formed_small h i (F i in_h)

  pub flying_begin : begins (event_at h i).kind ≡ true → flying h (i + 1) ≡ flying h i + 1
  unfolding flying
  flying_begin b =
      count_less (λ t. in_flight h t (i + 1)) (λ t. in_flight h t i) 64 (thread_at h i) small (flight_after h i ∙ b) (flight_before h i (F i in_h) ∙ ap not b) (λ t _ ne. in_flight_other h i t ne)
      ∙ sym (add-one (flying h i))

  pub flying_answer : begins (event_at h i).kind ≡ false → flying h i ≡ flying h (i + 1) + 1
  unfolding flying
  flying_answer b =
      count_less (λ t. in_flight h t i) (λ t. in_flight h t (i + 1)) 64 (thread_at h i) small (flight_before h i (F i in_h) ∙ ap not b) (flight_after h i ∙ b) (λ t _ ne. sym (in_flight_other h i t ne))
      ∙ sym (add-one (flying h (i + 1)))

pub flying_none : (h : List Event) → flying h 0 ≡ 0
unfolding flying
flying_none h = count_none (λ t. in_flight h t 0) 64 (λ t _. refl)

pub flying_le : (h : List Event) (i : ℕ) → flying h i ≤ 64
unfolding flying
flying_le h i = count_le (λ t. in_flight h t i) 64

pub together_none : (h : List Event) → together h 0 ≡ false
together_none h = ap (λ (n : ℕ). ltb 1 n || false) (flying_none h)

pub together_more : (h : List Event) (i : ℕ) → together h (i + 1) ≡ (ltb 1 (flying h (i + 1)) || together h i)
together_more h i = ap (λ (n : ℕ). ltb 1 (flying h (i + 1)) || some_below (λ j. ltb 1 (flying h j)) n) (add-one i)
