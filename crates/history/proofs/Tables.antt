-- The table of the threads' last events and the count of puts, one event on.
use Rattle.std.proofs.Common.{◌≡◌, ℕ, ◌+◌, ◌<◌, ◌≤◌, true, List, length, Some, None, Option, get_or, set, sym, refl, ap, ◌∙◌, subst, ⊎_elim, add-one, arith}
use Rattle.std.proofs.lemmas.List.{get_or-set_same, get_or-set_other}
use Rattle.std.proofs.lemmas.Bool.{cases_eq, eq-eqb, ne_eqb, cond-true, cond-false, and_parts, ltb-true}
use Rattle.history.specs.Events.{event_at, thread_at, kind_at, kind_number, is}
use Rattle.history.specs.Calls.{by, last_event, puts_before}
use Rattle.history.specs.Tables.{Counted, mark}
use Rattle.history.specs.declared.threads.LastEvents.{LastEvents}
use Rattle.history.specs.WellFormed.{formed, suits}
use Rattle.history.specs.declared.event.Event.{Event}
use Rattle.history.specs.declared.event.Kind.{Kind}
use Rattle.history.specs.declared.event.Kind.TheVariants.{PutBegun, TakeBegun, Accepted, Full, HandedOut, Empty}
use Rattle.history.proofs.Positions.{last_le, last_more, count_more}

pub last_event_own : (h : List Event) (i : ℕ) → last_event h (thread_at h i) (i + 1) ≡ i + 1
last_event_own h i = last_more (by h (thread_at h i)) i ∙ cond-true (by h (thread_at h i) i) _ _ (eq-eqb (thread_at h i) (thread_at h i) refl) ∙ sym (add-one i)

pub last_event_other : (h : List Event) (i t : ℕ) → (t ≡ thread_at h i → ⊥) → last_event h t (i + 1) ≡ last_event h t i
last_event_other h i t f = last_more (by h t) i ∙ cond-false (by h t i) _ _ (ne_eqb (thread_at h i) t (λ e. f (sym e)))

-- noting the position of event i in a table of last positions
pub lasts_next : (h : List Event) (i : ℕ) (at : List (Option ℕ)) → length at ≡ 64 → thread_at h i < 64
    → ((t : ℕ) → t < 64 → mark (get_or at t None) ≡ last_event h t i)
    → (t : ℕ) → t < 64 → mark (get_or (set at (thread_at h i) (Some i)) t None) ≡ last_event h t (i + 1)
lasts_next h i at len small are t lt = ⊎_elim
    (λ (e : t ≡ thread_at h i). subst (λ (x : ℕ). mark (get_or (set at (thread_at h i) (Some i)) x None) ≡ last_event h x (i + 1)) (sym e)
    (ap mark (get_or-set_same at (thread_at h i) (Some i) None (omega arith)) ∙ sym (add-one i) ∙ sym (last_event_own h i)))
    (λ (e : t ≡ thread_at h i → ⊥). ap mark (get_or-set_other at (thread_at h i) t (Some i) None e) ∙ are t lt ∙ sym (last_event_other h i t e))
    (cases_eq t (thread_at h i))

-- where a thread's last event before event i stands lies within the history
pub last_within : (h : List Event) (i : ℕ) (table : LastEvents) (begun : ℕ) → Counted h i table begun → i < length h → (t : ℕ) → t < 64
    → mark (get_or table.positions t None) ≤ length h
last_within h i table begun counted lt t small = omega (arith, counted.lasts t small, last_le (by h t) i)

pub formed_small : (h : List Event) (i : ℕ) → formed h i ≡ true → thread_at h i < 64
formed_small h i e = ltb-true (thread_at h i) 64 (and_parts _ (suits (event_at h i).kind h i) e).0

put_if_1 : (k : Kind) → kind_number k ≡ 1 → k ≡ PutBegun
put_if_1 PutBegun e = refl
put_if_1 TakeBegun e = absurd (omega arith)
put_if_1 Accepted e = absurd (omega arith)
put_if_1 Full e = absurd (omega arith)
put_if_1 HandedOut e = absurd (omega arith)
put_if_1 Empty e = absurd (omega arith)

pub puts_yes : (h : List Event) (i : ℕ) → (event_at h i).kind ≡ PutBegun → puts_before h (i + 1) ≡ puts_before h i + 1
puts_yes h i e = count_more (is 1 h) i ∙ cond-true (is 1 h i) _ _ (eq-eqb (kind_at h i) 1 (ap kind_number e)) ∙ sym (add-one (puts_before h i))

pub puts_no : (h : List Event) (i : ℕ) → ((event_at h i).kind ≡ PutBegun → ⊥) → puts_before h (i + 1) ≡ puts_before h i
puts_no h i f = count_more (is 1 h) i ∙ cond-false (is 1 h i) _ _ (ne_eqb (kind_at h i) 1 (λ e. f (put_if_1 (event_at h i).kind e)))
