use Rattle.std.proofs.Common.{◌≡◌, ℕ, ◌+◌, ◌-◌, ◌<◌, true, false, ◌⊎◌, length, get_or, set, sym, refl, ap, ◌∙◌, subst, inl, inr, arith}
use Rattle.history.specs.Events.{kind_number, kind_at, event_at}
use Rattle.history.specs.declared.event.Event.{Event}
use Rattle.history.proofs.Positions.{count_le}
use Rattle.history.proofs.Faults.{clean_up_to_3}
use Rattle.judge.specs.Rows.{blank}
use Rattle.judge.specs.State.{holds, Knows, ItemsAre}
use Rattle.judge.specs.declared.judging.Judging.{Judging}
use Rattle.judge.specs.declared.seen.Seen.{Seen}
use Rattle.judge.proofs.Ready.{ready}
use Rattle.judge.proofs.Others.{put_place, answer_place, put_next, take_next, accept_next}
use Rattle.judge.proofs.Rows.{row_begun, row_accepted}
use Rattle.judge.proofs.judging.Judging.step.Goals as goal

-- what holds of event i holds of the event that was handed over
module _ {j : Judging} {i : ℕ} (K : Knows j i) (event : Event) (told : event ≡ event_at j.history.now i) where
  kind_told : (n : ℕ) → kind_number event.kind ≡ n → kind_at j.history.now i ≡ n
  kind_told n e = ap (λ (x : Event). kind_number x.kind) (sym told) ∙ e

  item_told : event.item ≡ (event_at j.history.now i).item
  item_told = ap (λ (x : Event). x.item) told

  put_told : kind_number event.kind ≡ 1 → ItemsAre j.shape.k.number j.history.now (i + 1) (set j.rows.now (event.item - 1) (row_begun i (get_or j.rows.now (event.item - 1) blank))) j.seen
  put_told e = subst (λ (x : ℕ). ItemsAre j.shape.k.number j.history.now (i + 1) (set j.rows.now (x - 1) (row_begun i (get_or j.rows.now (x - 1) blank))) j.seen) (sym item_told)
      (put_next (ready K) (kind_told 1 e) _ refl)

  accept_place : kind_number event.kind ≡ 3 → (0 < event.item) × (event.item - 1 < length j.rows.now)
  accept_place e = let p = answer_place (ready K) 3 (inl refl) (kind_told 3 e) in (omega (arith, p.0, item_told), omega (arith, p.1, item_told))

  accept_told : (s : Seen) → kind_number event.kind ≡ 3 → s.oldest ≡ j.seen.oldest
      → (((get_or j.rows.now (event.item - 1) blank).handed ≡ false) × (s.held ≡ j.seen.held + 1)) ⊎ (((get_or j.rows.now (event.item - 1) blank).handed ≡ true) × (s.held ≡ j.seen.held))
      → ItemsAre j.shape.k.number j.history.now (i + 1) (set j.rows.now (event.item - 1) (row_accepted (get_or j.rows.now (event.item - 1) blank))) s
  accept_told s e o = subst (λ (x : ℕ). (((get_or j.rows.now (x - 1) blank).handed ≡ false) × (s.held ≡ j.seen.held + 1)) ⊎ (((get_or j.rows.now (x - 1) blank).handed ≡ true) × (s.held ≡ j.seen.held))
      → ItemsAre j.shape.k.number j.history.now (i + 1) (set j.rows.now (x - 1) (row_accepted (get_or j.rows.now (x - 1) blank))) s) (sym item_told) (accept_next (ready K) (kind_told 3 e) s o)

pub returns-in-PutBegun : goal.returns-in-PutBegun
returns-in-PutBegun c =
    let K = c.requires.knows in
    let e = ap kind_number c.in-PutBegun.is in
    record { clean = clean_up_to_3 _ _ _ _ (omega (arith, kind_told K c.args.event c.requires.told 1 e)); same_history = refl; same_shape = refl; items = put_told K c.args.event c.requires.told e }

pub returns-in-TakeBegun : goal.returns-in-TakeBegun
returns-in-TakeBegun c =
    let e = kind_told c.requires.knows c.args.event c.requires.told 2 (ap kind_number c.in-TakeBegun.is) in
    record { clean = clean_up_to_3 _ _ _ _ (omega (arith, e)); same_history = refl; same_shape = refl; items = take_next (ready c.requires.knows) e }

pub bounds-self-event : goal.bounds-self-event
bounds-self-event c =
    let K = c.requires.knows in
    omega (arith, (put_place (ready K) (kind_told K c.args.event c.requires.told 1 (ap kind_number c.in-PutBegun.is))).1, item_told K c.args.event c.requires.told)

pub overflow_sub-m : goal.overflow_sub-m
overflow_sub-m c = (accept_place c.requires.knows c.args.event c.requires.told (ap kind_number c.in-Accepted.is)).0

pub bounds-self-m : goal.bounds-self-m
bounds-self-m c = (accept_place c.requires.knows c.args.event c.requires.told (ap kind_number c.in-Accepted.is)).1

pub bounds-self-m-in-Accepted : goal.bounds-self-m-in-Accepted
bounds-self-m-in-Accepted c = (accept_place c.requires.knows c.args.event c.requires.told (ap kind_number c.in-Accepted.is)).1

pub overflow_add-self : goal.overflow_add-self
overflow_add-self c = omega (arith, c.requires.knows.items.held_is, count_le (holds c.args.self.now.history.now c.args.i) c.args.i)

pub returns-then-not-handed : goal.returns-then-not-handed
returns-then-not-handed c =
    let K = c.requires.knows in
    let e = ap kind_number c.in-Accepted.is in
    record {
      clean = clean_up_to_3 _ _ _ _ (omega (arith, kind_told K c.args.event c.requires.told 3 e));
      same_history = refl;
      same_shape = refl;
      items = accept_told K c.args.event c.requires.told _ e refl (inl (c.if-not-handed.true, refl));
    }

pub returns-else-not-handed : goal.returns-else-not-handed
returns-else-not-handed c =
    let K = c.requires.knows in
    let e = ap kind_number c.in-Accepted.is in
    record {
      clean = clean_up_to_3 _ _ _ _ (omega (arith, kind_told K c.args.event c.requires.told 3 e));
      same_history = refl;
      same_shape = refl;
      items = accept_told K c.args.event c.requires.told _ e refl (inr (c.if-not-handed.false, refl));
    }
