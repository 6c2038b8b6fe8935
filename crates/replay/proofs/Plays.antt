-- The replay under way: feeding the queue, and playing an event on it.
use Rattle.std.proofs.Common.{◌≡◌, ℕ, suc, ◌+◌, ◌-◌, ◌<◌, ◌≤◌, true, false, ◌⊎◌, List, [], ◌∷◌, ◌++◌, length, take, drop, Ok, sym, refl, ap, ◌∙◌, subst, inl, inr, ⊎_elim, add-one, arith}
use Rattle.std.specs.List.{between}
use Rattle.std.proofs.lemmas.List.{append-nil, append_assoc, length-append, length_push, length-set, drop_more, nil_from_length}
use Rattle.std.proofs.lemmas.List.Edits.{between_none, between_more}
use Rattle.history.specs.Events.{event_at, nothing, is}
use Rattle.history.specs.declared.event.Event.{Event}
use Rattle.history.specs.declared.event.Kind.{Kind}
use Rattle.history.specs.declared.event.Kind.TheVariants.{PutBegun, TakeBegun, Accepted, Full, HandedOut, Empty}
use Rattle.history.proofs.Positions.{count_mono}
use Rattle.window.specs.Queue.{Queue, start}
use Rattle.window.specs.Places.{Places, queue, Appended}
use Rattle.window.specs.Sequential.{Dequeues}
use Rattle.replay.specs.Run.{Does, Run}
use Rattle.replay.specs.Playing.{accepted_item, accepted_items, accepted_from, Ready, Playing, Fed, Moves, Plays}
use Rattle.replay.proofs.Counted.{accepted_few}
use Rattle.replay.proofs.Runs.{does_length, run_window, run_length, runs_agree, run_more}
use Rattle.replay.proofs.Front.{dequeue_whole, dequeue_front}

-- THE ITEMS THAT WAIT

items_append : (es fs : List Event) → accepted_items (es ++ fs) ≡ accepted_items es ++ accepted_items fs
items_append [] fs = refl
items_append (e ∷ es) fs =
    ap (λ l. accepted_item e.kind e.item ++ l) (items_append es fs) ∙ sym (append_assoc (accepted_item e.kind e.item) (accepted_items es) (accepted_items fs))

pub not_accepted : (e : Kind) (x : ℕ) → (e ≡ Accepted → ⊥) → accepted_item e x ≡ []
not_accepted PutBegun x f = refl
not_accepted TakeBegun x f = refl
not_accepted Accepted x f = absurd (f refl)
not_accepted Full x f = refl
not_accepted HandedOut x f = refl
not_accepted Empty x f = refl

-- one event more behind them
waiting_more : (h : List Event) (fed i : ℕ) → fed ≤ i → i < length h → accepted_from h fed (i + 1) ≡ accepted_from h fed i ++ accepted_item (event_at h i).kind (event_at h i).item
waiting_more h fed i le lt =
    let e = event_at h i in
    ap accepted_items (between_more h fed i nothing le lt)
    ∙ (items_append (between fed i h) (e ∷ []) ∙ ap (λ l. accepted_from h fed i ++ l) (append-nil (accepted_item e.kind e.item)))

-- the first of them
waiting_first : (h : List Event) (fed i : ℕ) → fed < i → i ≤ length h → accepted_from h fed i ≡ accepted_item (event_at h fed).kind (event_at h fed).item ++ accepted_from h (fed + 1) i
waiting_first h fed i lt in_h =
    let n : i - fed ≡ suc (i - (fed + 1)) = omega arith in
    ap (λ l. accepted_items (take (i - fed) l)) (drop_more h fed nothing (omega arith))
    ∙ ap (λ m. accepted_items (take m (event_at h fed ∷ drop (fed + 1) h))) n

waiting_none : (h : List Event) (i : ℕ) → accepted_from h i i ≡ []
waiting_none h i = ap accepted_items (between_none h i)

-- what is played makes the front no longer
moves_length : (k : ℕ) (e : Kind) (x : ℕ) (s t : Queue ℕ) → Moves k e x s t → length t.q ≤ length s.q
moves_length k PutBegun x s t m = omega (arith, does_length k PutBegun x s t m)
moves_length k TakeBegun x s t m = omega (arith, does_length k TakeBegun x s t m)
moves_length k Accepted x s t m = omega (arith, ap (λ (u : Queue ℕ). length u.q) m)
moves_length k Full x s t m = omega (arith, does_length k Full x s t m)
moves_length k HandedOut x s t m = omega (arith, does_length k HandedOut x s t m)
moves_length k Empty x s t m = omega (arith, does_length k Empty x s t m)

-- AT FIRST

pub playing_at_first : (k : ℕ) (h : List Event) (c : Places ℕ) → Ready k h (length c.places) → queue c ≡ start k → c.k ≡ k → Playing k h 0 0 c
playing_at_first k h c R e s = record {
  ready = R;
  few = omega (arith, ap (λ (u : Queue ℕ). length u.q) e);
  fed_le = omega arith;
  run = record { states = λ _. start k; starts = refl; goes = λ j lt. absurd (omega arith) };
  state = sym (ap (λ (u : Queue ℕ). record { q = u.q ++ []; w = u.w }) e);
  k_is = s;
}

module _ (k : ℕ) (h : List Event) (i fed : ℕ) (c : Places ℕ) (within : i < length h) (P : Playing k h i fed c) where
  -- FEEDING, at an event before event i

  pub feed_other : fed < i → accepted_item (event_at h fed).kind (event_at h fed).item ≡ [] → Playing k h i (fed + 1) c
  feed_other lt e = record {
    ready = P.ready;
    fed_le = omega arith;
    run = P.run;
    state = P.state ∙ ap (λ l. record { q = (queue c).q ++ l; w = c.w }) (waiting_first h fed i lt (omega arith) ∙ ap (λ l. l ++ accepted_from h (fed + 1) i) e);
    k_is = P.k_is;
    few = P.few;
  }

  module _ (lt : fed < i) (x : ℕ) (one : accepted_item (event_at h fed).kind (event_at h fed).item ≡ x ∷ []) where
    held : (P.run.states i).q ≡ (queue c).q ++ (x ∷ accepted_from h (fed + 1) i)
    held = ap (λ (u : Queue ℕ). u.q) P.state ∙ ap (λ l. (queue c).q ++ l) (waiting_first h fed i lt (omega arith) ∙ ap (λ l. l ++ accepted_from h (fed + 1) i) one)

    pub feed_one : length (queue c).q < k → (d : Places ℕ) → Appended c x (Ok tt) d → Playing k h i (fed + 1) d
    feed_one short d a = record {
      ready = subst (Ready k h) (sym (ap length a.1.1.0 ∙ length-set c.places (length (queue c).q) x)) P.ready;
      fed_le = omega arith;
      run = P.run;
      state =
          ap (λ l. record { q = l; w = (P.run.states i).w }) (held ∙ sym (append_assoc (queue c).q (x ∷ []) (accepted_from h (fed + 1) i)))
          ∙ (ap (λ v. record { q = ((queue c).q ++ x ∷ []) ++ accepted_from h (fed + 1) i; w = v }) (ap (λ (u : Queue ℕ). u.w) P.state)
          ∙ sym (ap (λ (u : Queue ℕ). record { q = u.q ++ accepted_from h (fed + 1) i; w = u.w }) a.1.0));
      k_is = a.1.1.1 ∙ P.k_is;
      few = omega (arith, ap (λ (u : Queue ℕ). length u.q) a.1.0, length_push (queue c).q x);
    }

    -- a place is unused: there are rows for all items
    pub has_place : length (queue c).q < length c.places
    has_place =
        let n = length-append (queue c).q (x ∷ accepted_from h (fed + 1) i) in
        let R = P.ready in
        omega (arith, ap length held, n, run_length k h i P.run i (omega arith), accepted_few h R.formed R.apart i (omega arith), count_mono (is 1 h) i (length h) (omega arith), R.rows)

-- PLAYING event i

module _ (k : ℕ) (h : List Event) (i fed : ℕ) (c : Places ℕ) (within : i < length h) (G : Fed k h i fed c) where
  one : 1 ≤ k
  one = G.playing.ready.size.0

  abbrev rest : List ℕ
  rest = accepted_from h fed i

  window : (1 ≤ c.w) × (c.w ≤ k)
  window =
      let w = run_window k h i G.playing.run one i (omega arith) in
      let e = ap (λ (u : Queue ℕ). u.w) G.playing.state in
      (omega (arith, w.0), omega (arith, w.1))

  reach : (c.w ≤ length (queue c).q) ⊎ (rest ≡ [])
  reach = ⊎_elim (λ far. inl far) (λ (all : fed ≡ i). inr (subst (λ (n : ℕ). accepted_from h n i ≡ []) (sym all) (waiting_none h i))) G.reaches

  -- where nothing is done
  same : (s : Queue ℕ) → s ≡ queue c → ◌≡◌ {A = Queue ℕ} (record { q = s.q ++ (rest ++ []); w = s.w }) (record { q = (queue c).q ++ rest; w = c.w })
  same s d = ap (λ (u : Queue ℕ). record { q = u.q ++ (rest ++ []); w = u.w }) d ∙ ap (λ l. record { q = (queue c).q ++ l; w = c.w }) (append-nil rest)

  -- an empty front is empty altogether
  none_waits : (queue c).q ≡ [] → rest ≡ []
  none_waits e = ⊎_elim (λ (far : c.w ≤ length (queue c).q). absurd (omega (arith, window.0, ap length e))) (λ r. r) reach

  -- what is done to the front is done to the whole
  whole : (e : Kind) (x : ℕ) (s : Queue ℕ) → Moves k e x (queue c) s → Does k e x (record { q = (queue c).q ++ rest; w = c.w }) (record { q = s.q ++ (rest ++ accepted_item e x); w = s.w })
  whole PutBegun x s d = same s d
  whole TakeBegun x s d = same s d
  whole Accepted x s d = (ap (λ (u : Queue ℕ). u.q ++ (rest ++ x ∷ [])) d ∙ sym (append_assoc (queue c).q rest (x ∷ [])), ap (λ (u : Queue ℕ). u.w) d)
  whole Full x s d = same s d
  whole HandedOut x s d =
      subst (λ (l : List ℕ). Dequeues k (record { q = (queue c).q ++ rest; w = c.w }) x (record { q = s.q ++ l; w = s.w })) (sym (append-nil rest))
      (dequeue_whole k x (queue c).q s.q rest c.w s.w d)
  whole Empty x s d =
      let r = none_waits d.0 in (
        ap (λ l. l ++ rest) d.0 ∙ r,
        (ap (λ l. l ++ (rest ++ [])) d.1.0 ∙ (append-nil rest ∙ r), d.1.1),
      )

  -- what may be done to the whole may be done to the front
  front : (e : Kind) (x : ℕ) (t : Queue ℕ) → Does k e x (record { q = (queue c).q ++ rest; w = c.w }) t → (s : Queue ℕ) × Moves k e x (queue c) s
  front PutBegun x t d = (queue c, refl)
  front TakeBegun x t d = (queue c, refl)
  front Accepted x t d = (queue c, refl)
  front Full x t d = (queue c, refl)
  front HandedOut x t d = dequeue_front k x c.w (queue c).q rest t window.0 reach d
  front Empty x t d =
      let n : length (queue c).q ≡ 0 = omega (arith, ap length d.0, length-append (queue c).q rest) in
      (start k, (nil_from_length (queue c).q n, (refl, refl)))

  abbrev kind_i : Kind
  kind_i = (event_at h i).kind

  abbrev item_i : ℕ
  item_i = (event_at h i).item

  waits : accepted_from h fed (suc i) ≡ rest ++ accepted_item kind_i item_i
  waits = ap (accepted_from h fed) (sym (add-one i)) ∙ waiting_more h fed i G.playing.fed_le within

  pub play_on : (d : Places ℕ) → Plays kind_i item_i c true d → Playing k h (i + 1) fed d
  play_on d p =
      let P = G.playing in
      let moves = subst (λ (n : ℕ). Moves n kind_i item_i (queue c) (queue d)) P.k_is p.0 in
      let done = subst (λ (u : Queue ℕ). Does k kind_i item_i u (record { q = (queue d).q ++ (rest ++ accepted_item kind_i item_i); w = d.w })) (sym P.state) (whole kind_i item_i (queue d) moves) in
      let more = run_more k h i P.run (record { q = (queue d).q ++ (rest ++ accepted_item kind_i item_i); w = d.w }) done in
      subst (λ (n : ℕ). Playing k h n fed d) (sym (add-one i)) (record {
        ready = subst (Ready k h) (sym p.1.1) P.ready;
        fed_le = omega (arith, P.fed_le);
        run = more.0;
        state = more.1 ∙ ap (λ l. record { q = (queue d).q ++ l; w = d.w }) (sym waits);
        k_is = p.1.0 ∙ P.k_is;
        few = omega (arith, P.few, moves_length k kind_i item_i (queue c) (queue d) moves);
      })

  pub play_stops : (d : Places ℕ) → Plays kind_i item_i c false d → Run k h (suc i) → ⊥
  play_stops d p r =
      let P = G.playing in
      let at = runs_agree k one h G.playing.ready.formed (suc i) i r P.run (omega arith) i (omega arith) (omega arith) ∙ P.state in
      let found = front kind_i item_i (r.states (suc i)) (subst (λ (u : Queue ℕ). Does k kind_i item_i u (r.states (suc i))) at (r.goes i (omega arith))) in
      p.0 found.0 (subst (λ (n : ℕ). Moves n kind_i item_i (queue c) found.0) (sym P.k_is) found.1)
