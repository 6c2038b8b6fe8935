-- What the judge knows before an event, by its parts.
use Rattle.std.proofs.Common.{◌≡◌, ℕ, ◌-◌, ◌<◌, ◌≤◌, false, List, length, get_or, Some}
use Rattle.history.specs.Events.{kind_at, item_at}
use Rattle.history.specs.Calls.{puts_before}
use Rattle.history.specs.Limits.{Short}
use Rattle.history.specs.WellFormed.{Formed}
use Rattle.history.specs.declared.event.Event.{Event}
use Rattle.judge.specs.Rows.{blank}
use Rattle.judge.specs.State.{ItemsAre, Knows}
use Rattle.judge.specs.declared.judging.Judging.{Judging}
use Rattle.judge.specs.declared.row.Row.{Row}
use Rattle.judge.specs.declared.seen.Seen.{Seen}

-- the history is in order, there is a row for each put begun in it, event i is in it, and this is known of the items before it
pub record Ready (k : ℕ) (h : List Event) (i : ℕ) (rows : List Row) (s : Seen) : Type 0 where
  pub slots : 0 < k
  pub short : Short h
  pub within : i < length h
  pub formed : Formed h
  pub fit : puts_before h (length h) ≤ length rows
  pub items : ItemsAre k h i rows s

pub ready : {j : Judging} {i : ℕ} → Knows j i → Ready j.shape.k.number j.history.now i j.rows.now j.seen
ready {j = j} K = record { slots = j.shape.k.least; short = j.short; within = K.within; formed = j.formed; fit = j.fit; items = K.items }

-- event i hands out an item whose put event b began, not refused and not handed out before
pub record Fresh (k : ℕ) (h : List Event) (i b : ℕ) (rows : List Row) (s : Seen) : Type 0 where
  pub ready : Ready k h i rows s
  pub five : kind_at h i ≡ 5
  pub in_rows : item_at h i - 1 < length rows
  pub began : (get_or rows (item_at h i - 1) blank).began ≡ Some b
  pub not_refused : (get_or rows (item_at h i - 1) blank).refused ≡ false
  pub not_handed : (get_or rows (item_at h i - 1) blank).handed ≡ false

pub fresh : {j : Judging} {i b : ℕ} → Knows j i → kind_at j.history.now i ≡ 5 → item_at j.history.now i - 1 < length j.rows.now
    → (get_or j.rows.now (item_at j.history.now i - 1) blank).began ≡ Some b
    → (get_or j.rows.now (item_at j.history.now i - 1) blank).refused ≡ false
    → (get_or j.rows.now (item_at j.history.now i - 1) blank).handed ≡ false
    → Fresh j.shape.k.number j.history.now i b j.rows.now j.seen
fresh K five lt e r o = record { ready = ready K; five = five; in_rows = lt; began = e; not_refused = r; not_handed = o }
