-- The replay under way: the front of the queue stands in the rows, and the items accepted after those wait in the history.
use Rattle.std.specs.Prelude.{◌≡◌, ℕ, ◌<◌, ◌≤◌, Bool, true, false, ◌⊎◌, List, [], ◌∷◌, ◌++◌, length, Some, None, Option}
use Rattle.std.specs.List.{between}
use Rattle.history.specs.Calls.{Apart, puts_before}
use Rattle.history.specs.WellFormed.{Formed}
use Rattle.history.specs.Limits.{SegmentFits}
use Rattle.history.specs.declared.event.Event.{Event}
use Rattle.history.specs.declared.event.Kind.{Kind}
use Rattle.history.specs.declared.event.Kind.TheVariants.{PutBegun, TakeBegun, Accepted, Full, HandedOut, Empty}
use Rattle.window.specs.Queue.{Queue}
use Rattle.window.specs.Law.{Stands}
use Rattle.window.specs.Places.{Places, queue}
use Rattle.replay.specs.Run.{Does, Run}

-- the item of an acceptance
abbrev pub accepted_item : Kind → ℕ → List ℕ
accepted_item PutBegun x = []
accepted_item TakeBegun x = []
accepted_item Accepted x = x ∷ []
accepted_item Full x = []
accepted_item HandedOut x = []
accepted_item Empty x = []

abbrev pub accepted_items : List Event → List ℕ
accepted_items [] = []
accepted_items (e ∷ es) = accepted_item e.kind e.item ++ accepted_items es

-- the items accepted from event fed on, before event i
abbrev pub accepted_from : List Event → ℕ → ℕ → List ℕ
accepted_from h fed i = accepted_items (between fed i h)

-- what the questions have told, given m rows
pub record Ready (k : ℕ) (h : List Event) (m : ℕ) : Type 0 where
  pub size : SegmentFits k
  pub formed : Formed h
  pub apart : Apart h (length h)
  pub rows : puts_before h (length h) ≤ m

-- before event i, with the acceptances before event fed taken over into the rows
pub record Playing (k : ℕ) (h : List Event) (i fed : ℕ) (c : Places ℕ) : Type 0 where
  pub ready : Ready k h (length c.places)
  pub fed_le : fed ≤ i
  pub run : Run k h i
  pub state : run.states i ≡ record { q = (queue c).q ++ accepted_from h fed i; w = c.w }
  pub k_is : c.k ≡ k
  -- what keeps a take's cost within k
  pub few : length (queue c).q ≤ k

-- the queue in the rows reaches as far as a take may now, or is whole
pub record Fed (k : ℕ) (h : List Event) (i fed : ℕ) (c : Places ℕ) : Type 0 where
  pub playing : Playing k h i fed c
  pub reaches : (c.w ≤ length (queue c).q) ⊎ (fed ≡ i)

-- a place where x stands, as far as the window reaches
abbrev pub PlaceOf : Queue ℕ → ℕ → Option ℕ → Type 0
PlaceOf s x (Some i) = Stands ℕ s i x × (i ≤ s.w)
PlaceOf s x None = (i : ℕ) → Stands ℕ s i x → s.w < i

-- what an event does to the queue in the rows, where acceptances are left out
abbrev pub Moves : ℕ → Kind → ℕ → Queue ℕ → Queue ℕ → Type 0
Moves k PutBegun x s t = Does k PutBegun x s t
Moves k TakeBegun x s t = Does k TakeBegun x s t
Moves k Accepted x s t = t ≡ s
Moves k Full x s t = Does k Full x s t
Moves k HandedOut x s t = Does k HandedOut x s t
Moves k Empty x s t = Does k Empty x s t

abbrev pub Plays : Kind → ℕ → Places ℕ → Bool → Places ℕ → Type 0
Plays e x c true d = Moves c.k e x (queue c) (queue d) × ((d.k ≡ c.k) × (length d.places ≡ length c.places))
Plays e x c false d = ((t : Queue ℕ) → Moves c.k e x (queue c) t → ⊥) × (d ≡ c)
