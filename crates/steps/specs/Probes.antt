-- The probes of a search, one a step, through the k places of a segment.
use Rattle.std.specs.Prelude.{ℕ, ◌+◌, ◌%◌, cond, Some, None, Option, nat_lt}
use Rattle.steps.specs.declared.kept.Marker.{Marker}
use Rattle.steps.specs.declared.search.Search.{Search}
use Rattle.steps.specs.declared.search.Search.TheVariants.{Fresh, Begun}
use Rattle.steps.specs.Ring.{Ring}

-- no probe was made yet
abbrev pub fresh : Search
fresh = Fresh

-- how many probes were made
abbrev pub made : Search → ℕ
made Fresh = 0
made (Begun m last) = m

-- the place of the next probe: the first is r mod k, r being the start number of that step; then each following place,
-- place 0 after place k - 1, whatever the start number
abbrev pub place : Ring → ℕ → Search → ℕ
place q r Fresh = r % q.k
place q r (Begun m last) = cond (nat_lt (last + 1) q.k) (last + 1) 0

-- the slot of the next probe of the segment at m
abbrev pub probe : Ring → ℕ → Marker → Search → ℕ
probe q r m s = m.at + place q r s

-- the search after its next probe
abbrev pub probed : Ring → ℕ → Search → Search
probed q r s = Begun (made s + 1) (place q r s)

-- nothing where that was probe k
abbrev pub further : Ring → ℕ → Search → Option Search
further q r s = cond (nat_lt (made s + 1) q.k) (Some (probed q r s)) None
