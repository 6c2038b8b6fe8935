-- Tags: the tag of a pair rises with each swap of its number, up to a ceiling at which the pair takes no more.
use Rattle.std.specs.Prelude.{ℕ, ◌+◌, Bool, cond, ◌&&◌, ◌==◌, nat_lt}

abbrev pub ceiling : ℕ
ceiling = 4294967295

abbrev pub may_rise : ℕ → Bool
may_rise t = nat_lt t ceiling

abbrev pub raised : ℕ → ℕ
raised t = t + 1

-- a pair takes a swap that expects the tag e
abbrev pub takes : ℕ × ℕ → ℕ → Bool
takes p e = p.0 == e && may_rise e

-- the pair after a swap to the number v, taken or not
abbrev pub renewed : ℕ × ℕ → ℕ → ℕ → ℕ × ℕ
renewed p e v = cond (takes p e) (raised e, v) p
