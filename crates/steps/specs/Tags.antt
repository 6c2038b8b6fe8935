-- Tags: how one is raised, and how two compare.
use Rattle.std.specs.Prelude.{ℕ, ◌+◌, ◌%◌, ◌^◌, Bool, ◌==◌}

-- the tag that a swap leaves where it found t
abbrev pub raised : ℕ → ℕ
raised t = (t + 1) % 2 ^ 32

abbrev pub same_tag : ℕ → ℕ → Bool
same_tag t u = t == u
