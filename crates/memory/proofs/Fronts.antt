-- The first n of 64 empty pairs.
use Rattle.std.proofs.Common.{◌≡◌, ℕ, ◌≤◌, take, replicate, ap, ◌∙◌}
use Rattle.std.proofs.lemmas.List.{take-replicate}

pub first_empty : (n m : ℕ) → n ≤ 64 → n ≡ m → take n (replicate {A = ℕ × ℕ} 64 (0, 0)) ≡ replicate m (0, 0)
first_empty n m few is = take-replicate n 64 (0, 0) few ∙ ap (λ k. replicate k (0, 0)) is
