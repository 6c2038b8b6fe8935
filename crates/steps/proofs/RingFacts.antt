-- The segments stand in a ring: positions as multiples of k, and next as the multiple after.
use Rattle.std.proofs.Common.{◌≡◌, ℕ, zero, suc, ◌+◌, ◌-◌, ◌*◌, ◌/◌, ◌%◌, ◌<◌, ◌≤◌, ◌⊎◌, sym, refl, ap, ◌∙◌, subst, inl, inr, ⊎_elim, mod-lt, mod-eq_of_lt, mul-pos, mul-zero, mul-suc, arith}
use native.Mathlib.Nat.{mul-lt-mul_of_pos_left, lt_of_mul-lt-mul_left, mod_self, add-mod_left, div-add-mod, mul-mod_right, mul-add-mod_self_left}
use Rattle.std.proofs.lemmas.Grind.{common_steps}
use Rattle.std.proofs.lemmas.Bool.{cases_lt}
use Rattle.steps.specs.Ring.{Ring, whole, next, distance, segment_of}
use Rattle.steps.specs.RingLaw.{onwards, Position, RingLaw}

-- the position of segment m
pub record Segment (q : Ring) (p : ℕ) : Type 0 where
  pub m : ℕ
  pub below : m < q.n
  pub at : p ≡ q.k * m

module _ (q : Ring) (some_slots : 0 < q.k) (some_segments : 0 < q.n) where
  some_whole : 0 < whole q
  some_whole = mul-pos some_slots some_segments

  pub position_below : (p : ℕ) → Position q p → p < whole q
  position_below p h = grind (arith, common_steps)

  multiple : (p : ℕ) → Position q p → p % q.k ≡ 0
  multiple p h = grind (arith, common_steps)

  pub segment : (p : ℕ) → Position q p → Segment q p
  segment p h =
      let at : p ≡ q.k * (p / q.k) = omega (arith, div-add-mod p q.k, multiple p h) in
      record {
        m = p / q.k;
        below = lt_of_mul-lt-mul_left q.k (omega (arith, at, position_below p h));
        at = at;
      }

  pub is_segment : (m : ℕ) → m < q.n → Position q (q.k * m)
  is_segment m h =
      let below : q.k * m < whole q = mul-lt-mul_of_pos_left h some_slots in
      grind (arith, common_steps, mul-mod_right q.k m)

  first_is : Position q 0
  first_is = subst (Position q) (mul-zero q.k) (is_segment 0 some_segments)

  next_below : (m : ℕ) → suc m < q.n → next q (q.k * m) ≡ q.k * suc m
  next_below m h =
      let more = mul-suc q.k m in
      let lt : q.k * suc m < whole q = mul-lt-mul_of_pos_left h some_slots in
      grind (arith, common_steps, more)

  next_last : (m : ℕ) → suc m ≡ q.n → next q (q.k * m) ≡ 0
  next_last m h =
      let more = mul-suc q.k m in
      let end : q.k * suc m ≡ whole q = ap (λ i. q.k * i) h in
      grind (arith, common_steps, more)

  -- i times next from segment m, once round at most
  reach : (i m j : ℕ) → m < q.n → j < q.n → i ≤ q.n → (m + i ≡ j) ⊎ (m + i ≡ j + q.n) → onwards q i (q.k * m) ≡ q.k * j
  reach zero m j a b l h =
      let e : m ≡ j = ⊎_elim (λ e. omega (arith, e)) (λ e. omega (arith, e)) h in
      ap (λ i. q.k * i) e
  reach (suc i) m j a b l h = ⊎_elim
      (λ lt. ap (onwards q i) (next_below m lt) ∙ reach i (suc m) j lt b (omega arith) (⊎_elim (λ e. inl (omega (arith, e))) (λ e. inr (omega (arith, e))) h))
      (λ ge. ap (onwards q i) (next_last m (omega (arith, ge)) ∙ sym (mul-zero q.k))
      ∙ reach i 0 j some_segments b (omega arith) (inl (⊎_elim (λ e. omega (arith, e, ge)) (λ e. omega (arith, e, ge)) h)))
      (cases_lt (suc m) q.n)

  stays_at : (m : ℕ) → m < q.n → Position q (next q (q.k * m))
  stays_at m h = ⊎_elim
      (λ lt. subst (Position q) (sym (next_below m lt)) (is_segment (suc m) lt))
      (λ ge. subst (Position q) (sym (next_last m (omega (arith, ge)))) first_is)
      (cases_lt (suc m) q.n)

  moves : (p : ℕ) → Position q p → (next q p ≡ p + q.k) ⊎ ((p + q.k ≡ whole q) × (next q p ≡ 0))
  moves p h =
      let s = segment p h in
      let more = mul-suc q.k s.m in
      ⊎_elim
      (λ lt. inl (ap (next q) s.at ∙ (next_below s.m lt ∙ (more ∙ ap (λ i. i + q.k) (sym s.at)))))
      (λ ge. let end : suc s.m ≡ q.n = omega (arith, ge, s.below) in
      inr (ap (λ i. i + q.k) s.at ∙ (sym more ∙ ap (λ i. q.k * i) end), ap (next q) s.at ∙ next_last s.m end))
      (cases_lt (suc s.m) q.n)

  here : (c : ℕ) → distance q c c ≡ 0
  here c =
      let l : c % whole q < whole q = mod-lt c some_whole in
      let e : c % whole q + (whole q - c % whole q) ≡ whole q = omega arith in
      ap (λ i. i % whole q) e ∙ mod_self (whole q)

  apart_below : (w c p : ℕ) → c < w → p < w → (p + (w - c)) % w ≡ 0 → c ≡ p
  apart_below w c p a b h = ⊎_elim
      (λ lt. let small : p + (w - c) < w = omega arith in omega (arith, h, lt, mod-eq_of_lt small))
      (λ ge. let e : p + (w - c) ≡ w + (p - c) = omega (arith, ge) in
      let f : p - c < w = omega arith in
      omega (arith, sym (ap (λ i. i % w) e) ∙ h, add-mod_left w (p - c), mod-eq_of_lt f, ge))
      (cases_lt p c)

  apart : (c p : ℕ) → Position q c → Position q p → distance q c p ≡ 0 → c ≡ p
  apart c p a b h =
      let lc = position_below c a in
      let lp = position_below p b in
      let e : distance q c p ≡ (p + (whole q - c)) % whole q = ap (λ i. (i + (whole q - c % whole q)) % whole q) (mod-eq_of_lt lp) ∙ ap (λ i. (p + (whole q - i)) % whole q) (mod-eq_of_lt lc) in
      apart_below (whole q) c p lc lp (sym e ∙ h)

  holds : (p j : ℕ) → Position q p → j < q.k → segment_of q (p + j) ≡ p
  holds p j h l =
      let s = segment p h in
      let e : (p + j) % q.k ≡ j = ap (λ i. (i + j) % q.k) s.at ∙ (mul-add-mod_self_left q.k s.m j ∙ mod-eq_of_lt l) in
      omega (arith, e)

  pub ring_law : RingLaw q
  ring_law = record {
    kept = λ p. grind (arith, common_steps, first_is);
    moves = moves;
    stays = λ p h. let s = segment p h in subst (λ i. Position q (next q i)) (sym s.at) (stays_at s.m s.below);
    round = λ p h. let s = segment p h in ap (onwards q q.n) s.at ∙ (reach q.n s.m s.m s.below s.below (omega arith) (inr refl) ∙ sym s.at);
    short = λ c p. mod-lt (p % whole q + (whole q - c % whole q)) some_whole;
    here = here;
    apart = apart;
    holds = holds;
  }
