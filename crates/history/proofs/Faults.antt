-- Which faults an event shows, by its kind.
use Rattle.std.proofs.Common.{◌≡◌, ℕ, ◌≤◌, List, refl, inl, inr, ⊎_elim, arith}
use Rattle.history.specs.Events.{kind_at}
use Rattle.history.specs.Faults.{Fault1, Fault2, Fault3, Fault4, Fault5, Shows, Clean, Lowest}
use Rattle.history.specs.declared.event.Event.{Event}

pub shows_cases : (k n : ℕ) (h : List Event) (f i : ℕ) (P : Type 0) → Shows k n h f i
    → (f ≡ 1 → Fault1 h i → P) → (f ≡ 2 → Fault2 k h i → P) → (f ≡ 3 → Fault3 k h i → P) → (f ≡ 4 → Fault4 h i → P) → (f ≡ 5 → Fault5 k n h i → P) → P
shows_cases k n h f i P s a b c d e =
    ⊎_elim (λ p. a p.0 p.1) (⊎_elim (λ p. b p.0 p.1) (⊎_elim (λ p. c p.0 p.1) (⊎_elim (λ p. d p.0 p.1) (λ p. e p.0 p.1)))) s

module _ (k n : ℕ) (h : List Event) (i : ℕ) where
  pub lowest1 : Fault1 h i → Lowest k n h 1 i
  lowest1 f = (inl (refl, f), λ g lt s. shows_cases k n h g i ⊥ s (λ e _. omega arith) (λ e _. omega arith) (λ e _. omega arith) (λ e _. omega arith) (λ e _. omega arith))

  pub lowest2 : (Fault1 h i → ⊥) → Fault2 k h i → Lowest k n h 2 i
  lowest2 no1 f = (inr (inl (refl, f)), λ g lt s. shows_cases k n h g i ⊥ s (λ e w. no1 w) (λ e _. omega arith) (λ e _. omega arith) (λ e _. omega arith) (λ e _. omega arith))

  pub lowest3 : (Fault1 h i → ⊥) → (Fault2 k h i → ⊥) → Fault3 k h i → Lowest k n h 3 i
  lowest3 no1 no2 f = (inr (inr (inl (refl, f))), λ g lt s. shows_cases k n h g i ⊥ s (λ e w. no1 w) (λ e w. no2 w) (λ e _. omega arith) (λ e _. omega arith) (λ e _. omega arith))

  pub lowest4 : Fault4 h i → Lowest k n h 4 i
  lowest4 f = (
    inr (inr (inr (inl (refl, f)))),
    λ g lt s. shows_cases k n h g i ⊥ s
        (λ e w. ⊎_elim (λ p. omega (arith, p.0, f.0)) (λ p. omega (arith, p.0, f.0)) w) (λ e w. omega (arith, w.0, f.0)) (λ e w. omega (arith, w.0, f.0)) (λ e _. omega arith) (λ e _. omega arith),
  )

  pub lowest5 : (Fault1 h i → ⊥) → Fault5 k n h i → Lowest k n h 5 i
  lowest5 no1 f = (
    inr (inr (inr (inr (refl, f)))),
    λ g lt s. shows_cases k n h g i ⊥ s
        (λ e w. no1 w) (λ e w. omega (arith, w.0, f.0)) (λ e w. omega (arith, w.0, f.0)) (λ e w. omega (arith, w.0, f.0)) (λ e _. omega arith),
  )

  pub clean5 : kind_at h i ≡ 5 → (Fault1 h i → ⊥) → (Fault2 k h i → ⊥) → (Fault3 k h i → ⊥) → Clean k n h i
  clean5 e no1 no2 no3 g s = shows_cases k n h g i ⊥ s (λ _ w. no1 w) (λ _ w. no2 w) (λ _ w. no3 w) (λ _ w. omega (arith, w.0)) (λ _ w. omega (arith, w.0))

  pub clean4 : kind_at h i ≡ 4 → (Fault1 h i → ⊥) → (Fault5 k n h i → ⊥) → Clean k n h i
  clean4 e no1 no5 g s = shows_cases k n h g i ⊥ s (λ _ w. no1 w) (λ _ w. omega (arith, w.0)) (λ _ w. omega (arith, w.0)) (λ _ w. omega (arith, w.0)) (λ _ w. no5 w)

  pub clean6 : kind_at h i ≡ 6 → (Fault4 h i → ⊥) → Clean k n h i
  clean6 e no4 g s = shows_cases k n h g i ⊥ s (λ _ w. ⊎_elim (λ p. omega (arith, p.0)) (λ p. omega (arith, p.0)) w) (λ _ w. omega (arith, w.0)) (λ _ w. omega (arith, w.0)) (λ _ w. no4 w) (λ _ w. omega (arith, w.0))

  -- an event 1, 2 or 3 shows no fault
  pub clean_up_to_3 : kind_at h i ≤ 3 → Clean k n h i
  clean_up_to_3 e g s = shows_cases k n h g i ⊥ s (λ _ w. ⊎_elim (λ p. omega (arith, p.0)) (λ p. omega (arith, p.0)) w) (λ _ w. omega (arith, w.0)) (λ _ w. omega (arith, w.0)) (λ _ w. omega (arith, w.0)) (λ _ w. omega (arith, w.0))
