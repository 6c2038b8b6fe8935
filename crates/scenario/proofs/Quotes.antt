-- A quote's bytes: there is one way to cut them.
use Rattle.std.proofs.Common.{◌≡◌, ℕ, List, ◌∷◌, ◌++◌, codes, refl, sym, ◌∙◌}
use Rattle.text.specs.Cut.{Lacks}
use Rattle.text.proofs.Parts.{one_cut, digits_lack_colon}
use Rattle.scenario.specs.Quote.{side_word, QuoteWritten}
use Rattle.scenario.specs.declared.quote.Quote.{Quote}
use Rattle.scenario.specs.declared.quote.Side.{Side}
use Rattle.scenario.specs.declared.quote.Side.TheVariants.{Bid, Ask}
use Rattle.scenario.proofs.Words.{lacks}

side_lacks_colon : (side : Side) → Lacks 58 (side_word side)
side_lacks_colon Bid = lacks 58 (codes "bid") refl
side_lacks_colon Ask = lacks 58 (codes "ask") refl

-- bs cut at the first colon into a and r
module _ (bs a r : List ℕ) (e : bs ≡ a ++ 58 ∷ r) (f : Lacks 58 a) (q : Quote) (W : QuoteWritten bs q) where
  pub one_instrument : (W.instrument ≡ a) × (side_word q.side ++ 58 ∷ W.quantity ≡ r)
  one_instrument = one_cut 58 W.instrument (side_word q.side ++ 58 ∷ W.quantity) a r (digits_lack_colon W.instrument q.instrument W.instrument_is.0) f (sym W.cut ∙ e)

  -- and r into s and t
  pub one_side : (s t : List ℕ) → r ≡ s ++ 58 ∷ t → Lacks 58 s → (side_word q.side ≡ s) × (W.quantity ≡ t)
  one_side s t g h = one_cut 58 (side_word q.side) W.quantity s t (side_lacks_colon q.side) h (one_instrument.1 ∙ g)
