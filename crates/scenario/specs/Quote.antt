-- Quotes as text.
use Rattle.std.specs.Prelude.{◌≡◌, ℕ, List, ◌∷◌, ◌++◌, codes, decimal}
use Rattle.std.specs.Fmt.{signed_decimal}
use Rattle.scenario.specs.declared.quantity.Quantity.{Quantity}
use Rattle.scenario.specs.declared.quote.Quote.{Quote}
use Rattle.scenario.specs.declared.quote.Side.{Side}
use Rattle.scenario.specs.declared.quote.Side.TheVariants.{Bid, Ask}
use Rattle.scenario.specs.Written.{Number32, Signed}

abbrev pub side_word : Side → List ℕ
side_word Bid = codes "bid"
side_word Ask = codes "ask"

-- a quote as it is printed
abbrev pub quote_text : Quote → List ℕ
quote_text q = decimal q.instrument ++ (codes ":" ++ (side_word q.side ++ (codes ":" ++ signed_decimal q.quantity.number)))

abbrev pub SideWritten : List ℕ → Side → Type 0
SideWritten bs side = bs ≡ side_word side

abbrev pub QuantityWritten : List ℕ → Quantity → Type 0
QuantityWritten bs q = Signed bs q.number

-- an instrument, a side and a quantity, with colons (58) between them
pub record QuoteWritten (bs : List ℕ) (q : Quote) : Type 0 where
  pub instrument : List ℕ
  pub quantity : List ℕ
  pub cut : bs ≡ instrument ++ 58 ∷ (side_word q.side ++ 58 ∷ quantity)
  pub instrument_is : Number32 instrument q.instrument
  pub quantity_is : QuantityWritten quantity q.quantity
