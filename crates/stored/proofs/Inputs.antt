-- A stored history from its lines.
use Rattle.std.proofs.Common.{◌≡◌, ℕ, ◌+◌, List, ◌∷◌, drop, Err, codes, sym, ap, ◌∙◌, subst, inl, inr, arith}
use Rattle.history.specs.declared.event.Event.{Event}
use Rattle.text.specs.Header.{BadFirst, HeaderTaken}
use Rattle.text.specs.Lines.{lines}
use Rattle.text.specs.Reading.{input, left, Opens}
use Rattle.text.specs.declared.line.BadLine.{BadLine}
use Rattle.text.specs.declared.reader.Reader.{Reader}
use Rattle.stored.specs.Input.{Events, BadEvents, EventsRead, HeaderFirst, BadInput, Holds, Read}
use Rattle.stored.specs.declared.fault.Fault.{Fault}
use Rattle.stored.specs.declared.fault.Fault.TheVariants.{Bad, Refused, Memory}

abbrev header_first : (key : List ℕ) (s t : Reader) (n : ℕ) → HeaderTaken key s n t → HeaderFirst key (left s)
header_first key s t n H = record { line = H.line; rest = left t; cut = H.first; short = H.short; header = (n, H.header) }

module _ (bs : List ℕ) (s t : Reader) (k : ℕ) (O : Opens bs s) (K : HeaderTaken (codes "k=") s k t) where
  all_left : left s ≡ lines bs
  all_left = ap (λ p. lines (drop p (input s))) O.start ∙ ap lines O.over

  pub bad_second : (bad : BadLine) → BadFirst 2 (codes "segments=") (t.number + 1) (left t) bad → BadInput (lines bs) bad
  bad_second bad f =
      let second : t.number + 1 ≡ 2 = omega (arith, K.counted, O.none) in
      subst (λ (ls : List (List ℕ)). BadInput ls bad) all_left (inr (header_first (codes "k=") s t k K, inl (subst (λ (n : ℕ). BadFirst 2 (codes "segments=") n (left t) bad) second f)))

  module _ (u : Reader) (n : ℕ) (N : HeaderTaken (codes "segments=") t n u) where
    pub bad_events : (f : Fault) → EventsRead (left u) u.number (Err f) → Read bs (Err f)
    bad_events (Bad bad) e =
        let two : u.number ≡ 2 = omega (arith, N.counted, K.counted, O.none) in
        subst (λ (ls : List (List ℕ)). BadInput ls bad) all_left
        (inr (header_first (codes "k=") s t k K, inr (header_first (codes "segments=") t u n N, subst (λ (m : ℕ). BadEvents (left u) m bad) two e)))
    bad_events (Refused r) e = e
    bad_events Memory e = tt

    pub holds : (es : List Event) → Events (left u) es → Holds bs k n es
    holds es E = record {
      k_line = K.line;
      segments_line = N.line;
      behind = left u;
      cut = sym all_left ∙ (K.first ∙ ap (λ ls. K.line ∷ ls) N.first);
      short = (K.short, N.short);
      k_is = K.header;
      segments_is = N.header;
      events = E;
    }
