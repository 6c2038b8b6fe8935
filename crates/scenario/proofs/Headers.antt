-- Header lines, from the lines that a reader has left.
use Rattle.std.proofs.Common.{◌≡◌, ℕ, ◌+◌, List, [], ◌∷◌, ◌++◌, codes, sym, ap, ◌∙◌, subst, inl, inr, arith}
use Rattle.std.proofs.lemmas.List.{append_cancel_left}
use Rattle.text.specs.Header.{HeaderTaken}
use Rattle.text.specs.Reading.{left, Hands}
use Rattle.text.specs.Refusal.{refusal}
use Rattle.text.specs.declared.line.BadLine.{BadLine}
use Rattle.text.specs.declared.line.Line.{Line}
use Rattle.text.specs.declared.line.Reason.TheVariants.{Unreadable}
use Rattle.text.specs.declared.reader.Reader.{Reader}
use Rattle.scenario.specs.Written.{Number32}
use Rattle.scenario.specs.Header.{ThreadsWritten, KindWritten, Keyed, BadFirst, OtherFirst, Taken, HeaderFirst, BadHeaders}

-- behind a key there is one value's text
pub no_value : {A : Type 0} (written : List ℕ → A → Type 0) (key l value : List ℕ) → l ≡ key ++ value → ((x : A) → written value x → ⊥) → (x : A) → Keyed written key l x → ⊥
no_value written key l value e none x h =
    none x (subst (λ (bs : List ℕ). written bs x) (append_cancel_left key h.0 value (sym h.1.0 ∙ e)) h.1.1)

pub bad_other : {A : Type 0} (written : List ℕ → A → Type 0) (at : ℕ) (key : List ℕ) (n : ℕ) (ls : List (List ℕ)) (bad : BadLine) → OtherFirst at key n ls bad → BadFirst written at key n ls bad
bad_other written at key n [] bad o = o
bad_other written at key n (l ∷ ls) bad (inl o) = inl o
bad_other written at key n (l ∷ ls) bad (inr o) = inr (o.0, inl o.1)

-- the header line due was handed on, with value behind its key
module _ {A : Type 0} (written : List ℕ → A → Type 0) (key : List ℕ) (s t : Reader) (line : Line) (value : List ℕ) (H : Hands s line t) (e : line.bytes.now ≡ key ++ value) where
  pub taken : (x : A) → written value x → Taken written key s x t
  taken x w = record { line = line.bytes.now; first = H.first; short = H.short; says = (value, (e, w)); counted = H.counted }

  pub unreadable : (at : ℕ) (bad : BadLine) → ((x : A) → written value x → ⊥) → bad ≡ refusal line.number Unreadable → BadFirst written at key (s.number + 1) (left s) bad
  unreadable at bad none b =
      subst (λ (ls : List (List ℕ)). BadFirst written at key (s.number + 1) ls bad) (sym H.first)
      (inr (H.short, inr ((value, e), (no_value written key line.bytes.now value e none, b ∙ ap (λ n. refusal n Unreadable) H.numbered))))

pub number_taken : (key : List ℕ) (s : Reader) (n : ℕ) (t : Reader) → HeaderTaken key s n t → Taken Number32 key s n t
number_taken key s n t h = record { line = h.line; first = h.first; short = h.short; says = h.header; counted = h.counted }

abbrev header_first : {A : Type 0} (written : List ℕ → A → Type 0) (key : List ℕ) (s : Reader) (x : A) (t : Reader) → Taken written key s x t → HeaderFirst written key (left s)
header_first written key s x t h = record { line = h.line; rest = left t; cut = h.first; short = h.short; value = x; says = h.says }

-- the header lines before the one that is bad were taken
module _ (s a : Reader) (k : ℕ) (K : Taken Number32 (codes "k=") s k a) where
  pub bad_second : (bad : BadLine) → BadFirst Number32 2 (codes "segments=") (a.number + 1) (left a) bad → BadHeaders (left s) s.number bad
  bad_second bad f =
      let second : a.number + 1 ≡ s.number + 2 = omega (arith, K.counted) in
      inr (header_first Number32 (codes "k=") s k a K, inl (subst (λ (n : ℕ). BadFirst Number32 2 (codes "segments=") n (left a) bad) second f))

  module _ (b : Reader) (n : ℕ) (N : Taken Number32 (codes "segments=") a n b) where
    pub bad_third : (bad : BadLine) → BadFirst ThreadsWritten 3 (codes "threads=") (b.number + 1) (left b) bad → BadHeaders (left s) s.number bad
    bad_third bad f =
        let third : b.number + 1 ≡ s.number + 3 = omega (arith, K.counted, N.counted) in
        inr (
          header_first Number32 (codes "k=") s k a K,
          inr (
            header_first Number32 (codes "segments=") a n b N,
            inl (subst (λ (n : ℕ). BadFirst ThreadsWritten 3 (codes "threads=") n (left b) bad) third f),
          ),
        )

    pub bad_fourth : (c : Reader) (m : ℕ) → Taken ThreadsWritten (codes "threads=") b m c → (bad : BadLine) → BadFirst KindWritten 4 (codes "kind=") (c.number + 1) (left c) bad → BadHeaders (left s) s.number bad
    bad_fourth c m T bad f =
        let fourth : c.number + 1 ≡ s.number + 4 = omega (arith, K.counted, N.counted, T.counted) in
        inr (
          header_first Number32 (codes "k=") s k a K,
          inr (
            header_first Number32 (codes "segments=") a n b N,
            inr (
              header_first ThreadsWritten (codes "threads=") b m c T,
              subst (λ (n : ℕ). BadFirst KindWritten 4 (codes "kind=") n (left c) bad) fourth f,
            ),
          ),
        )
