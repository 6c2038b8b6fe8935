-- Event lines read so far.
use Rattle.std.proofs.Common.{◌≡◌, ℕ, ◌+◌, ◌≤◌, List, [], ◌∷◌, ◌++◌, length, sym, ap, ◌∙◌, arith}
use Rattle.std.proofs.lemmas.List.{append_assoc, length_push}
use Rattle.history.specs.declared.event.Event.{Event}
use Rattle.text.specs.Reading.{left, Hands}
use Rattle.text.specs.declared.line.Line.{Line}
use Rattle.text.specs.declared.reader.Reader.{Reader}
use Rattle.stored.specs.Format.{Writes}
use Rattle.stored.specs.Input.{EventLines}

pub record SoFar (ls : List (List ℕ)) (n : ℕ) (t : Reader) (es : List Event) : Type 0 where
  pub read : List (List ℕ)
  pub cut : ls ≡ read ++ left t
  pub write : EventLines read es
  pub counted : t.number ≡ n + length read

lines_push : (ls : List (List ℕ)) (es : List Event) (l : List ℕ) (e : Event) → EventLines ls es → (length l ≤ 80) × Writes l e → EventLines (ls ++ l ∷ []) (es ++ e ∷ [])
lines_push [] [] l e w x = (x, tt)
lines_push [] (f ∷ es) l e w x = absurd w
lines_push (k ∷ ls) [] l e w x = absurd w
lines_push (k ∷ ls) (f ∷ es) l e w x = (w.0, lines_push ls es l e w.1 x)

module _ (ls : List (List ℕ)) (n : ℕ) (s : Reader) (es : List Event) (S : SoFar ls n s es) where
  pub so_far_more : (line : Line) (t : Reader) (e : Event) → Hands s line t → Writes line.bytes.now e → SoFar ls n t (es ++ e ∷ [])
  so_far_more line t e H w =
      let l = line.bytes.now in
      record {
        read = S.read ++ l ∷ [];
        cut = S.cut ∙ (ap (λ xs. S.read ++ xs) H.first ∙ sym (append_assoc S.read (l ∷ []) (left t)));
        write = lines_push S.read es l e S.write (H.short, w);
        counted = omega (arith, H.counted, S.counted, length_push S.read l);
      }
