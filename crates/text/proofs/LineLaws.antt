-- The lines of an input: the first of them, and that there is one way only to cut an input into lines.
use Rattle.std.proofs.Common.{◌≡◌, ℕ, ◌+◌, ◌<◌, eqb, List, [], ◌∷◌, ◌++◌, length, take, drop, sym, refl, ap, ◌∙◌, ⊎_elim, arith}
use Rattle.std.proofs.lemmas.List.{take_at, take_all, drop_at, drop-drop, drop_all}
use Rattle.std.proofs.lemmas.Bool.{cases_Bool, cond-false, cond-true, cond_both, eqb-true, eqb-false, ne_eqb}
use Rattle.text.specs.Cut.{Lacks}
use Rattle.text.specs.Lines.{onto_first, lines, ended, closed, AllLack, LinesOf, FirstLine}
use Rattle.text.proofs.Parts.{lacks_more, lacks_rest}

lines_other : (b : ℕ) (bs : List ℕ) → (b ≡ 10 → ⊥) → lines (b ∷ bs) ≡ onto_first b (lines bs)
lines_other b bs n = cond-false (eqb b 10) _ _ (ne_eqb b 10 n)

lines_at_ten : (a b : List ℕ) → Lacks 10 a → lines (a ++ 10 ∷ b) ≡ a ∷ lines b
lines_at_ten [] b h = refl
lines_at_ten (x ∷ a) b h = lines_other x (a ++ 10 ∷ b) (h 0 (omega arith)) ∙ ap (onto_first x) (lines_at_ten a b (lacks_rest 10 x a h))

lines_one : (x : ℕ) (a : List ℕ) → Lacks 10 (x ∷ a) → lines (x ∷ a) ≡ (x ∷ a) ∷ []
lines_one x [] h = lines_other x [] (h 0 (omega arith))
lines_one x (y ∷ a) h = lines_other x (y ∷ a) (h 0 (omega arith)) ∙ ap (onto_first x) (lines_one y a (lacks_rest 10 x (y ∷ a) h))

pub first_to_ten : (bs a b : List ℕ) → bs ≡ a ++ 10 ∷ b → Lacks 10 a → FirstLine bs a
first_to_ten bs a b e h =
    let behind : drop (length a + 1) bs ≡ b = sym (drop-drop 1 (length a) bs) ∙ ap (drop 1) (ap (drop (length a)) e ∙ drop_at a (10 ∷ b) (length a) refl) in
    record {
      front = sym (ap (take (length a)) e ∙ take_at a (10 ∷ b) (length a) refl);
      first = ap lines e ∙ lines_at_ten a b h ∙ ap (λ r. a ∷ lines r) (sym behind);
    }

pub first_is_all : (bs : List ℕ) → 0 < length bs → Lacks 10 bs → FirstLine bs bs
first_is_all [] l h = absurd (omega arith)
first_is_all (x ∷ a) l h = record {
  front = sym (take_all (length (x ∷ a)) (x ∷ a) (omega arith));
  first = lines_one x a h ∙ ap (λ r. (x ∷ a) ∷ lines r) (sym (drop_all (length (x ∷ a) + 1) (x ∷ a) (omega arith)));
}

all_lack_onto : (b : ℕ) (ls : List (List ℕ)) → (b ≡ 10 → ⊥) → AllLack 10 ls → AllLack 10 (onto_first b ls)
all_lack_onto b [] n h = (lacks_more 10 b [] n (λ k l e. omega arith), tt)
all_lack_onto b (l ∷ ls) n h = (lacks_more 10 b l n h.0, h.1)

lines_lack : (bs : List ℕ) → AllLack 10 (lines bs)
lines_lack [] = tt
lines_lack (b ∷ bs) = cond_both (eqb b 10) _ _ (AllLack 10)
    (λ e. (λ k l f. omega arith, lines_lack bs))
    (λ e. all_lack_onto b (lines bs) (eqb-false b 10 e) (lines_lack bs))

some_onto : (b : ℕ) (ls : List (List ℕ)) → 0 < length (onto_first b ls)
some_onto b [] = omega arith
some_onto b (l ∷ ls) = omega arith

some_line : (b : ℕ) (bs : List ℕ) → 0 < length (lines (b ∷ bs))
some_line b bs = cond_both (eqb b 10) _ _ (λ ls. 0 < length ls) (λ e. omega arith) (λ e. some_onto b (lines bs))

ended_onto : (b : ℕ) (ls : List (List ℕ)) → 0 < length ls → ended (onto_first b ls) ≡ b ∷ ended ls
ended_onto b [] h = absurd (omega arith)
ended_onto b (l ∷ ls) h = refl

ended_lines : (bs : List ℕ) → ended (lines bs) ≡ closed bs
ended_lines [] = refl
ended_lines (b ∷ []) = ⊎_elim
    (λ e. ap ended (cond-true _ _ _ e) ∙ (ap (λ c. c ∷ []) (sym (eqb-true b 10 e)) ∙ sym (cond-true _ _ _ e)))
    (λ e. ap ended (cond-false _ _ _ e) ∙ sym (cond-false _ _ _ e))
    (cases_Bool (eqb b 10))
ended_lines (b ∷ c ∷ bs) = cond_both (eqb b 10) _ _ (λ ls. ended ls ≡ b ∷ closed (c ∷ bs))
    (λ e. ap (λ x. x ∷ ended (lines (c ∷ bs))) (sym (eqb-true b 10 e)) ∙ ap (λ r. b ∷ r) (ended_lines (c ∷ bs)))
    (λ e. ended_onto b (lines (c ∷ bs)) (some_line c bs) ∙ ap (λ r. b ∷ r) (ended_lines (c ∷ bs)))

lines_ended : (ls : List (List ℕ)) → AllLack 10 ls → lines (ended ls) ≡ ls
lines_ended [] h = refl
lines_ended (l ∷ ls) h = lines_at_ten l (ended ls) h.0 ∙ ap (λ r. l ∷ r) (lines_ended ls h.1)

pub lines_stand : (bs : List ℕ) → LinesOf bs (lines bs)
lines_stand bs = (lines_lack bs, ended_lines bs)

pub lines_only : (bs : List ℕ) (ls : List (List ℕ)) → LinesOf bs ls → ls ≡ lines bs
lines_only bs ls h =
    sym (lines_ended ls h.0) ∙ (ap lines (h.1 ∙ sym (ended_lines bs)) ∙ lines_ended (lines bs) (lines_lack bs))
