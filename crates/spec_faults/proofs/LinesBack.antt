-- A text is cut in its lines.
use Rattle.std.proofs.Common.{◌≡◌, ℕ, ◌==◌, Bool, true, false, not, List, [], ◌∷◌, ◌++◌, IsTrue, refl, ap, sym, subst, ◌∙◌, append_assoc, arith}
use Rattle.std.proofs.lemmas.Bool.Decides.{nat_tests}
use Rattle.spec_value.specs.Datum.{Text}
use Rattle.spec_value.proofs.Entries.{first_holds, second_holds, both_hold}
use Rattle.spec_world.specs.Checkpoint.{with_line_ends}
use Rattle.spec_checkpoint.specs.Lines.{is_line, are_lines}
use Rattle.spec_faults.specs.Cutting.{Cut, onto, with_character, lines_of}
use Rattle.spec_faults.specs.FieldLaws.{AreLines, LinesSpelled, LinesTold}

no_end : (c : ℕ) → IsTrue (not (c == 10)) → (c == 10) ≡ false
no_end c h = grind (arith, nat_tests)

-- ---- what is cut

is_end : (c : ℕ) → (c == 10) ≡ true → c ≡ 10
is_end c h = grind (arith, nat_tests)

is_other : (c : ℕ) → (c == 10) ≡ false → IsTrue (not (c == 10))
is_other c h = ap not h

onto_whole : (c : ℕ) (ts : List Text) (r : Text) → IsTrue (not (c == 10)) → IsTrue (are_lines ts) → IsTrue (is_line r) → AreLines (c ∷ (with_line_ends ts ++ r)) (onto c ts r)
onto_whole c [] r h k l = record { whole = refl; lines = refl; rest = both_hold (not (c == 10)) (is_line r) h l }
onto_whole c (t ∷ ts) r h k l =
    record {
      whole = refl;
      lines = both_hold (is_line (c ∷ t)) (are_lines ts) (both_hold (not (c == 10)) (is_line t) h (first_holds (is_line t) (are_lines ts) k)) (second_holds (is_line t) (are_lines ts) k);
      rest = l;
    }

character_whole : (b : Bool) (c : ℕ) (t : Text) (k : Cut) → (c == 10) ≡ b → AreLines t k → AreLines (c ∷ t) (with_character b c k)
character_whole true c t k h a = let e = sym (is_end c h) in record { whole = λ i. e i ∷ a.whole i; lines = a.lines; rest = a.rest }
character_whole false c t k h a = subst (λ u. AreLines (c ∷ u) (onto c k.lines k.rest)) a.whole (onto_whole c k.lines k.rest (is_other c h) a.lines a.rest)

pub lines_spelled : LinesSpelled
lines_spelled [] = record { whole = refl; lines = refl; rest = refl }
lines_spelled (c ∷ t) = character_whole (c == 10) c t (lines_of t) refl (lines_spelled t)

-- ---- lines are cut again

abbrev cut : List Text → Text → Cut
cut ts r = record { lines = ts; rest = r }

line_back : (t u r : Text) (ts : List Text) → IsTrue (is_line t) → lines_of u ≡ cut ts r → lines_of (t ++ 10 ∷ u) ≡ cut (t ∷ ts) r
line_back [] u r ts h e = ap (λ k. record { lines = [] ∷ k.lines; rest = k.rest }) e
line_back (c ∷ t) u r ts h e =
    ap (λ b. with_character b c (lines_of (t ++ 10 ∷ u))) (no_end c (first_holds (not (c == 10)) (is_line t) h))
    ∙ ap (λ k. onto c k.lines k.rest) (line_back t u r ts (second_holds (not (c == 10)) (is_line t) h) e)

rest_back : (r : Text) → IsTrue (is_line r) → lines_of r ≡ cut [] r
rest_back [] h = refl
rest_back (c ∷ r) h =
    ap (λ b. with_character b c (lines_of r)) (no_end c (first_holds (not (c == 10)) (is_line r) h))
    ∙ ap (λ k. onto c k.lines k.rest) (rest_back r (second_holds (not (c == 10)) (is_line r) h))

pub lines_told : LinesTold
lines_told [] r h k = rest_back r k
lines_told (t ∷ ts) r h k =
    ap lines_of (append_assoc t (10 ∷ with_line_ends ts) r)
    ∙ line_back t (with_line_ends ts ++ r) r ts (first_holds (is_line t) (are_lines ts) h) (lines_told ts r (second_holds (is_line t) (are_lines ts) h) k)
