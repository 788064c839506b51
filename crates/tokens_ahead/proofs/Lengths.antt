-- A word that names nothing is found among those of its length.
use Rattle.std.proofs.Common.{arith, ◌≡◌, ◌<◌, ℕ, zero, suc, Bool, true, false, ◌==◌, ◌||◌, ◌&&◌, List, [], ◌∷◌, length, refl, ap, ◌∙◌, if◌then◌else◌, codes}
use Rattle.std.specs.List.{list_any}
use Rattle.spec_value.specs.Datum.{Text, same_text, fold_case}
use Rattle.spec_program.specs.Names.{is_keyword, keywords}
use Rattle.tokens_ahead.specs.Ahead.{equal, as_long}

other_length : (s w : Text) → equal (length w) (length s) ≡ false → same_text s w ≡ false
other_length [] [] e = absurd (cc e)
other_length [] (d ∷ w) e = refl
other_length (c ∷ s) [] e = refl
other_length (c ∷ s) (d ∷ w) e = go (c == d) (other_length s w e)
  where
    go : (b : Bool) → same_text s w ≡ false → (b && same_text s w) ≡ false
    go true h = h
    go false h = refl

by_length : (s : Text) (ws : List Text) → list_any (same_text s) ws ≡ list_any (same_text s) (as_long (length s) ws)
by_length s [] = refl
by_length s (w ∷ ws) = go (equal (length w) (length s)) refl (by_length s ws)
  where
    go : (b : Bool) → equal (length w) (length s) ≡ b → list_any (same_text s) ws ≡ list_any (same_text s) (as_long (length s) ws)
        → (same_text s w || list_any (same_text s) ws) ≡ list_any (same_text s) (if b then w ∷ as_long (length s) ws else as_long (length s) ws)
    go true e h = ap (λ b. same_text s w || b) h
    go false e h = ap (λ b. b || list_any (same_text s) ws) (other_length s w e) ∙ h

folded_length : (s : Text) → length (fold_case s) ≡ length s
folded_length [] = refl
folded_length (c ∷ s) = ap suc (folded_length s)

of_length : (n : ℕ) (s : Text) → length s ≡ n → is_keyword s ≡ list_any (same_text (fold_case s)) (as_long n keywords)
of_length n s e = by_length (fold_case s) keywords ∙ ap (λ m. list_any (same_text (fold_case s)) (as_long m keywords)) (folded_length s ∙ e)

pub of_two : (s : Text) → length s ≡ 2 → is_keyword s ≡ list_any (same_text (fold_case s)) (codes "if" ∷ codes "in" ∷ [])
of_two s e = of_length 2 s e

pub of_three : (s : Text) → length s ≡ 3 → is_keyword s ≡ list_any (same_text (fold_case s)) (codes "for" ∷ codes "try" ∷ codes "any" ∷ [])
of_three s e = of_length 3 s e

pub of_four : (s : Text) → length s ≡ 4 → is_keyword s ≡ list_any (same_text (fold_case s)) (codes "else" ∷ codes "fork" ∷ [])
of_four s e = of_length 4 s e

pub of_five : (s : Text) → length s ≡ 5 → is_keyword s ≡ list_any (same_text (fold_case s)) (codes "endif" ∷ codes "while" ∷ codes "break" ∷ codes "e_div" ∷ [])
of_five s e = of_length 5 s e

pub of_six : (s : Text) → length s ≡ 6 → is_keyword s ≡ list_any (same_text (fold_case s)) (codes "elseif" ∷ codes "endfor" ∷ codes "return" ∷ codes "except" ∷ codes "endtry" ∷ codes "e_none" ∷ codes "e_type" ∷ codes "e_perm" ∷ codes "e_args" ∷ codes "e_nacc" ∷ [])
of_six s e = of_length 6 s e

pub of_seven : (s : Text) → length s ≡ 7 → is_keyword s ≡ list_any (same_text (fold_case s)) (codes "endfork" ∷ codes "finally" ∷ codes "e_varnf" ∷ codes "e_range" ∷ codes "e_quota" ∷ codes "e_float" ∷ [])
of_seven s e = of_length 7 s e

pub of_eight : (s : Text) → length s ≡ 8 → is_keyword s ≡ list_any (same_text (fold_case s)) (codes "endwhile" ∷ codes "continue" ∷ codes "e_propnf" ∷ codes "e_verbnf" ∷ codes "e_invind" ∷ codes "e_maxrec" ∷ codes "e_invarg" ∷ [])
of_eight s e = of_length 8 s e

pub of_nine : (s : Text) → length s ≡ 9 → is_keyword s ≡ list_any (same_text (fold_case s)) (codes "e_recmove" ∷ [])
of_nine s e = of_length 9 s e

short : (n : ℕ) → n < 2 → as_long n keywords ≡ []
short zero h = refl
short (suc zero) h = refl
short (suc (suc n)) h = absurd (omega (arith, h))

long : (n : ℕ) → 9 < n → as_long n keywords ≡ []
long zero h = absurd (omega (arith, h))
long (suc zero) h = absurd (omega (arith, h))
long (suc (suc zero)) h = absurd (omega (arith, h))
long (suc (suc (suc zero))) h = absurd (omega (arith, h))
long (suc (suc (suc (suc zero)))) h = absurd (omega (arith, h))
long (suc (suc (suc (suc (suc zero))))) h = absurd (omega (arith, h))
long (suc (suc (suc (suc (suc (suc zero)))))) h = absurd (omega (arith, h))
long (suc (suc (suc (suc (suc (suc (suc zero))))))) h = absurd (omega (arith, h))
long (suc (suc (suc (suc (suc (suc (suc (suc zero)))))))) h = absurd (omega (arith, h))
long (suc (suc (suc (suc (suc (suc (suc (suc (suc zero))))))))) h = absurd (omega (arith, h))
long (suc (suc (suc (suc (suc (suc (suc (suc (suc (suc n)))))))))) h = refl

none_such : (s : Text) → as_long (length s) keywords ≡ [] → is_keyword s ≡ false
none_such s e = of_length (length s) s refl ∙ ap (list_any (same_text (fold_case s))) e

pub of_short : (s : Text) → length s < 2 → is_keyword s ≡ false
of_short s h = none_such s (short (length s) h)

pub of_long : (s : Text) → 9 < length s → is_keyword s ≡ false
of_long s h = none_such s (long (length s) h)
