-- The lines of the verbs that called another.
use Rattle.std.proofs.Common.{◌≡◌, ◌∙◌, sym, ap, ℕ, zero, suc, ◌+◌, ◌<◌, ◌≤◌, List, [], ◌∷◌, ◌++◌, length, get_or, drop, refl, arith, add-one, append_assoc, codes}
use Rattle.std.proofs.lemmas.List.{nil_from_length}
use Rattle.spec_value.specs.Datum.{Text}
use Rattle.spec_moo.specs.Leaving.{Traced}
use Rattle.spec_moo.specs.Telling.{called_from, told, verb_spelled}

-- the line of a verb that called another
abbrev pub caller_line : Traced → Text
caller_line t = codes "called from " ++ verb_spelled t

pub callers_later : (ts : List Traced) (i : ℕ) (d : Traced) → i < length ts → called_from (drop i ts) ≡ caller_line (get_or ts i d) ∷ called_from (drop (i + 1) ts)
callers_later [] i d l = absurd (omega arith)
callers_later (t ∷ ts) zero d l = refl
callers_later (t ∷ ts) (suc i) d l = let k = callers_later ts i d (omega arith) in rw add-one (rw add-one at k)

pub callers_none : (ts : List Traced) (i : ℕ) → length ts ≤ i → called_from (drop i ts) ≡ called_from []
callers_none [] zero l = refl
callers_none [] (suc i) l = refl
callers_none (t ∷ ts) zero l = absurd (omega arith)
callers_none (t ∷ ts) (suc i) l = callers_none ts i (omega arith)

-- one more caller's line
pub one_caller : (told before after : List Text) (ts : List Traced) (i : ℕ) (t : Traced) → i < length ts → t ≡ get_or ts i t
    → after ≡ before ++ caller_line t ∷ [] → before ++ called_from (drop i ts) ≡ told → after ++ called_from (drop (i + 1) ts) ≡ told
one_caller told before after ts i t l e line h =
    let rest = called_from (drop (i + 1) ts) in
    let whole : caller_line t ∷ rest ≡ called_from (drop i ts) = ap (λ (x : Traced). caller_line x ∷ rest) e ∙ sym (callers_later ts i t l) in
    ap (λ (xs : List Text). xs ++ rest) line ∙ append_assoc before (caller_line t ∷ []) rest ∙ ap (λ (xs : List Text). before ++ xs) whole ∙ h

-- and no more
pub last_caller : (told lines : List Text) (ts : List Traced) (i : ℕ) → length ts ≤ i → lines ++ called_from (drop i ts) ≡ told → lines ++ called_from [] ≡ told
last_caller told lines ts i l h = ap (λ (xs : List Text). lines ++ xs) (sym (callers_none ts i l)) ∙ h

-- the innermost verb, those that called it, and the end
pub told_whole : (whole between first : List Text) (end line why : Text) (vs : List Traced) (t : Traced) (ts : List Traced) → whole ≡ between ++ end ∷ []
    → end ≡ codes "(End of traceback)" → between ++ called_from [] ≡ first ++ called_from ts → first ≡ line ∷ [] → line ≡ verb_spelled t ++ codes ": " ++ why → vs ≡ t ∷ ts
    → whole ≡ told why vs
told_whole whole between first end line why vs t ts last end_is callers alone line_is verbs =
    last ∙ ap (λ (x : Text). between ++ x ∷ []) end_is ∙ callers ∙ ap (λ (xs : List Text). xs ++ called_from ts) alone ∙ ap (λ (x : Text). x ∷ called_from ts) line_is ∙ ap (told why) (sym verbs)

-- the end alone
pub told_none : (whole between : List Text) (end why : Text) (vs : List Traced) → whole ≡ between ++ end ∷ [] → end ≡ codes "(End of traceback)" → between ≡ []
    → length vs ≡ 0 → whole ≡ told why vs
told_none whole between end why vs last end_is none verbs =
    last ∙ ap (λ (xs : List Text). xs ++ end ∷ []) none ∙ ap (λ (x : Text). x ∷ []) end_is ∙ ap (told why) (sym (nil_from_length vs verbs))
