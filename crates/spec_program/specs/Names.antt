-- Words that programs write (Programmer's Manual, "The MOO Programming Language"): identifiers and keywords.
use Rattle.std.specs.Prelude.{ℕ, Bool, false, not, ◌&&◌, ◌||◌, ◌==◌, nat_le, List, [], ◌∷◌, codes}
use Rattle.std.specs.List.{list_any, list_all}
use Rattle.spec_value.specs.Datum.{Text, fold_case, same_text}

-- a letter of either case, or an underscore
abbrev pub is_letter : ℕ → Bool
is_letter c = (c == 95) || ((nat_le 97 c && nat_le c 122) || (nat_le 65 c && nat_le c 90))

abbrev pub is_digit : ℕ → Bool
is_digit c = nat_le 48 c && nat_le c 57

abbrev pub is_word_character : ℕ → Bool
is_word_character c = is_letter c || is_digit c

-- a letter, and then letters and digits
abbrev pub is_word : Text → Bool
is_word [] = false
is_word (c ∷ t) = is_letter c && list_all is_word_character t

-- in lower case
abbrev pub keywords : List Text
keywords =
    codes "if" ∷ codes "else" ∷ codes "elseif" ∷ codes "endif" ∷ codes "for" ∷ codes "in" ∷ codes "endfor" ∷ codes "while" ∷ codes "endwhile"
    ∷ codes "break" ∷ codes "continue" ∷ codes "return" ∷ codes "fork" ∷ codes "endfork" ∷ codes "try" ∷ codes "except" ∷ codes "finally" ∷ codes "endtry" ∷ codes "any"
    ∷ codes "e_none" ∷ codes "e_type" ∷ codes "e_div" ∷ codes "e_perm" ∷ codes "e_propnf" ∷ codes "e_verbnf" ∷ codes "e_varnf" ∷ codes "e_invind"
    ∷ codes "e_recmove" ∷ codes "e_maxrec" ∷ codes "e_range" ∷ codes "e_args" ∷ codes "e_nacc" ∷ codes "e_invarg" ∷ codes "e_quota" ∷ codes "e_float" ∷ []

-- the case of its letters ignored
abbrev pub is_keyword : Text → Bool
is_keyword t = list_any (same_text (fold_case t)) keywords

-- a word that is free to name something
abbrev pub is_identifier : Text → Bool
is_identifier t = is_word t && not (is_keyword t)
