-- Which words a verb's names spell (Programmer's Manual, "Verbs on Objects": names with stars).
use Rattle.std.specs.Prelude.{Bool, ◌&&◌, ◌==◌, nat_le, List, [], ◌∷◌, ◌++◌, length, true, if◌then◌else◌, Option, Some, None}
use Rattle.std.specs.List.{list_any}
use Rattle.spec_value.specs.Datum.{Text, fold_case, same_text}
use Rattle.spec_value.specs.TextSearch.{begins}

-- ---- one name

-- a name up to its first star
abbrev pub before_star : Text → Text
before_star [] = []
before_star (c ∷ t) = if c == 42 then [] else c ∷ before_star t

-- and what follows that star, if there is one; a later star stands for itself
abbrev pub after_star : Text → Option Text
after_star [] = None
after_star (c ∷ t) = if c == 42 then Some t else after_star t

-- `a` spells itself, `a*` each text that `a` begins, `a*b` each beginning of `ab` that is at least as long as `a`
abbrev pub spelled : Text → Option Text → Text → Bool
spelled a None word = same_text a word
spelled a (Some []) word = begins true word a
spelled a (Some (c ∷ b)) word = begins true (a ++ c ∷ b) word && nat_le (length a) (length word)

-- the case of letters ignored
unfoldable pub spells : Text → Text → Bool
spells name word = spelled (before_star (fold_case name)) (after_star (fold_case name)) (fold_case word)

-- ---- several names in one text, cut at spaces

abbrev pub unless_empty : Text → List Text → List Text
unless_empty [] ts = ts
unless_empty (c ∷ t) ts = (c ∷ t) ∷ ts

-- the beginning of a text up to its first space, and the names behind
abbrev pub cut_at_spaces : Text → Text × List Text
cut_at_spaces [] = ([], [])
cut_at_spaces (c ∷ t) =
    let r : Text × List Text = cut_at_spaces t in if c == 32 then ([], unless_empty r.0 r.1) else (c ∷ r.0, r.1)

unfoldable pub names_in : Text → List Text
names_in t = let r : Text × List Text = cut_at_spaces t in unless_empty r.0 r.1

-- one of the names spells the word
abbrev pub any_spells : Text → Text → Bool
any_spells names word = list_any (λ n. spells n word) (names_in names)
