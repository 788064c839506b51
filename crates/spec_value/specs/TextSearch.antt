-- Search in texts (Programmer's Manual, "Operations on Strings": `index()`, `rindex()`, `strsub()`).
use Rattle.std.specs.Prelude.{ℕ, zero, suc, ◌-◌, Bool, true, false, ◌&&◌, ◌==◌, if◌then◌else◌, [], ◌∷◌, ◌++◌, length, Option, Some, None, option_map}
use Rattle.std.specs.Char.{to_ascii_lowercase}
use Rattle.spec_value.specs.Datum.{Text}

-- the case of A to Z counts or not
abbrev pub same_character : Bool → ℕ → ℕ → Bool
same_character true c d = c == d
same_character false c d = to_ascii_lowercase c == to_ascii_lowercase d

-- the second text stands at the front of the first
abbrev pub begins : Bool → Text → Text → Bool
begins cased s [] = true
begins cased [] (d ∷ t) = false
begins cased (c ∷ s) (d ∷ t) = same_character cased c d && begins cased s t

-- 0 where it stands at the front
abbrev pub at_front : Bool → Option ℕ
at_front true = Some 0
at_front false = None

-- the first of two places, if there is one, or else the second
abbrev pub or_else : Option ℕ → Option ℕ → Option ℕ
or_else (Some i) o = Some i
or_else None o = o

-- the first and the last place of the second text in the first, counted from 0
abbrev pub first_at : Bool → Text → Text → Option ℕ
first_at cased [] t = at_front (begins cased [] t)
first_at cased (c ∷ s) t = or_else (at_front (begins cased (c ∷ s) t)) (option_map suc (first_at cased s t))

abbrev pub last_at : Bool → Text → Text → Option ℕ
last_at cased [] t = at_front (begins cased [] t)
last_at cased (c ∷ s) t = or_else (option_map suc (last_at cased s t)) (at_front (begins cased (c ∷ s) t))

-- each place of t in s, from the left and without overlap, replaced by u; so many characters belong to the place before
abbrev pub replaced : Bool → Text → Text → ℕ → Text → Text
replaced cased t u n [] = []
replaced cased t u (suc n) (c ∷ s) = replaced cased t u n s
replaced cased t u zero (c ∷ s) = if begins cased (c ∷ s) t then u ++ replaced cased t u (length t - 1) s else c ∷ replaced cased t u 0 s

abbrev pub substituted : Bool → Text → Text → Text → Text
substituted cased s t u = replaced cased t u 0 s
