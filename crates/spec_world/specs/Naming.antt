-- Which object a player means (Programmer's Manual, "The Built-in Command Parser": matching of object strings).
use Rattle.std.specs.Prelude.{ℕ, ℤ, neg_ℤ, pos, Bool, true, ◌&&◌, ◌*◌, ◌+◌, ◌-◌, ◌==◌, nat_le, List, [], ◌∷◌, ◌++◌, filter, is_some, if◌then◌else◌, Option, Some, None, codes}
use Rattle.std.specs.List.{list_any}
use Rattle.spec_value.specs.Datum.{Datum, text, list, Data, no_data, item, Text, fold_case, same_text}
use Rattle.spec_value.specs.TextSearch.{begins}
use Rattle.spec_world.specs.World.{World, Object, object_at}
use Rattle.spec_world.specs.Inherit.{property_value}

-- ---- the answers that are no object

abbrev pub nothing : ℤ
nothing = neg_ℤ (pos 1)

abbrev pub ambiguous : ℤ
ambiguous = neg_ℤ (pos 2)

abbrev pub failed_match : ℤ
failed_match = neg_ℤ (pos 3)

-- ---- an object by its number: `#`, perhaps `-`, and digits

abbrev pub is_digit : ℕ → Bool
is_digit c = nat_le 48 c && nat_le c 57

-- digits alone, behind the number that those before them say
abbrev pub number_after : ℕ → Text → Option ℕ
number_after n [] = Some n
number_after n (c ∷ t) = if is_digit c then number_after (n * 10 + (c - 48)) t else None

abbrev pub digits_number : Text → Option ℕ
digits_number [] = None
digits_number (c ∷ t) = number_after 0 (c ∷ t)

abbrev pub negated : Option ℕ → Option ℤ
negated None = None
negated (Some n) = Some (neg_ℤ (pos n))

abbrev pub not_negated : Option ℕ → Option ℤ
not_negated None = None
not_negated (Some n) = Some (pos n)

abbrev pub signed_number : Text → Option ℤ
signed_number [] = None
signed_number (c ∷ t) = if c == 45 then negated (digits_number t) else not_negated (digits_number (c ∷ t))

abbrev pub object_number : Text → Option ℤ
object_number [] = None
object_number (c ∷ t) = if c == 35 then signed_number t else None

-- ---- an object by its names

abbrev pub texts_in : Data → List Text
texts_in no_data = []
texts_in (item (text t) xs) = t ∷ texts_in xs
texts_in (item x xs) = texts_in xs

-- the texts of a value that is a list
abbrev pub aliases_in : Option Datum → List Text
aliases_in (Some (list xs)) = texts_in xs
aliases_in _ = []

abbrev pub name_of : Option Object → List Text
name_of None = []
name_of (Some x) = x.header.name ∷ []

-- its name, and its aliases, which anyone may read here
abbrev pub names_of : World → ℤ → List Text
names_of w o = name_of (object_at w o) ++ aliases_in (property_value w o (codes "aliases"))

-- the case of letters ignored
abbrev pub is_named : World → Text → ℤ → Bool
is_named w t o = list_any (λ n. same_text (fold_case n) (fold_case t)) (names_of w o)

abbrev pub begins_a_name : World → Text → ℤ → Bool
begins_a_name w t o = list_any (λ n. begins true (fold_case n) (fold_case t)) (names_of w o)

abbrev pub contents_of : Option Object → List ℤ
contents_of None = []
contents_of (Some x) = x.contents

abbrev pub location_of : Option Object → ℤ
location_of None = nothing
location_of (Some x) = x.header.location

-- what the player holds, and what is in the room
abbrev pub within_reach : World → ℤ → List ℤ
within_reach w player =
    contents_of (object_at w player) ++ contents_of (object_at w (location_of (object_at w player)))

-- one object gives itself, several are ambiguous, none fails
abbrev pub one_of : List ℤ → ℤ
one_of [] = failed_match
one_of (o ∷ []) = o
one_of (o ∷ p ∷ os) = ambiguous

-- those that match exactly count alone where there are any
abbrev pub by_sets : List ℤ → List ℤ → ℤ
by_sets [] beginning = one_of beginning
by_sets (o ∷ os) beginning = one_of (o ∷ os)

abbrev pub by_name : World → ℤ → Text → ℤ
by_name w player t = by_sets (filter (is_named w t) (within_reach w player)) (filter (begins_a_name w t) (within_reach w player))

-- ---- an object by a text

abbrev pub is_valid : World → ℤ → Bool
is_valid w o = is_some (object_at w o)

abbrev pub by_words : World → ℤ → Text → ℤ
by_words w player t =
    if same_text (fold_case t) (codes "me") then player
    else if same_text (fold_case t) (codes "here") then location_of (object_at w player)
    else by_name w player t

abbrev pub by_number : World → ℤ → Text → Option ℤ → ℤ
by_number w player t None = by_words w player t
by_number w player t (Some o) = if is_valid w o then o else by_words w player t

unfoldable pub name_object : World → ℤ → Text → ℤ
name_object w player [] = nothing
name_object w player (c ∷ t) = by_number w player (c ∷ t) (object_number (c ∷ t))
