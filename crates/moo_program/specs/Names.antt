-- The names that have slots while a program is compiled: those of every verb's start, and its own ones behind them.
use Rattle.std.specs.Prelude.{◌≡◌, ℕ, Bool, ◌==◌, ◌&&◌, Option, Some, None, if◌then◌else◌, List, [], ◌∷◌, ◌++◌, length, nat_lt, get_or}
use Rattle.std.specs.Borrow.{Bor}
use Rattle.std.specs.BTreeMap.{BTreeMap, get_by}
use Rattle.std.specs.Cmp.Lexicographic.{slice_cmp}
use Rattle.std.specs.Ordering.{nat_cmp}
use Rattle.spec_value.specs.Datum.{Text, same_text}
use Rattle.moo_code.specs.Names.{starting_names}
use Rattle.moo_code.specs.Slots.{slot_of}

unfoldable pub known : List Text → List Text
known own = starting_names ++ own

-- where a name stands, if it does
abbrev pub found_place : List Text → Text → Option ℕ
found_place names x = if nat_lt (slot_of names x) (length names) then Some (slot_of names x) else None

-- a map that finds each of the names at its place, and no other
abbrev pub HasPlaces : List Text → BTreeMap (Bor Text) ℕ → Type 0
HasPlaces names m = (x : Text) → get_by (λ k. slice_cmp nat_cmp x k.now) m ≡ found_place names x

-- ---- the first names, told apart by their first characters and lengths

abbrev pub candidate_by : ℕ → ℕ → ℕ
candidate_by c n =
    if c == 97 then (if n == 3 then 0 else 1)
    else (if c == 99 then 2
    else (if c == 100 then (if n == 3 then 3 else 4)
    else (if c == 101 then 5
    else (if c == 105 then (if n == 2 then 6 else (if n == 3 then 7 else 8))
    else (if c == 108 then 9
    else (if c == 110 then 10
    else (if c == 111 then 11
    else (if c == 112 then (if n == 5 then 12 else 13)
    else (if c == 115 then 14
    else (if c == 116 then 15
    else (if c == 118 then 16
    else 17)))))))))))

abbrev pub candidate : Text → ℕ
candidate [] = 17
candidate (c ∷ t) = candidate_by c (length t)

abbrev pub is_at : ℕ → Text → Bool
is_at p x = nat_lt p 17 && same_text x (get_or starting_names p [])
