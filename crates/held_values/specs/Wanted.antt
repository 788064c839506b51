-- Which values can be held, one by one, the outermost first.
use Rattle.std.specs.Prelude.{ℕ, ◌+◌, Bool, true, false, ◌&&◌, List, [], ◌∷◌, ◌++◌, map, Option, Some, None}
use Rattle.spec_value.specs.Datum.{Datum, integer, object, list}
use Rattle.spec_program.specs.Construct.{Construct, Piece}
use Rattle.spec_program.specs.Place.{Kind, any_value, any_list, code_list, all_codes, Holds, holds, walks_list, walks_range, why_left, Part, part_at, is_call}
use Rattle.spec_world.specs.WellFormed.{nonempty, kind_fits, held_fits, is_loop, loops}
use Rattle.held_values.specs.declared.fits.Wanted.{Wanted}
use Rattle.held_values.specs.declared.fits.Wanted.TheVariants.{Any, List as AnyList, AllCodes, WalkedList, Turns, Current, Last, WhyLeft}

abbrev pub has_items : Datum → Bool
has_items (list vs) = nonempty vs
has_items _ = false

abbrev pub is_counted : Datum → Bool
is_counted (integer n) = true
is_counted (object n) = true
is_counted _ = false

-- what goes with the value before, if one was held
abbrev pub are_turns : Option Datum → Datum → Bool
are_turns None v = false
are_turns (Some vs) v = held_fits 0 walks_list (vs ∷ v ∷ [])

abbrev pub is_last : Option Datum → Datum → Bool
is_last None v = false
is_last (Some a) v = held_fits 0 walks_range (a ∷ v ∷ [])

abbrev pub wanted_fits : Wanted → Option Datum → Datum → Bool
wanted_fits Any before v = true
wanted_fits AnyList before v = kind_fits any_list v
wanted_fits AllCodes before v = kind_fits all_codes v
wanted_fits WalkedList before v = has_items v
wanted_fits Turns before v = are_turns before v
wanted_fits Current before v = is_counted v
wanted_fits Last before v = is_last before v
wanted_fits (WhyLeft around) before v = held_fits around why_left (v ∷ [])

-- as many values as are wanted, each behind the one before it
abbrev pub all_fit : Option Datum → List Wanted → List Datum → Bool
all_fit before [] [] = true
all_fit before (w ∷ ws) (v ∷ vs) = wanted_fits w before v && all_fit (Some v) ws vs
all_fit before _ _ = false

-- ---- what is wanted of constructs

abbrev pub of_kind : Kind → Wanted
of_kind any_value = Any
of_kind any_list = AnyList
of_kind code_list = AnyList
of_kind all_codes = AllCodes

-- with so many loops around
abbrev pub wanted_in : ℕ → Holds → List Wanted
wanted_in around (holds kinds) = map of_kind kinds
wanted_in around walks_list = WalkedList ∷ Turns ∷ []
wanted_in around walks_range = Current ∷ Last ∷ []
wanted_in around why_left = WhyLeft around ∷ []

abbrev pub wanted_of : ℕ → Option Part → List Wanted
wanted_of around None = []
wanted_of around (Some x) = wanted_in around x.held

-- by pieces, the outermost first
abbrev pub wanted_by : List Piece → List Wanted
wanted_by [] = []
wanted_by (p ∷ ps) = wanted_by ps ++ wanted_of (loops ps) (part_at p.construct p.part)

-- down a path to a call, behind what is wanted already
abbrev pub in_part : Option Part → (Part → Option (List Wanted)) → Option (List Wanted)
in_part None go = None
in_part (Some x) go = go x

abbrev pub in_tree : Option Construct → (Construct → Option (List Wanted)) → Option (List Wanted)
in_tree None go = None
in_tree (Some d) go = go d

abbrev pub if_call : Bool → List Wanted → Option (List Wanted)
if_call false ws = None
if_call true ws = Some ws

abbrev pub wanted_down : ℕ → List Wanted → Construct → List ℕ → Option (List Wanted)
wanted_down around ws c [] = if_call (is_call c) ws
wanted_down around ws c (n ∷ path) = in_part (part_at c n) (λ x. in_tree x.tree (λ d. wanted_down (around + is_loop c) (ws ++ wanted_in around x.held) d path))
