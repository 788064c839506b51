-- Programs by their lines, and where their verbs stand.
use Rattle.std.specs.Prelude.{ℕ, ◌+◌, ◌&&◌, Bool, true, List, [], ◌∷◌, length, take, if◌then◌else◌, Option, Some, None, option_map}
use Rattle.std.specs.Cmp.Lexicographic.{pointwise}
use Rattle.spec_value.specs.Datum.{Text, same_text, Datum, integer, object, list}
use Rattle.spec_program.specs.Tree.{Program}
use Rattle.spec_program.specs.Trees.{is_tree}
use Rattle.spec_program.specs.Spelling.{canonical_lines}
use Rattle.spec_program.specs.ReadPrograms.{Parsed, program, faulty, parsed_lines}
use Rattle.spec_program.specs.Construct.{Construct}
use Rattle.spec_program.specs.Place.{Holds, holds, walks_list, walks_range, Part, part_at, held_count, is_call}
use Rattle.spec_faults.specs.Plain.{only_if}
use Rattle.spec_world.specs.WellFormed.{nonempty, kinds_fit, held_fits, is_loop}

abbrev pub are_lines_of : Program → List Text → Bool
are_lines_of p ts = pointwise same_text (canonical_lines p) ts && is_tree p

abbrev pub told : Parsed → List Text → Option Program
told (faulty f) ts = None
told (program p) ts = only_if (are_lines_of p ts) p

-- the program whose canonical lines they are
abbrev pub program_of : List Text → Option Program
program_of ts = told (parsed_lines ts) ts

-- ---- places

abbrev pub in_tree : ℕ × Holds → Option Construct → (Construct → Option (List (ℕ × Holds))) → Option (List (ℕ × Holds))
in_tree h None go = None
in_tree h (Some d) go = option_map (λ hs. h ∷ hs) (go d)

abbrev pub in_part : ℕ → Option Part → (Construct → Option (List (ℕ × Holds))) → Option (List (ℕ × Holds))
in_part loops None go = None
in_part loops (Some x) go = in_tree (loops, x.held) x.tree go

-- what is held on the way to a call, the outermost first, each with how many loops are around; none where the path leads to no call
abbrev pub holds_down : ℕ → Construct → List ℕ → Option (List (ℕ × Holds))
holds_down loops c [] = if is_call c then Some [] else None
holds_down loops c (n ∷ path) = in_part loops (part_at c n) (λ d. holds_down (is_loop c + loops) d path)

abbrev pub total : List (ℕ × Holds) → ℕ
total [] = 0
total (h ∷ hs) = held_count h.1 + total hs

-- values that are held can begin so: of a list and of a range the first stands before the second
abbrev pub begins_held : ℕ → Holds → List Datum → Bool
begins_held around (holds kinds) vs = kinds_fit (take (length vs) kinds) vs
begins_held around walks_list (list vs ∷ []) = nonempty vs
begins_held around walks_range (integer a ∷ []) = true
begins_held around walks_range (object a ∷ []) = true
begins_held around h vs = held_fits around h vs
