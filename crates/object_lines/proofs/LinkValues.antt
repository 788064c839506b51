-- What a link is programming nests no deeper than literals that are read.
use Rattle.std.proofs.Common.{◌≡◌, ◌≤◌, ℕ, max, List, [], ◌∷◌, Option, Some, None, IsTrue, refl, arith}
use Rattle.std.proofs.lemmas.Bool.{le-leb}
use Rattle.spec_value.specs.Datum.{Text, of_list, is_value}
use Rattle.spec_value.proofs.Entries.{both_hold}
use Rattle.spec_world.specs.World.{Programming}
use Rattle.spec_world.specs.Checkpoint.{text_list, lines_held, programming_held}
use Rattle.moo_value.specs.Depth.{depth, data_depth}
use Rattle.line_fields.specs.Values.{nests_no_deeper, is_readable}

none_below : (n : ℕ) → n ≡ 0 → max 0 n ≡ 0
none_below n e = omega arith

texts_flat : (ts : List Text) → data_depth (of_list (text_list ts)) ≡ 0
texts_flat [] = refl
texts_flat (t ∷ ts) = none_below (data_depth (of_list (text_list ts))) (texts_flat ts)

lines_flat : (ls : Option (List Text)) → depth (lines_held ls) ≤ 1
lines_flat None = omega arith
lines_flat (Some ts) = let flat = texts_flat ts in omega (arith, flat)

flat : (g : Option Programming) → depth (programming_held g) ≤ 2
flat None = omega arith
flat (Some g) = let lines = lines_flat g.lines in omega (arith, lines)

pub programming_readable : (g : Option Programming) → IsTrue (is_value (programming_held g)) → IsTrue (is_readable (programming_held g))
programming_readable g h =
    let low = flat g in
    both_hold (is_value (programming_held g)) (nests_no_deeper (programming_held g)) h (le-leb (depth (programming_held g)) 100000 (omega (arith, low)))
