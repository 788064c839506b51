use Rattle.std.proofs.Common.{◌≡◌, ℕ, ◌+◌, ◌*◌, ◌≤◌, List, ◌∷◌, ◌++◌, IsTrue, length}
use Rattle.spec_value.specs.Datum.{Datum, of_list}
use Rattle.spec_value.specs.Datum.{are_values}
use Rattle.spec_value.specs.Literal.{data_text}
use Rattle.moo_value.specs.Depth.{data_depth}
use Rattle.line_fields.proofs.ValuesTold.{Led}
use Rattle.line_fields.proofs.spelled.+read.Given as goal

abbrev pub decreases-front_items : goal.decreases-front_items
decreases-front_items l = 2 * length l.bytes.now + 1

abbrev pub decreases-front_value : goal.decreases-front_value
decreases-front_value l = 2 * length l.bytes.now

-- at least one item is left, after those that were read
abbrev pub invariant-front_items-all : goal.invariant-front_items-all
invariant-front_items-all l = record {
  shorter : length l.rest ≤ length l.bytes;
  left : (ds : List Datum) (r : List ℕ) → IsTrue (are_values (of_list ds)) → data_depth (of_list ds) ≤ l.room → l.bytes ≡ data_text (of_list ds) ++ 125 ∷ r
      → (e : Datum) × (es : List Datum) × IsTrue (are_values (of_list (e ∷ es))) × (ds ≡ l.items.items ++ e ∷ es) × (l.rest ≡ data_text (of_list (e ∷ es)) ++ 125 ∷ r) × (data_depth (of_list (e ∷ es)) ≤ l.room);
  told : Led l.room l.bytes l.items.items l.rest;
}

abbrev pub decreases-front_items-all : goal.decreases-front_items-all
decreases-front_items-all l = length l.rest
