use Rattle.std.proofs.Common.{◌≡◌, ℕ, ◌+◌, ◌*◌, ◌≤◌, List, ◌∷◌, ◌++◌, IsTrue, length}
use Rattle.spec_value.specs.Datum.{Datum, of_list}
use Rattle.spec_value.specs.Datum.{are_values}
use Rattle.spec_value.specs.Literal.{data_text}
use Rattle.moo_value.specs.Depth.{data_depth}
use Rattle.moo_value.proofs.read.+read.Given as goal

abbrev pub decreases-read_items : goal.decreases-read_items
decreases-read_items l = 2 * length l.bytes.now + 1

abbrev pub decreases-read_value : goal.decreases-read_value
decreases-read_value l = 2 * length l.bytes.now

-- at least one item is left, after those that were read
abbrev pub invariant-read_items-all : goal.invariant-read_items-all
invariant-read_items-all l = record {
  shorter : length l.rest ≤ length l.bytes;
  left : (ds : List Datum) (r : List ℕ) → IsTrue (are_values (of_list ds)) → data_depth (of_list ds) ≤ l.room → l.bytes ≡ data_text (of_list ds) ++ 125 ∷ r
      → (e : Datum) × (es : List Datum) × IsTrue (are_values (of_list (e ∷ es))) × (ds ≡ l.items.items ++ e ∷ es) × (l.rest ≡ data_text (of_list (e ∷ es)) ++ 125 ∷ r) × (data_depth (of_list (e ∷ es)) ≤ l.room);
}

abbrev pub decreases-read_items-all : goal.decreases-read_items-all
decreases-read_items-all l = length l.rest
