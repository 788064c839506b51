-- The names so far, and those from the next record that defines any, are all names.
use Rattle.std.proofs.Common.{◌≡◌, ◌≤◌, ◌++◌, ℕ, List, Option, Some, length}
use Rattle.upwards.specs.Ways.{IsWay, IsKnown, first_filled, parents_of}
use Rattle.named_objects.specs.Ways.{defines_of, filled_of, names_at}
use Rattle.named_objects.proofs.names.names_of.Given as goal

abbrev pub invariant-loop-definer : goal.invariant-loop-definer
invariant-loop-definer l =
    (way : List ℕ) → length (parents_of l.upwards) ≡ length l.records → IsKnown (filled_of l.records) l.upwards
    → IsWay (parents_of l.upwards) (Some l.place) way → l.count ≡ length (names_at (defines_of l.records) way)
    → (o : Option ℕ) × (later : List ℕ) × IsWay (parents_of l.upwards) o later × (l.definer ≡ first_filled (filled_of l.records) later)
    × (l.names.items ++ names_at (defines_of l.records) later ≡ names_at (defines_of l.records) way) × (l._definer ≤ length l.names.items)
