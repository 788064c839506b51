use Rattle.std.proofs.Common.{◌≡◌, ℕ, ◌-◌, ◌++◌, List, length, drop, None, IsTrue}
use Rattle.std.specs.Prelude.{slice_get}
use Rattle.std.specs.List.{list_all}
use Rattle.spec_value.specs.Datum.{Datum, Text}
use Rattle.spec_world.specs.Checkpoint.{literal_lines}
use Rattle.held_values.specs.Wanted.{all_fit}
use Rattle.line_fields.specs.Values.{is_readable}
use Rattle.spec_program.specs.Place.{Holds}
use Rattle.checkpoint_lines.specs.Rows.{Left}
use Rattle.checkpoint_lines.specs.Told.{HasRoom}
use Rattle.task_lines.specs.Wanting.{IsWantedBy}
use Rattle.task_lines.proofs.HeldLines.{Reading}
use Rattle.task_lines.proofs.held.next_values.Given as goal

-- the values that are left, where all can be read, and what is awaited of them whatever is read
abbrev pub invariant-values : goal.invariant-values
invariant-values l =
    ((vs : List Datum) (rest : List Text) → IsTrue (list_all is_readable vs) → IsTrue (all_fit None l.fn.wanted vs) → Left l.fn.lines (literal_lines vs ++ rest)
    → (xs : List Datum) × (l.values.items ++ xs ≡ vs) × IsTrue (list_all is_readable xs) × IsTrue (all_fit (slice_get l.values.items (length l.values.items - 1)) (drop l.one-index l.fn.wanted) xs)
    × Left l.lines (literal_lines xs ++ rest))
    × ((hs : List (ℕ × Holds)) → HasRoom l.fn.lines → IsWantedBy hs l.fn.wanted
    → Reading l.fn.lines l.lines hs (slice_get l.values.items (length l.values.items - 1)) (drop l.one-index l.fn.wanted))
