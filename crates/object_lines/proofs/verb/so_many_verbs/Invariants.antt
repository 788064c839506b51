use Rattle.std.proofs.Common.{◌≡◌, ◌++◌, List, length, drop, IsTrue}
use Rattle.std.specs.List.{list_all}
use Rattle.spec_value.specs.Datum.{Text}
use Rattle.spec_world.specs.World.{Verb}
use Rattle.spec_world.specs.Checkpoint.{each_verb}
use Rattle.checkpoint_lines.specs.Rows.{Left}
use Rattle.object_lines.specs.Readable.{is_verb_read}
use Rattle.object_lines.proofs.verb.so_many_verbs.Given as goal
use Rattle.spec_faults.specs.Awaited as awaited
use Rattle.checkpoint_lines.proofs.Going.{Counts}

abbrev pub invariant-reading : goal.invariant-reading
invariant-reading l =
    ((xs : List Verb) (rest : List Text) → IsTrue (list_all is_verb_read xs) → l.fn.count ≡ length xs → Left l.fn.lines (each_verb xs ++ rest)
    → Left l.lines (each_verb (drop l._verb xs) ++ rest) × (l.verbs.items ++ drop l._verb xs ≡ xs))
    × Counts l.fn.lines l.lines l.fn.count l._verb awaited.each_verb
