use Rattle.std.proofs.Common.{◌≡◌, ◌+◌, ◌==◌, ◌++◌, List, length, map, true, false, IsTrue}
use Rattle.spec_value.specs.Datum.{Text}
use Rattle.spec_world.specs.World.{Entry}
use Rattle.moo_task.specs.Frames.{outer_of}
use Rattle.checkpoint_lines.specs.Rows.{Left}
use Rattle.task_lines.specs.Entries.{lines_of, may_follow, outer_for}
use Rattle.task_lines.specs.Tasks.{AllRead}
use Rattle.task_lines.proofs.EntryTold.{EntriesOn}
use Rattle.task_lines.proofs.entries.next_each.Given as goal

-- the entries that are left
abbrev pub invariant-entries : goal.invariant-entries
invariant-entries l =
    ((es : List Entry) (rest : List Text) → AllRead l.fn.is_fork es → IsTrue (may_follow l.fn.is_fork true false 0 es) → l.fn.count ≡ length es → Left l.fn.lines (lines_of es ++ rest)
    → (xs : List Entry) × (map outer_of l.entries.items ++ map (outer_for l.fn.is_fork) xs ≡ map (outer_for l.fn.is_fork) es) × (length xs + l.index ≡ l.fn.count) × AllRead l.fn.is_fork xs
    × IsTrue (may_follow l.fn.is_fork (l.index == 0) l.is_behind_native l.verbs xs) × Left l.lines (lines_of xs ++ rest))
    × ((l.index == 0) ≡ (l.verbs == 0))
    × EntriesOn l.fn.is_fork l.fn.lines l.lines l.fn.count l.index l.verbs l.is_behind_native
