use Rattle.std.proofs.Common.{◌≡◌, ◌≤◌, length}
use Rattle.object_lines.specs.Between.{AreBetween}
use Rattle.object_lines.proofs.objects.next_objects.Given as goal

abbrev pub invariant-reading : goal.invariant-reading
invariant-reading l = AreBetween l.fn.lines l.lines l.records.items × ((length l.records.items ≡ l._object) × (l._object ≤ l.count))
