use Rattle.std.proofs.Common.{◌≡◌, ◌≤◌}
use Rattle.object_lines.proofs.objects.joined.Given as goal

abbrev pub invariant-loop-objects : goal.invariant-loop-objects
invariant-loop-objects l =
    (goal.iterator-loop-objects).can_next l.objects-iterator × (goal.iterator-loop-objects).is_finite l.objects-iterator
    × ((l.all.left ≡ l.fn.place.left.now) × (l.all.lines ≡ l.fn.place.count)) × (l.all.many ≤ l.most)
