use Rattle.std.proofs.Common.{◌≡◌, ◌++◌, drop}
use Rattle.spec_world.specs.Checkpoint.{object_lines, with_line_ends}
use Rattle.checkpoint_text.specs.Each.{of_each}
use Rattle.checkpoint_text.proofs.checkpoint_objects.object.put_objects.Given as goal

abbrev pub invariant-loop-number : goal.invariant-loop-number
invariant-loop-number l =
    l.page ++ with_line_ends (of_each (object_lines l.draft) l.draft.objects (drop l.number-index l.numbers))
    ≡ l.fn.page ++ with_line_ends (of_each (object_lines l.draft) l.draft.objects l.numbers)
