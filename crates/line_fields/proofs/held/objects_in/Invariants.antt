use Rattle.std.proofs.Common.{◌≡◌, take}
use Rattle.spec_world.specs.Checkpoint.{object_list}
use Rattle.line_fields.proofs.held.objects_in.Given as goal

abbrev pub invariant-loop-item : goal.invariant-loop-item
invariant-loop-item l = object_list l.objects.items ≡ take l.item-index l.items
