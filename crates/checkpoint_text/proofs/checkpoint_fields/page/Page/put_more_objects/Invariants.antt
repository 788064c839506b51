use Rattle.std.proofs.Common.{◌≡◌, ◌++◌, drop}
use Rattle.spec_value.specs.Datum.{of_list}
use Rattle.spec_value.specs.Literal.{more_text}
use Rattle.spec_world.specs.Checkpoint.{object_list}
use Rattle.checkpoint_text.proofs.checkpoint_fields.page.Page.put_more_objects.Given as goal

abbrev pub invariant-loop-object : goal.invariant-loop-object
invariant-loop-object l = l.self ++ more_text (of_list (object_list (drop l.object-index l.objects))) ≡ l.fn.self ++ more_text (of_list (object_list l.objects))
