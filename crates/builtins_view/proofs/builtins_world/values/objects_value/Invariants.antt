use Rattle.std.proofs.Common.{◌≡◌, ◌++◌, drop}
use Rattle.spec_moo.specs.Natives.Objects.{as_objects}
use Rattle.builtins_view.proofs.builtins_world.values.objects_value.Given as goal

abbrev pub invariant-loop-object : goal.invariant-loop-object
invariant-loop-object l = l.items.items ++ as_objects (drop l.object-index l.objects) ≡ as_objects l.objects
