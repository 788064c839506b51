use Rattle.std.proofs.Common.{◌≡◌, ◌++◌, drop}
use Rattle.spec_moo.specs.Properties.{objects_listed}
use Rattle.rules.proofs.access.built_in.objects_value.Given as goal

abbrev pub invariant-loop-object : goal.invariant-loop-object
invariant-loop-object l = l.items.items ++ objects_listed (drop l.object-index l.objects) ≡ objects_listed l.objects
