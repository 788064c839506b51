use Rattle.std.proofs.Common.{◌≡◌, map, take}
use Rattle.spec_world.specs.World.{World}
use Rattle.named_objects.specs.Told.{object_names, AreObjects}
use Rattle.named_objects.specs.Ways.{LeadsUp}
use Rattle.named_objects.proofs.family.gathered.Given as goal

abbrev pub invariant-loop-place : goal.invariant-loop-place
invariant-loop-place l = (w : World) → AreObjects w l.records → LeadsUp w l.records l.upwards → l.all.items ≡ map (λ e. object_names w e.0) (take l.place w.objects)
