-- So many objects are put, and the others are left with their names.
use Rattle.std.proofs.Common.{◌≡◌, ℕ, [], map, take, reverse, vec_len}
use Rattle.spec_world.specs.World.{World}
use Rattle.named_objects.specs.Told.{object_names, AreObjects}
use Rattle.draft_objects.proofs.Puts.{Stands}
use Rattle.draft_objects.proofs.put_each.Given as goal

abbrev pub invariant-putting : goal.invariant-putting
invariant-putting l =
    (w : World) → AreObjects w l.fn.records.items → l.fn.names ≡ map (λ e. object_names w e.0) w.objects → l.fn.draft.objects ≡ []
    → (i : ℕ) × (l.draft ≡ record l.fn.draft { objects = take i w.objects }) × Stands w i (reverse l.records.items) l.left

abbrev pub decreases-putting : goal.decreases-putting
decreases-putting l = vec_len l.records
