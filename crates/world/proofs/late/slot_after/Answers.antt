use Rattle.std.proofs.Common.{◌∙◌, Some, sym, ap, w32}
use Rattle.std.proofs.lemmas.Int.{to_z-of_z}
use Rattle.spec_world.specs.World.{Slot}
use Rattle.world.proofs.late.slot_after.Goals as goal

pub returns : goal.returns
returns c =
    let becomes = rw (to_z-of_z w32 c.args.object c.ranges.object) at c.value_after-later.ensures in
    λ w is. becomes w c.args.home.now is ∙ ap (λ (s : Slot). Some (Some s)) (sym c.in_ok-slot.ensures)
