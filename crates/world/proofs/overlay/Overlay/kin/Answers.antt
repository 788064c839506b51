use Rattle.std.proofs.Common.{◌≡◌, subst, rules, w32, to_z, of_z}
use Rattle.std.proofs.lemmas.Int.{to_z-of_z}
use Rattle.view.specs.Kin.{IsKin}
use Rattle.world.specs.Amended.{Amended, amended_now}
use Rattle.world.proofs.Alike.{kin_lightly}
use Rattle.world.proofs.overlay.Overlay.kin.Goals as goal

pub returns-in_ok-parent-in-None : goal.returns-in_ok-parent-in-None
returns-in_ok-parent-in-None c =
    let k = c.in_ok-parent-in-None in
    let parent : to_z w32 (of_z w32 k.parent) ≡ k.parent = search rules in
    let object = to_z-of_z w32 c.args.object c.ranges.object in
    let light = c.self.invariant.1 c.in-None.is in
    rw parent (subst (λ (a : Amended). IsKin (amended_now a) c.args.object k.parent k.verbs.now) c.self.view_is (kin_lightly c.self.inside.changes c.self.inside.home.now c.args.object k.parent k.verbs.now light (rw object at k.ensures)))
