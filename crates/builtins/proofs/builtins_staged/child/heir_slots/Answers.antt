use Rattle.std.proofs.Common.{◌≡◌, [], ap, ◌∙◌, w32}
use Rattle.std.proofs.lemmas.Int.{to_z-of_z}
use Rattle.spec_world.specs.World.{object_at}
use Rattle.spec_world.specs.Families.{heir_slots, slots_at}
use Rattle.rules.proofs.Tellings.{told_as}
use Rattle.builtins_view.specs.Heirs.{heritage}
use Rattle.builtins.specs.Children.{put_heirs}
use Rattle.builtins.proofs.Children.{heirs_are}
use Rattle.builtins.proofs.builtins_staged.child.heir_slots.Goals as goal

pub returns-clause-left : goal.returns-clause-left
returns-clause-left g c =
    let parent = to_z-of_z w32 c.args.parent c.ranges.parent in
    let owner = to_z-of_z w32 c.args.owner c.ranges.owner in
    told_as g.V.View.holds g.V.View.now c.args.view.now c.inherited_slots.new.view (λ w. c.in_ok-inherited.inherited.items ≡ heritage w c.args.parent)
    (λ w. c.in_ok-slots.slots ≡ heir_slots c.args.owner (slots_at (object_at w c.args.parent))) c.requires.well_formed (rw parent at c.in_ok-inherited.ensures.left)
    (λ w sound is. (rw (owner, c.as_slice.ensures.value) at c.in_ok-slots.ensures) ∙ ap (λ es. put_heirs c.args.owner es []) is ∙ heirs_are w sound c.args.parent c.args.owner)
