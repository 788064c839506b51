use Rattle.std.proofs.Common.{◌≡◌, ap, rules, w32, to_z, of_z}
use Rattle.std.proofs.lemmas.Int.{to_z-of_z}
use Rattle.spec_world.specs.World.{object_at}
use Rattle.spec_world.specs.Families.{parent_of}
use Rattle.rules.proofs.Tellings.{known_on}
use Rattle.builtins.proofs.Parents.{stays_told, unlike}
use Rattle.builtins.proofs.builtins_objects.chparent.adopt.Goals as goal

pub returns-clause-left : goal.returns-clause-left
returns-clause-left g c =
    let object = to_z-of_z w32 c.args.object c.ranges.object in
    let parent = to_z-of_z w32 c.args.parent c.ranges.parent in
    let before : to_z w32 (of_z w32 c.in_ok-before.before) ≡ c.in_ok-before.before = search rules in
    stays_told g.V.View.holds g.V.View.now c.args.object c.args.parent c.args.view.now c.parent_of.new.view c.reparent.new.view c.args.family.now c.in_ok-before.before c.reparent.result
    (rw object at c.in_ok-before.ensures.left) (unlike c.in_ok-before.before c.args.parent (λ e. c.if-before-parent.false (ap (of_z w32) e))) (rw (object, before, parent) at c.reparent.ensures.left)

pub reparent-requires-clause-well_formed : goal.reparent-requires-clause-well_formed
reparent-requires-clause-well_formed g c =
    let object = to_z-of_z w32 c.args.object c.ranges.object in
    known_on g.V.View.holds g.V.View.now c.args.view.now c.parent_of.new.view (λ w. parent_of (object_at w c.args.object) ≡ c.in_ok-before.before) c.requires.well_formed
    (rw object at c.in_ok-before.ensures.left)
