use Rattle.std.proofs.Common.{[], ◌∷◌, w32}
use Rattle.std.proofs.lemmas.Int.{to_z-of_z}
use Rattle.spec_value.specs.Datum.{object as object_of}
use Rattle.spec_moo.specs.Natives.Objects.{chparent_row}
use Rattle.builtins_view.proofs.Keeping.{leaves_well}
use Rattle.builtins.proofs.BuiltinsObjectsRowsKeep.{chparent_keeps}
use Rattle.builtins.proofs.builtins_objects.chparent.chparent.Goals as goal

pub returns-clause-well_formed : goal.returns-clause-well_formed
returns-clause-well_formed g c =
    let object = to_z-of_z w32 c.args.object c.ranges.object in
    let parent = to_z-of_z w32 c.args.parent c.ranges.parent in
    let programmer = to_z-of_z w32 c.args.programmer c.ranges.programmer in
    leaves_well g.V.View.holds g.V.View.now c.args.view.now c.change_parent.new.view (λ s k. chparent_row s k (object_of c.args.object ∷ object_of c.args.parent ∷ []))
    c.args.programmer c.change_parent.result (chparent_keeps (object_of c.args.object ∷ object_of c.args.parent ∷ [])) (rw (object, parent, programmer) at c.change_parent.ensures.left)
    c.requires.well_formed

pub returns-clause-left : goal.returns-clause-left
returns-clause-left g c =
    let object = to_z-of_z w32 c.args.object c.ranges.object in
    let parent = to_z-of_z w32 c.args.parent c.ranges.parent in
    let programmer = to_z-of_z w32 c.args.programmer c.ranges.programmer in
    rw (object, parent, programmer) at c.change_parent.ensures.left
