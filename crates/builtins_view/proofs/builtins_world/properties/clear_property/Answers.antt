use Rattle.std.proofs.Common.{[], ◌∷◌, w32}
use Rattle.std.proofs.lemmas.Int.{to_z-of_z}
use Rattle.spec_value.specs.Datum.{object as object_of, text as text_value}
use Rattle.spec_moo.specs.Natives.Properties.{clear_property_row}
use Rattle.builtins_view.proofs.Keeping.{leaves_well, clear_property_keeps}
use Rattle.builtins_view.proofs.builtins_world.properties.clear_property.Goals as goal

pub returns-clause-well_formed : goal.returns-clause-well_formed
returns-clause-well_formed g c =
    let object = to_z-of_z w32 c.args.object c.ranges.object in
    let programmer = to_z-of_z w32 c.args.programmer c.ranges.programmer in
    leaves_well g.V.View.holds g.V.View.now c.args.view.now c.clear.new.view (λ s k. clear_property_row s k (object_of c.args.object ∷ text_value c.args.name.now ∷ []))
    c.args.programmer c.clear.result (clear_property_keeps (object_of c.args.object ∷ text_value c.args.name.now ∷ [])) (rw (object, programmer) at c.clear.ensures.left)
