use Rattle.std.proofs.Common.{[], ◌∷◌, w32}
use Rattle.std.proofs.lemmas.Int.{to_z-of_z}
use Rattle.spec_value.specs.Datum.{object as object_of}
use Rattle.spec_moo.specs.Natives.Verbs.{delete_verb_row}
use Rattle.builtins_view.proofs.Keeping.{leaves_well}
use Rattle.builtins_view.proofs.RowsKeep.{delete_verb_keeps}
use Rattle.builtins_view.proofs.builtins_change.verbs.delete_verb.Goals as goal

pub returns-clause-well_formed : goal.returns-clause-well_formed
returns-clause-well_formed g c =
    let object = to_z-of_z w32 c.args.object c.ranges.object in
    let programmer = to_z-of_z w32 c.args.programmer c.ranges.programmer in
    leaves_well g.V.View.holds g.V.View.now c.args.view.now c.delete.new.view (λ s k. delete_verb_row s k (object_of c.args.object ∷ c.args.which.now ∷ []))
    c.args.programmer c.delete.result (delete_verb_keeps (object_of c.args.object ∷ c.args.which.now ∷ [])) (rw (object, programmer) at c.delete.ensures.left)
