use Rattle.std.proofs.Common.{[], ◌∷◌, w32, subst}
use Rattle.std.proofs.lemmas.Int.{to_z-of_z}
use Rattle.std.specs.Prelude.{IfOk}
use Rattle.moo_value.specs.Answers.{answer_of}
use Rattle.view.specs.Law.{Goes}
use Rattle.builtins_view.specs.Said.{Does}
use Rattle.builtins_view.specs.BuiltinsChangeLater.{added}
use Rattle.spec_value.specs.Datum.{object as object_of}
use Rattle.spec_moo.specs.Natives.Verbs.{add_verb_row}
use Rattle.builtins_view.proofs.Keeping.{leaves_well}
use Rattle.builtins_view.specs.BuiltinsChangeListed.{info_given, words_given}
use Rattle.builtins_view.proofs.RowsKeep.{add_verb_keeps}
use Rattle.builtins_view.proofs.builtins_change.verbs.add_verb.Goals as goal

pub returns-clause-left : goal.returns-clause-left
returns-clause-left g c =
    let object = to_z-of_z w32 c.args.object c.ranges.object in
    let programmer = to_z-of_z w32 c.args.programmer c.ranges.programmer in
    subst
    (λ m. IfOk c.add.result (λ a. Goes g.V.View.holds g.V.View.now c.args.view.now c.add.new.view
    (λ before after. Does (added m c.args.object c.args.info.now) before after c.args.programmer (answer_of a))))
    c.read_specifier-specifier.ensures (rw (object, programmer) at c.add.ensures.left)

pub returns-clause-well_formed : goal.returns-clause-well_formed
returns-clause-well_formed g c =
    leaves_well g.V.View.holds g.V.View.now c.args.view.now c.add.new.view (λ s k. add_verb_row s k (object_of c.args.object ∷ info_given c.args.info.now ∷ words_given c.args.words.now ∷ []))
    c.args.programmer c.add.result (add_verb_keeps (object_of c.args.object ∷ info_given c.args.info.now ∷ words_given c.args.words.now ∷ [])) (returns-clause-left g c)
