use Rattle.std.proofs.Common.{◌≡◌, [], rules, w32, to_z, of_z}
use Rattle.std.proofs.lemmas.Int.{to_z-of_z}
use Rattle.spec_moo.specs.Natives.Tasks.{shutdown_row}
use Rattle.moo_value.specs.Answers.{answer_of}
use Rattle.builtins_view.proofs.Keeping.{goes_well}
use Rattle.builtins_view.specs.declared.builtin_requests.changing.Changing.TheVariants.{Chparent, SetPropertyInfo, AddProperty, DeleteProperty, ClearProperty, SetVerbInfo, SetVerbArgs, SetVerbCode, AddVerb, DeleteVerb, Shutdown}
use Rattle.builtins.proofs.Ending.{shutdown_keeps}
use Rattle.builtins.proofs.Requested.{done_so}
use Rattle.builtins.proofs.builtin_calls.change.change.Goals as goal

pub returns-in_ok-chparent-in-Chparent-clause-left : goal.returns-in_ok-chparent-in-Chparent-clause-left
returns-in_ok-chparent-in-Chparent-clause-left g c =
    let object : to_z w32 (of_z w32 c.in-Chparent.object) ≡ c.in-Chparent.object = search rules in
    let parent : to_z w32 (of_z w32 c.in-Chparent.parent) ≡ c.in-Chparent.parent = search rules in
    let programmer = to_z-of_z w32 c.args.programmer c.ranges.programmer in
    done_so g.V.View.holds g.V.View.now c.args.view.now c.chparent.new.view c.args.programmer (answer_of c.in_ok-chparent-in-Chparent.field-0) c.args.changing (Chparent c.in-Chparent.object c.in-Chparent.parent) c.in-Chparent.is
    (rw (object, parent, programmer) at c.in_ok-chparent-in-Chparent.ensures.left)

pub returns-in_ok-set_property_info-in-SetPropertyInfo-clause-left : goal.returns-in_ok-set_property_info-in-SetPropertyInfo-clause-left
returns-in_ok-set_property_info-in-SetPropertyInfo-clause-left g c =
    let object : to_z w32 (of_z w32 c.in-SetPropertyInfo.object) ≡ c.in-SetPropertyInfo.object = search rules in
    let owner : to_z w32 (of_z w32 c.in-SetPropertyInfo.owner) ≡ c.in-SetPropertyInfo.owner = search rules in
    let programmer = to_z-of_z w32 c.args.programmer c.ranges.programmer in
    done_so g.V.View.holds g.V.View.now c.args.view.now c.set_property_info.new.view c.args.programmer (answer_of c.in_ok-set_property_info-in-SetPropertyInfo.field-0) c.args.changing (SetPropertyInfo c.in-SetPropertyInfo.object c.in-SetPropertyInfo.name c.in-SetPropertyInfo.owner c.in-SetPropertyInfo.bits) c.in-SetPropertyInfo.is
    (rw (object, owner, programmer) at c.in_ok-set_property_info-in-SetPropertyInfo.ensures.left)

pub returns-in_ok-add_property-in-AddProperty-clause-left : goal.returns-in_ok-add_property-in-AddProperty-clause-left
returns-in_ok-add_property-in-AddProperty-clause-left g c =
    let object : to_z w32 (of_z w32 c.in-AddProperty.object) ≡ c.in-AddProperty.object = search rules in
    let owner : to_z w32 (of_z w32 c.in-AddProperty.owner) ≡ c.in-AddProperty.owner = search rules in
    let programmer = to_z-of_z w32 c.args.programmer c.ranges.programmer in
    done_so g.V.View.holds g.V.View.now c.args.view.now c.add_property.new.view c.args.programmer (answer_of c.in_ok-add_property-in-AddProperty.field-0) c.args.changing (AddProperty c.in-AddProperty.object c.in-AddProperty.name c.in-AddProperty.value c.in-AddProperty.owner c.in-AddProperty.bits) c.in-AddProperty.is
    (rw (object, owner, programmer) at c.in_ok-add_property-in-AddProperty.ensures.left)

pub returns-in_ok-delete_property-in-DeleteProperty-clause-left : goal.returns-in_ok-delete_property-in-DeleteProperty-clause-left
returns-in_ok-delete_property-in-DeleteProperty-clause-left g c =
    let object : to_z w32 (of_z w32 c.in-DeleteProperty.object) ≡ c.in-DeleteProperty.object = search rules in
    let programmer = to_z-of_z w32 c.args.programmer c.ranges.programmer in
    done_so g.V.View.holds g.V.View.now c.args.view.now c.delete_property.new.view c.args.programmer (answer_of c.in_ok-delete_property-in-DeleteProperty.field-0) c.args.changing (DeleteProperty c.in-DeleteProperty.object c.in-DeleteProperty.name) c.in-DeleteProperty.is
    (rw (object, programmer) at c.in_ok-delete_property-in-DeleteProperty.ensures.left)

pub returns-in_ok-clear_property-in-ClearProperty-clause-left : goal.returns-in_ok-clear_property-in-ClearProperty-clause-left
returns-in_ok-clear_property-in-ClearProperty-clause-left g c =
    let object : to_z w32 (of_z w32 c.in-ClearProperty.object) ≡ c.in-ClearProperty.object = search rules in
    let programmer = to_z-of_z w32 c.args.programmer c.ranges.programmer in
    done_so g.V.View.holds g.V.View.now c.args.view.now c.clear_property.new.view c.args.programmer (answer_of c.in_ok-clear_property-in-ClearProperty.field-0) c.args.changing (ClearProperty c.in-ClearProperty.object c.in-ClearProperty.name) c.in-ClearProperty.is
    (rw (object, programmer) at c.in_ok-clear_property-in-ClearProperty.ensures.left)

pub returns-in_ok-set_verb_info-in-SetVerbInfo-clause-left : goal.returns-in_ok-set_verb_info-in-SetVerbInfo-clause-left
returns-in_ok-set_verb_info-in-SetVerbInfo-clause-left g c =
    let object : to_z w32 (of_z w32 c.in-SetVerbInfo.object) ≡ c.in-SetVerbInfo.object = search rules in
    let programmer = to_z-of_z w32 c.args.programmer c.ranges.programmer in
    done_so g.V.View.holds g.V.View.now c.args.view.now c.set_verb_info.new.view c.args.programmer (answer_of c.in_ok-set_verb_info-in-SetVerbInfo.field-0) c.args.changing (SetVerbInfo c.in-SetVerbInfo.object c.in-SetVerbInfo.which c.in-SetVerbInfo.info) c.in-SetVerbInfo.is
    (rw (object, programmer) at c.in_ok-set_verb_info-in-SetVerbInfo.ensures.left)

pub returns-in_ok-set_verb_args-in-SetVerbArgs-clause-left : goal.returns-in_ok-set_verb_args-in-SetVerbArgs-clause-left
returns-in_ok-set_verb_args-in-SetVerbArgs-clause-left g c =
    let object : to_z w32 (of_z w32 c.in-SetVerbArgs.object) ≡ c.in-SetVerbArgs.object = search rules in
    let programmer = to_z-of_z w32 c.args.programmer c.ranges.programmer in
    done_so g.V.View.holds g.V.View.now c.args.view.now c.set_verb_args.new.view c.args.programmer (answer_of c.in_ok-set_verb_args-in-SetVerbArgs.field-0) c.args.changing (SetVerbArgs c.in-SetVerbArgs.object c.in-SetVerbArgs.which c.in-SetVerbArgs.words) c.in-SetVerbArgs.is
    (rw (object, programmer) at c.in_ok-set_verb_args-in-SetVerbArgs.ensures.left)

pub returns-in_ok-add_verb-in-AddVerb-clause-left : goal.returns-in_ok-add_verb-in-AddVerb-clause-left
returns-in_ok-add_verb-in-AddVerb-clause-left g c =
    let object : to_z w32 (of_z w32 c.in-AddVerb.object) ≡ c.in-AddVerb.object = search rules in
    let programmer = to_z-of_z w32 c.args.programmer c.ranges.programmer in
    done_so g.V.View.holds g.V.View.now c.args.view.now c.add_verb.new.view c.args.programmer (answer_of c.in_ok-add_verb-in-AddVerb.field-0) c.args.changing (AddVerb c.in-AddVerb.object c.in-AddVerb.info c.in-AddVerb.words) c.in-AddVerb.is
    (rw (object, programmer) at c.in_ok-add_verb-in-AddVerb.ensures.left)

pub returns-in_ok-delete_verb-in-DeleteVerb-clause-left : goal.returns-in_ok-delete_verb-in-DeleteVerb-clause-left
returns-in_ok-delete_verb-in-DeleteVerb-clause-left g c =
    let object : to_z w32 (of_z w32 c.in-DeleteVerb.object) ≡ c.in-DeleteVerb.object = search rules in
    let programmer = to_z-of_z w32 c.args.programmer c.ranges.programmer in
    done_so g.V.View.holds g.V.View.now c.args.view.now c.delete_verb.new.view c.args.programmer (answer_of c.in_ok-delete_verb-in-DeleteVerb.field-0) c.args.changing (DeleteVerb c.in-DeleteVerb.object c.in-DeleteVerb.which) c.in-DeleteVerb.is
    (rw (object, programmer) at c.in_ok-delete_verb-in-DeleteVerb.ensures.left)

pub returns-in_ok-set_verb_code-in-SetVerbCode-clause-left : goal.returns-in_ok-set_verb_code-in-SetVerbCode-clause-left
returns-in_ok-set_verb_code-in-SetVerbCode-clause-left g c =
    let object : to_z w32 (of_z w32 c.in-SetVerbCode.object) ≡ c.in-SetVerbCode.object = search rules in
    let programmer = to_z-of_z w32 c.args.programmer c.ranges.programmer in
    let same : c.as_slice-given.result.now ≡ c.in-SetVerbCode.lines.items = first_of (search rules, cc) in
    done_so g.V.View.holds g.V.View.now c.args.view.now c.set_verb_code.new.view c.args.programmer (answer_of c.in_ok-set_verb_code-in-SetVerbCode.field-0) c.args.changing (SetVerbCode c.in-SetVerbCode.object c.in-SetVerbCode.which c.in-SetVerbCode.lines) c.in-SetVerbCode.is
    (rw (object, programmer, same) at c.in_ok-set_verb_code-in-SetVerbCode.ensures.left)

pub returns-in_ok-shutdown-in-Shutdown-clause-left : goal.returns-in_ok-shutdown-in-Shutdown-clause-left
returns-in_ok-shutdown-in-Shutdown-clause-left g c =
    let programmer = to_z-of_z w32 c.args.programmer c.ranges.programmer in
    done_so g.V.View.holds g.V.View.now c.args.view.now c.shutdown.new.view c.args.programmer (answer_of c.in_ok-shutdown-in-Shutdown.field-0) c.args.changing Shutdown c.in-Shutdown.is (rw programmer at c.in_ok-shutdown-in-Shutdown.ensures.left)

pub returns-in_ok-shutdown-in-Shutdown-clause-well_formed : goal.returns-in_ok-shutdown-in-Shutdown-clause-well_formed
returns-in_ok-shutdown-in-Shutdown-clause-well_formed g c =
    let programmer = to_z-of_z w32 c.args.programmer c.ranges.programmer in
    goes_well g.V.View.holds g.V.View.now c.args.view.now c.shutdown.new.view (λ s k. shutdown_row s k []) c.args.programmer (answer_of c.in_ok-shutdown-in-Shutdown.field-0) shutdown_keeps
    (rw programmer at c.in_ok-shutdown-in-Shutdown.ensures.left) c.requires.well_formed
