use Rattle.std.proofs.Common.{◌≡◌, Some, None, ap, ◌∙◌, rules, w32, to_z, of_z}
use Rattle.std.proofs.lemmas.Int.{to_z-of_z}
use Rattle.spec_world.specs.World.{Call}
use Rattle.moo_value.specs.Errors.{code_of}
use Rattle.rules.proofs.Tellings.{known_on}
use Rattle.builtins.proofs.Letting.{Checked, refused_over, passed_over}
use Rattle.builtins.proofs.builtins_staged.recycling.recycle.Goals as goal

pub returns-in-Some-clause-left : goal.returns-in-Some-clause-left
returns-in-Some-clause-left g c =
    let object = to_z-of_z w32 c.args.object c.ranges.object in
    let within : to_z w32 (of_z w32 c.call.inside.programmer) ≡ c.call.inside.programmer = search rules in
    let programmer : to_z w32 (of_z w32 c.call.inside.programmer) ≡ (c.args.call.now).programmer = within ∙ ap (λ (k : Call). k.programmer) c.call.view_is in
    refused_over g.V.View.holds g.V.View.now c.args.call.now c.args.object c.args.deeds.now c.args.view.now c.refusal.new.view c.in-Some.error
    (rw (object, programmer, c.in-Some.is) at c.in_ok-refused.ensures.left)

pub returns-in-Some-clause-well_formed : goal.returns-in-Some-clause-well_formed
returns-in-Some-clause-well_formed g c =
    let object = to_z-of_z w32 c.args.object c.ranges.object in
    let within : to_z w32 (of_z w32 c.call.inside.programmer) ≡ c.call.inside.programmer = search rules in
    let programmer : to_z w32 (of_z w32 c.call.inside.programmer) ≡ (c.args.call.now).programmer = within ∙ ap (λ (k : Call). k.programmer) c.call.view_is in
    known_on g.V.View.holds g.V.View.now c.args.view.now c.refusal.new.view (Checked g.V.View.holds g.V.View.now c.args.call.now c.args.object c.args.deeds.now (Some (code_of c.in-Some.error))) c.requires.well_formed
    (rw (object, programmer, c.in-Some.is) at c.in_ok-refused.ensures.left)

pub tell-requires-clause-well_formed : goal.tell-requires-clause-well_formed
tell-requires-clause-well_formed g c =
    let object = to_z-of_z w32 c.args.object c.ranges.object in
    let within : to_z w32 (of_z w32 c.call.inside.programmer) ≡ c.call.inside.programmer = search rules in
    let programmer : to_z w32 (of_z w32 c.call.inside.programmer) ≡ (c.args.call.now).programmer = within ∙ ap (λ (k : Call). k.programmer) c.call.view_is in
    let none : c.in_ok-refused.refused ≡ None = first_of (search rules, cc) in
    known_on g.V.View.holds g.V.View.now c.args.view.now c.refusal.new.view (Checked g.V.View.holds g.V.View.now c.args.call.now c.args.object c.args.deeds.now None) c.requires.well_formed
    (rw (object, programmer, none) at c.in_ok-refused.ensures.left)

pub returns-clause-left : goal.returns-clause-left
returns-clause-left g c =
    let object = to_z-of_z w32 c.args.object c.ranges.object in
    let within : to_z w32 (of_z w32 c.call.inside.programmer) ≡ c.call.inside.programmer = search rules in
    let programmer : to_z w32 (of_z w32 c.call.inside.programmer) ≡ (c.args.call.now).programmer = within ∙ ap (λ (k : Call). k.programmer) c.call.view_is in
    let none : c.in_ok-refused.refused ≡ None = first_of (search rules, cc) in
    passed_over g.V.View.holds g.V.View.now c.args.call.now c.args.object c.args.deeds.now c.args.view.now c.refusal.new.view c.tell.new.view c.tell.new.deeds c.in_ok-effect.effect
    (rw (object, programmer, none) at c.in_ok-refused.ensures.left) (rw object at c.in_ok-effect.ensures.left)
