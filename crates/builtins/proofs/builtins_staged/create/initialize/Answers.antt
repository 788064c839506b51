use Rattle.std.proofs.Common.{[], ◌∷◌, ◌++◌, ap, ◌∙◌, w32}
use Rattle.std.proofs.lemmas.Int.{to_z-of_z}
use Rattle.spec_value.specs.Datum.{object as object_of}
use Rattle.spec_world.specs.World.{create_native}
use Rattle.spec_moo.specs.Natives.Objects.{stage}
use Rattle.builtins.proofs.Creating.{verb_led, no_verb_led}
use Rattle.builtins.proofs.builtins_staged.create.initialize.Goals as goal

pub returns-in-Some-clause-left : goal.returns-in-Some-clause-left
returns-in-Some-clause-left g c =
    let number = to_z-of_z w32 c.args.number c.ranges.number in
    verb_led g.V.View.holds g.V.View.now c.args.call.now c.args.arguments.items c.args.view.now c.begins.new.view c.args.number (stage create_native c.push.new.self.items) c.in-Some.effect
    (ap (stage create_native) (c.in_ok-push.ensures.items ∙ ap (λ v. c.args.arguments.items ++ v ∷ []) (c.object.ensures ∙ ap object_of number)))
    (rw (number, c.in_ok-word.ensures, c.new.ensures.items, c.in-Some.is) at c.in_ok-begun.ensures.left)

pub returns-in-None-clause-left : goal.returns-in-None-clause-left
returns-in-None-clause-left g c =
    let number = to_z-of_z w32 c.args.number c.ranges.number in
    no_verb_led g.V.View.holds g.V.View.now c.args.call.now c.args.arguments.items c.args.view.now c.begins.new.view c.args.number (stage create_native c.push.new.self.items) c.object-in-None.result
    (ap (stage create_native) (c.in_ok-push.ensures.items ∙ ap (λ v. c.args.arguments.items ++ v ∷ []) (c.object.ensures ∙ ap object_of number))) (c.object-in-None.ensures ∙ ap object_of number)
    (rw (number, c.in_ok-word.ensures, c.new.ensures.items, c.in-None.is) at c.in_ok-begun.ensures.left)
