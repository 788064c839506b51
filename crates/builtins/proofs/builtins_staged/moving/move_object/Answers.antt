use Rattle.std.proofs.Common.{◌≡◌, Some, None, ap, ◌∙◌, rules, w32, to_z, of_z}
use Rattle.std.proofs.lemmas.Int.{to_z-of_z}
use Rattle.spec_world.specs.World.{Call}
use Rattle.moo_value.specs.Errors.{code_of}
use Rattle.rules.proofs.Tellings.{known_on}
use Rattle.builtins.proofs.Leading.{told_then, first_passed}
use Rattle.builtins.proofs.Telling.{First, refused_led, passed_led}
use Rattle.builtins.proofs.builtins_staged.moving.move_object.Goals as goal

pub returns-in-Some-clause-left : goal.returns-in-Some-clause-left
returns-in-Some-clause-left g c =
    let what = to_z-of_z w32 c.args.what c.ranges.what in
    let place = to_z-of_z w32 c.args.place c.ranges.place in
    let within : to_z w32 (of_z w32 c.call.inside.programmer) ≡ c.call.inside.programmer = search rules in
    let programmer : to_z w32 (of_z w32 c.call.inside.programmer) ≡ (c.args.call.now).programmer = within ∙ ap (λ (k : Call). k.programmer) c.call.view_is in
    refused_led g.V.View.holds g.V.View.now c.args.call.now c.args.what c.args.place c.args.view.now c.first_refusal.new.view c.in-Some.error
    (rw (what, place, programmer, c.in-Some.is) at c.in_ok-refused.ensures.left)

pub returns-in-Some-clause-well_formed : goal.returns-in-Some-clause-well_formed
returns-in-Some-clause-well_formed g c =
    let what = to_z-of_z w32 c.args.what c.ranges.what in
    let place = to_z-of_z w32 c.args.place c.ranges.place in
    let within : to_z w32 (of_z w32 c.call.inside.programmer) ≡ c.call.inside.programmer = search rules in
    let programmer : to_z w32 (of_z w32 c.call.inside.programmer) ≡ (c.args.call.now).programmer = within ∙ ap (λ (k : Call). k.programmer) c.call.view_is in
    known_on g.V.View.holds g.V.View.now c.args.view.now c.first_refusal.new.view (First g.V.View.holds g.V.View.now c.args.call.now c.args.what c.args.place (Some (code_of c.in-Some.error))) c.requires.well_formed
    (rw (what, place, programmer, c.in-Some.is) at c.in_ok-refused.ensures.left)

pub ask_place-requires-clause-well_formed : goal.ask_place-requires-clause-well_formed
ask_place-requires-clause-well_formed g c =
    let what = to_z-of_z w32 c.args.what c.ranges.what in
    let place = to_z-of_z w32 c.args.place c.ranges.place in
    let within : to_z w32 (of_z w32 c.call.inside.programmer) ≡ c.call.inside.programmer = search rules in
    let programmer : to_z w32 (of_z w32 c.call.inside.programmer) ≡ (c.args.call.now).programmer = within ∙ ap (λ (k : Call). k.programmer) c.call.view_is in
    let none : c.in_ok-refused.refused ≡ None = first_of (search rules, cc) in
    known_on g.V.View.holds g.V.View.now c.args.view.now c.first_refusal.new.view (First g.V.View.holds g.V.View.now c.args.call.now c.args.what c.args.place None) c.requires.well_formed
    (rw (what, place, programmer, none) at c.in_ok-refused.ensures.left)

pub ask_place-requires-clause-may_move : goal.ask_place-requires-clause-may_move
ask_place-requires-clause-may_move g c =
    let what = to_z-of_z w32 c.args.what c.ranges.what in
    let place = to_z-of_z w32 c.args.place c.ranges.place in
    let within : to_z w32 (of_z w32 c.call.inside.programmer) ≡ c.call.inside.programmer = search rules in
    let programmer : to_z w32 (of_z w32 c.call.inside.programmer) ≡ (c.args.call.now).programmer = within ∙ ap (λ (k : Call). k.programmer) c.call.view_is in
    let none : c.in_ok-refused.refused ≡ None = first_of (search rules, cc) in
    rw (what, place) (λ w left. first_passed (g.V.View.now c.first_refusal.new.view w) (c.args.call.now).programmer c.args.what c.args.place
    (told_then g.V.View.holds g.V.View.now c.args.view.now c.first_refusal.new.view (First g.V.View.holds g.V.View.now c.args.call.now c.args.what c.args.place None) (rw (what, place, programmer, none) at c.in_ok-refused.ensures.left) w left))

pub returns-clause-left : goal.returns-clause-left
returns-clause-left g c =
    let what = to_z-of_z w32 c.args.what c.ranges.what in
    let place = to_z-of_z w32 c.args.place c.ranges.place in
    let within : to_z w32 (of_z w32 c.call.inside.programmer) ≡ c.call.inside.programmer = search rules in
    let programmer : to_z w32 (of_z w32 c.call.inside.programmer) ≡ (c.args.call.now).programmer = within ∙ ap (λ (k : Call). k.programmer) c.call.view_is in
    let none : c.in_ok-refused.refused ≡ None = first_of (search rules, cc) in
    passed_led g.V.View.holds g.V.View.now c.args.call.now c.args.what c.args.place c.args.view.now c.first_refusal.new.view c.ask_place.new.view c.in_ok-effect.effect
    (rw (what, place, programmer, none) at c.in_ok-refused.ensures.left) (rw (what, place) at c.in_ok-effect.ensures.left)
