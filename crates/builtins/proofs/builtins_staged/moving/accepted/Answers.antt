use Rattle.std.proofs.Common.{◌≡◌, true, false, Some, None, ap, ◌∙◌, rules, w32, to_z, of_z}
use Rattle.std.proofs.lemmas.Int.{to_z-of_z}
use Rattle.spec_world.specs.World.{Call}
use Rattle.moo_value.specs.Errors.{code_of}
use Rattle.rules.proofs.Tellings.{known_on}
use Rattle.builtins.proofs.Leading.{told_then, later_passed}
use Rattle.builtins.proofs.Telling.{Welcome, Later, unwelcome_led, later_led, let_in_led}
use Rattle.builtins.proofs.builtins_staged.moving.accepted.Goals as goal

pub returns-then-not-welcome-clause-left : goal.returns-then-not-welcome-clause-left
returns-then-not-welcome-clause-left g c =
    let within : to_z w32 (of_z w32 c.call.inside.programmer) ≡ c.call.inside.programmer = search rules in
    let programmer : to_z w32 (of_z w32 c.call.inside.programmer) ≡ (c.args.call.now).programmer = within ∙ ap (λ (k : Call). k.programmer) c.call.view_is in
    unwelcome_led g.V.View.holds g.V.View.now c.args.call.now c.args.what c.args.place c.args.let_in c.args.view.now c.is_welcome.new.view (rw (programmer, c.if-not-welcome.true) at c.in_ok-welcome.ensures.left)

pub returns-then-not-welcome-clause-well_formed : goal.returns-then-not-welcome-clause-well_formed
returns-then-not-welcome-clause-well_formed g c =
    let within : to_z w32 (of_z w32 c.call.inside.programmer) ≡ c.call.inside.programmer = search rules in
    let programmer : to_z w32 (of_z w32 c.call.inside.programmer) ≡ (c.args.call.now).programmer = within ∙ ap (λ (k : Call). k.programmer) c.call.view_is in
    known_on g.V.View.holds g.V.View.now c.args.view.now c.is_welcome.new.view (Welcome g.V.View.holds g.V.View.now c.args.call.now c.args.what c.args.place c.args.let_in false) c.requires.well_formed (rw (programmer, c.if-not-welcome.true) at c.in_ok-welcome.ensures.left)

pub later_refusal-requires-clause-well_formed : goal.later_refusal-requires-clause-well_formed
later_refusal-requires-clause-well_formed g c =
    let within : to_z w32 (of_z w32 c.call.inside.programmer) ≡ c.call.inside.programmer = search rules in
    let programmer : to_z w32 (of_z w32 c.call.inside.programmer) ≡ (c.args.call.now).programmer = within ∙ ap (λ (k : Call). k.programmer) c.call.view_is in
    known_on g.V.View.holds g.V.View.now c.args.view.now c.is_welcome.new.view (Welcome g.V.View.holds g.V.View.now c.args.call.now c.args.what c.args.place c.args.let_in true) c.requires.well_formed (rw (programmer, c.if-not-welcome.false) at c.in_ok-welcome.ensures.left)

pub returns-in-Some-clause-left : goal.returns-in-Some-clause-left
returns-in-Some-clause-left g c =
    let what = to_z-of_z w32 c.args.what c.ranges.what in
    let place = to_z-of_z w32 c.args.place c.ranges.place in
    let within : to_z w32 (of_z w32 c.call.inside.programmer) ≡ c.call.inside.programmer = search rules in
    let programmer : to_z w32 (of_z w32 c.call.inside.programmer) ≡ (c.args.call.now).programmer = within ∙ ap (λ (k : Call). k.programmer) c.call.view_is in
    later_led g.V.View.holds g.V.View.now c.args.call.now c.args.what c.args.place c.args.let_in c.args.view.now c.is_welcome.new.view c.later_refusal.new.view c.in-Some.error (rw (programmer, c.if-not-welcome.false) at c.in_ok-welcome.ensures.left)
    (rw (what, place, c.in-Some.is) at c.in_ok-refused.ensures.left)

pub returns-in-Some-clause-well_formed : goal.returns-in-Some-clause-well_formed
returns-in-Some-clause-well_formed g c =
    let what = to_z-of_z w32 c.args.what c.ranges.what in
    let place = to_z-of_z w32 c.args.place c.ranges.place in
    let within : to_z w32 (of_z w32 c.call.inside.programmer) ≡ c.call.inside.programmer = search rules in
    let programmer : to_z w32 (of_z w32 c.call.inside.programmer) ≡ (c.args.call.now).programmer = within ∙ ap (λ (k : Call). k.programmer) c.call.view_is in
    known_on g.V.View.holds g.V.View.now c.is_welcome.new.view c.later_refusal.new.view (Later g.V.View.holds g.V.View.now c.args.call.now c.args.what c.args.place (Some (code_of c.in-Some.error)))
    (known_on g.V.View.holds g.V.View.now c.args.view.now c.is_welcome.new.view (Welcome g.V.View.holds g.V.View.now c.args.call.now c.args.what c.args.place c.args.let_in true) c.requires.well_formed (rw (programmer, c.if-not-welcome.false) at c.in_ok-welcome.ensures.left))
    (rw (what, place, c.in-Some.is) at c.in_ok-refused.ensures.left)

pub move_now-requires-clause-well_formed : goal.move_now-requires-clause-well_formed
move_now-requires-clause-well_formed g c =
    let what = to_z-of_z w32 c.args.what c.ranges.what in
    let place = to_z-of_z w32 c.args.place c.ranges.place in
    let within : to_z w32 (of_z w32 c.call.inside.programmer) ≡ c.call.inside.programmer = search rules in
    let programmer : to_z w32 (of_z w32 c.call.inside.programmer) ≡ (c.args.call.now).programmer = within ∙ ap (λ (k : Call). k.programmer) c.call.view_is in
    let none : c.in_ok-refused.refused ≡ None = first_of (search rules, cc) in
    known_on g.V.View.holds g.V.View.now c.is_welcome.new.view c.later_refusal.new.view (Later g.V.View.holds g.V.View.now c.args.call.now c.args.what c.args.place None)
    (known_on g.V.View.holds g.V.View.now c.args.view.now c.is_welcome.new.view (Welcome g.V.View.holds g.V.View.now c.args.call.now c.args.what c.args.place c.args.let_in true) c.requires.well_formed (rw (programmer, c.if-not-welcome.false) at c.in_ok-welcome.ensures.left))
    (rw (what, place, none) at c.in_ok-refused.ensures.left)

pub move_now-requires-clause-may_move : goal.move_now-requires-clause-may_move
move_now-requires-clause-may_move g c =
    let what = to_z-of_z w32 c.args.what c.ranges.what in
    let place = to_z-of_z w32 c.args.place c.ranges.place in
    let none : c.in_ok-refused.refused ≡ None = first_of (search rules, cc) in
    rw (what, place) (λ w left. later_passed (g.V.View.now c.later_refusal.new.view w) c.args.what c.args.place
    (told_then g.V.View.holds g.V.View.now c.is_welcome.new.view c.later_refusal.new.view (Later g.V.View.holds g.V.View.now c.args.call.now c.args.what c.args.place None) (rw (what, place, none) at c.in_ok-refused.ensures.left) w left))

pub returns-clause-left : goal.returns-clause-left
returns-clause-left g c =
    let what = to_z-of_z w32 c.args.what c.ranges.what in
    let place = to_z-of_z w32 c.args.place c.ranges.place in
    let within : to_z w32 (of_z w32 c.call.inside.programmer) ≡ c.call.inside.programmer = search rules in
    let programmer : to_z w32 (of_z w32 c.call.inside.programmer) ≡ (c.args.call.now).programmer = within ∙ ap (λ (k : Call). k.programmer) c.call.view_is in
    let none : c.in_ok-refused.refused ≡ None = first_of (search rules, cc) in
    let_in_led g.V.View.holds g.V.View.now c.args.call.now c.args.what c.args.place c.args.let_in c.args.view.now c.is_welcome.new.view c.later_refusal.new.view c.move_now.new.view c.in_ok-effect.effect (rw (programmer, c.if-not-welcome.false) at c.in_ok-welcome.ensures.left)
    (rw (what, place, none) at c.in_ok-refused.ensures.left) (rw (what, place) at c.in_ok-effect.ensures.left)
