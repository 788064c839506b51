use Rattle.std.proofs.Common.{◌≡◌, [], ◌∷◌, None, rules, w32}
use Rattle.std.proofs.lemmas.Int.{to_z-of_z}
use Rattle.spec_value.specs.Datum.{object}
use Rattle.rules.proofs.Tellings.{known_on}
use Rattle.builtins.proofs.Telling.{Exits, exits_led, no_exit_led}
use Rattle.builtins.proofs.builtins_staged.moving.tell_left.Goals as goal

pub returns-in-Some-clause-left : goal.returns-in-Some-clause-left
returns-in-Some-clause-left g c =
    let what = to_z-of_z w32 c.args.what c.ranges.what in
    let place = to_z-of_z w32 c.args.place c.ranges.place in
    let before = to_z-of_z w32 c.args.before c.ranges.before in
    let arguments : c.in_ok-arguments.arguments.items ≡ object c.args.what ∷ object c.args.place ∷ object c.args.before ∷ [] = rw (what, place, before) at c.in_ok-arguments.ensures in
    let given : c.in_ok-given.given.items ≡ object c.args.what ∷ [] = rw what at c.in_ok-given.ensures in
    exits_led g.V.View.holds g.V.View.now c.args.call.now c.args.what c.args.place c.args.view.now c.begins.new.view c.args.before c.in-Some.effect
    (rw (before, arguments, given, c.in_ok-word.ensures, c.in-Some.is) at c.in_ok-begun.ensures.left)

pub told_to_enter-requires-clause-well_formed : goal.told_to_enter-requires-clause-well_formed
told_to_enter-requires-clause-well_formed g c =
    let what = to_z-of_z w32 c.args.what c.ranges.what in
    let place = to_z-of_z w32 c.args.place c.ranges.place in
    let before = to_z-of_z w32 c.args.before c.ranges.before in
    let arguments : c.in_ok-arguments.arguments.items ≡ object c.args.what ∷ object c.args.place ∷ object c.args.before ∷ [] = rw (what, place, before) at c.in_ok-arguments.ensures in
    let given : c.in_ok-given.given.items ≡ object c.args.what ∷ [] = rw what at c.in_ok-given.ensures in
    let none : c.in_ok-begun.begun ≡ None = first_of (search rules, cc) in
    known_on g.V.View.holds g.V.View.now c.args.view.now c.begins.new.view (Exits g.V.View.holds g.V.View.now c.args.call.now c.args.what c.args.place c.args.before None) c.requires.well_formed
    (rw (before, arguments, given, c.in_ok-word.ensures, none) at c.in_ok-begun.ensures.left)

pub returns-clause-left : goal.returns-clause-left
returns-clause-left g c =
    let what = to_z-of_z w32 c.args.what c.ranges.what in
    let place = to_z-of_z w32 c.args.place c.ranges.place in
    let before = to_z-of_z w32 c.args.before c.ranges.before in
    let arguments : c.in_ok-arguments.arguments.items ≡ object c.args.what ∷ object c.args.place ∷ object c.args.before ∷ [] = rw (what, place, before) at c.in_ok-arguments.ensures in
    let given : c.in_ok-given.given.items ≡ object c.args.what ∷ [] = rw what at c.in_ok-given.ensures in
    let none : c.in_ok-begun.begun ≡ None = first_of (search rules, cc) in
    no_exit_led g.V.View.holds g.V.View.now c.args.call.now c.args.what c.args.place c.args.view.now c.begins.new.view c.told_to_enter.new.view c.args.before c.in_ok-told.told
    (rw (before, arguments, given, c.in_ok-word.ensures, none) at c.in_ok-begun.ensures.left) (rw (what, place, before) at c.in_ok-told.ensures.left)
