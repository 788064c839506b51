use Rattle.std.proofs.Common.{◌≡◌, true, false, [], ◌∷◌, Some, None, rules, w32}
use Rattle.std.proofs.lemmas.Int.{to_z-of_z}
use Rattle.spec_value.specs.Datum.{object}
use Rattle.rules.proofs.Tellings.{known_on}
use Rattle.builtins.proofs.Telling.{Entered, Enters, not_entered_led, entered_led, no_entry_led}
use Rattle.builtins.proofs.builtins_staged.moving.told_to_enter.Goals as goal

pub returns-then-not-entered-clause-left : goal.returns-then-not-entered-clause-left
returns-then-not-entered-clause-left g c =
    let what = to_z-of_z w32 c.args.what c.ranges.what in
    let place = to_z-of_z w32 c.args.place c.ranges.place in
    not_entered_led g.V.View.holds g.V.View.now c.args.call.now c.args.what c.args.place c.args.view.now c.has_entered.new.view c.args.before c.integer.result c.integer.ensures (rw (what, place, c.if-not-entered.true) at c.in_ok-entered.ensures.left)

pub returns-then-not-entered-clause-well_formed : goal.returns-then-not-entered-clause-well_formed
returns-then-not-entered-clause-well_formed g c =
    let what = to_z-of_z w32 c.args.what c.ranges.what in
    let place = to_z-of_z w32 c.args.place c.ranges.place in
    known_on g.V.View.holds g.V.View.now c.args.view.now c.has_entered.new.view (Entered g.V.View.holds g.V.View.now c.args.call.now c.args.what c.args.place false) c.requires.well_formed (rw (what, place, c.if-not-entered.true) at c.in_ok-entered.ensures.left)

pub begins-requires-clause-well_formed : goal.begins-requires-clause-well_formed
begins-requires-clause-well_formed g c =
    let what = to_z-of_z w32 c.args.what c.ranges.what in
    let place = to_z-of_z w32 c.args.place c.ranges.place in
    known_on g.V.View.holds g.V.View.now c.args.view.now c.has_entered.new.view (Entered g.V.View.holds g.V.View.now c.args.call.now c.args.what c.args.place true) c.requires.well_formed (rw (what, place, c.if-not-entered.false) at c.in_ok-entered.ensures.left)

pub returns-in-Some-clause-left : goal.returns-in-Some-clause-left
returns-in-Some-clause-left g c =
    let what = to_z-of_z w32 c.args.what c.ranges.what in
    let place = to_z-of_z w32 c.args.place c.ranges.place in
    let before = to_z-of_z w32 c.args.before c.ranges.before in
    let arguments : c.in_ok-arguments.arguments.items ≡ object c.args.what ∷ object c.args.place ∷ object c.args.before ∷ [] = rw (what, place, before) at c.in_ok-arguments.ensures in
    let given : c.in_ok-given.given.items ≡ object c.args.what ∷ [] = rw what at c.in_ok-given.ensures in
    entered_led g.V.View.holds g.V.View.now c.args.call.now c.args.what c.args.place c.args.view.now c.has_entered.new.view c.begins.new.view c.args.before c.in-Some.effect (rw (what, place, c.if-not-entered.false) at c.in_ok-entered.ensures.left)
    (rw (place, arguments, given, c.in_ok-word.ensures, c.in-Some.is) at c.in_ok-begun.ensures.left)

pub returns-in-Some-clause-well_formed : goal.returns-in-Some-clause-well_formed
returns-in-Some-clause-well_formed g c =
    let what = to_z-of_z w32 c.args.what c.ranges.what in
    let place = to_z-of_z w32 c.args.place c.ranges.place in
    let before = to_z-of_z w32 c.args.before c.ranges.before in
    let arguments : c.in_ok-arguments.arguments.items ≡ object c.args.what ∷ object c.args.place ∷ object c.args.before ∷ [] = rw (what, place, before) at c.in_ok-arguments.ensures in
    let given : c.in_ok-given.given.items ≡ object c.args.what ∷ [] = rw what at c.in_ok-given.ensures in
    known_on g.V.View.holds g.V.View.now c.has_entered.new.view c.begins.new.view (Enters g.V.View.holds g.V.View.now c.args.call.now c.args.what c.args.place c.args.before (Some c.in-Some.effect))
    (known_on g.V.View.holds g.V.View.now c.args.view.now c.has_entered.new.view (Entered g.V.View.holds g.V.View.now c.args.call.now c.args.what c.args.place true) c.requires.well_formed (rw (what, place, c.if-not-entered.false) at c.in_ok-entered.ensures.left))
    (rw (place, arguments, given, c.in_ok-word.ensures, c.in-Some.is) at c.in_ok-begun.ensures.left)

pub returns-clause-left : goal.returns-clause-left
returns-clause-left g c =
    let what = to_z-of_z w32 c.args.what c.ranges.what in
    let place = to_z-of_z w32 c.args.place c.ranges.place in
    let before = to_z-of_z w32 c.args.before c.ranges.before in
    let arguments : c.in_ok-arguments.arguments.items ≡ object c.args.what ∷ object c.args.place ∷ object c.args.before ∷ [] = rw (what, place, before) at c.in_ok-arguments.ensures in
    let given : c.in_ok-given.given.items ≡ object c.args.what ∷ [] = rw what at c.in_ok-given.ensures in
    let none : c.in_ok-begun.begun ≡ None = first_of (search rules, cc) in
    no_entry_led g.V.View.holds g.V.View.now c.args.call.now c.args.what c.args.place c.args.view.now c.has_entered.new.view c.begins.new.view c.args.before c.integer-2.result c.integer-2.ensures (rw (what, place, c.if-not-entered.false) at c.in_ok-entered.ensures.left)
    (rw (place, arguments, given, c.in_ok-word.ensures, none) at c.in_ok-begun.ensures.left)

pub returns-clause-well_formed : goal.returns-clause-well_formed
returns-clause-well_formed g c =
    let what = to_z-of_z w32 c.args.what c.ranges.what in
    let place = to_z-of_z w32 c.args.place c.ranges.place in
    let before = to_z-of_z w32 c.args.before c.ranges.before in
    let arguments : c.in_ok-arguments.arguments.items ≡ object c.args.what ∷ object c.args.place ∷ object c.args.before ∷ [] = rw (what, place, before) at c.in_ok-arguments.ensures in
    let given : c.in_ok-given.given.items ≡ object c.args.what ∷ [] = rw what at c.in_ok-given.ensures in
    let none : c.in_ok-begun.begun ≡ None = first_of (search rules, cc) in
    known_on g.V.View.holds g.V.View.now c.has_entered.new.view c.begins.new.view (Enters g.V.View.holds g.V.View.now c.args.call.now c.args.what c.args.place c.args.before None)
    (known_on g.V.View.holds g.V.View.now c.args.view.now c.has_entered.new.view (Entered g.V.View.holds g.V.View.now c.args.call.now c.args.what c.args.place true) c.requires.well_formed (rw (what, place, c.if-not-entered.false) at c.in_ok-entered.ensures.left))
    (rw (place, arguments, given, c.in_ok-word.ensures, none) at c.in_ok-begun.ensures.left)
