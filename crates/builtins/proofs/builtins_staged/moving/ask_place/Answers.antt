use Rattle.std.proofs.Common.{◌≡◌, true, false, Some, None, rules, w32}
use Rattle.std.proofs.lemmas.Int.{to_z-of_z}
use Rattle.rules.proofs.Tellings.{known_on, stays_known}
use Rattle.builtins.specs.Moves.{MayMove}
use Rattle.builtins.proofs.Telling.{There, Accepts, unasked_led, asked_led, unheard_led}
use Rattle.builtins.proofs.builtins_staged.moving.ask_place.Goals as goal

pub move_now-requires-clause-well_formed : goal.move_now-requires-clause-well_formed
move_now-requires-clause-well_formed g c =
    let place = to_z-of_z w32 c.args.place c.ranges.place in
    known_on g.V.View.holds g.V.View.now c.args.view.now c.is_there.new.view (There g.V.View.holds g.V.View.now c.args.call.now c.args.what c.args.place false) c.requires.well_formed (rw (place, c.if-not-there.true) at c.in_ok-there.ensures.left)

pub move_now-requires-clause-may_move : goal.move_now-requires-clause-may_move
move_now-requires-clause-may_move g c =
    let what = to_z-of_z w32 c.args.what c.ranges.what in
    let place = to_z-of_z w32 c.args.place c.ranges.place in
    rw (what, place) (stays_known g.V.View.holds g.V.View.now (λ w. MayMove w c.args.what c.args.place) c.args.view.now c.is_there.new.view (There g.V.View.holds g.V.View.now c.args.call.now c.args.what c.args.place false) c.requires.may_move (rw (place, c.if-not-there.true) at c.in_ok-there.ensures.left))

pub returns-then-not-there-clause-left : goal.returns-then-not-there-clause-left
returns-then-not-there-clause-left g c =
    let what = to_z-of_z w32 c.args.what c.ranges.what in
    let place = to_z-of_z w32 c.args.place c.ranges.place in
    unasked_led g.V.View.holds g.V.View.now c.args.call.now c.args.what c.args.place c.args.view.now c.is_there.new.view c.move_now.new.view c.in_ok-moved.moved (rw (place, c.if-not-there.true) at c.in_ok-there.ensures.left)
    (rw (what, place) at c.in_ok-moved.ensures.left)

pub accept-requires-clause-well_formed : goal.accept-requires-clause-well_formed
accept-requires-clause-well_formed g c =
    let place = to_z-of_z w32 c.args.place c.ranges.place in
    known_on g.V.View.holds g.V.View.now c.args.view.now c.is_there.new.view (There g.V.View.holds g.V.View.now c.args.call.now c.args.what c.args.place true) c.requires.well_formed (rw (place, c.if-not-there.false) at c.in_ok-there.ensures.left)

pub returns-in-Some-clause-left : goal.returns-in-Some-clause-left
returns-in-Some-clause-left g c =
    let what = to_z-of_z w32 c.args.what c.ranges.what in
    let place = to_z-of_z w32 c.args.place c.ranges.place in
    asked_led g.V.View.holds g.V.View.now c.args.call.now c.args.what c.args.place c.args.view.now c.is_there.new.view c.accept.new.view c.in-Some.effect (rw (place, c.if-not-there.false) at c.in_ok-there.ensures.left)
    (rw (what, place, c.in-Some.is) at c.in_ok-begun.ensures.left)

pub returns-in-Some-clause-well_formed : goal.returns-in-Some-clause-well_formed
returns-in-Some-clause-well_formed g c =
    let what = to_z-of_z w32 c.args.what c.ranges.what in
    let place = to_z-of_z w32 c.args.place c.ranges.place in
    known_on g.V.View.holds g.V.View.now c.is_there.new.view c.accept.new.view (Accepts g.V.View.holds g.V.View.now c.args.call.now c.args.what c.args.place (Some c.in-Some.effect))
    (known_on g.V.View.holds g.V.View.now c.args.view.now c.is_there.new.view (There g.V.View.holds g.V.View.now c.args.call.now c.args.what c.args.place true) c.requires.well_formed (rw (place, c.if-not-there.false) at c.in_ok-there.ensures.left))
    (rw (what, place, c.in-Some.is) at c.in_ok-begun.ensures.left)

pub accepted-requires-clause-well_formed : goal.accepted-requires-clause-well_formed
accepted-requires-clause-well_formed g c =
    let what = to_z-of_z w32 c.args.what c.ranges.what in
    let place = to_z-of_z w32 c.args.place c.ranges.place in
    let none : c.in_ok-begun.begun ≡ None = first_of (search rules, cc) in
    known_on g.V.View.holds g.V.View.now c.is_there.new.view c.accept.new.view (Accepts g.V.View.holds g.V.View.now c.args.call.now c.args.what c.args.place None)
    (known_on g.V.View.holds g.V.View.now c.args.view.now c.is_there.new.view (There g.V.View.holds g.V.View.now c.args.call.now c.args.what c.args.place true) c.requires.well_formed (rw (place, c.if-not-there.false) at c.in_ok-there.ensures.left))
    (rw (what, place, none) at c.in_ok-begun.ensures.left)

pub returns-clause-left : goal.returns-clause-left
returns-clause-left g c =
    let what = to_z-of_z w32 c.args.what c.ranges.what in
    let place = to_z-of_z w32 c.args.place c.ranges.place in
    let none : c.in_ok-begun.begun ≡ None = first_of (search rules, cc) in
    unheard_led g.V.View.holds g.V.View.now c.args.call.now c.args.what c.args.place c.args.view.now c.is_there.new.view c.accept.new.view c.accepted.new.view c.in_ok-answered.answered (rw (place, c.if-not-there.false) at c.in_ok-there.ensures.left)
    (rw (what, place, none) at c.in_ok-begun.ensures.left) (rw (what, place) at c.in_ok-answered.ensures.left)
