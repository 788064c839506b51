use Rattle.std.proofs.Common.{◌≡◌, true, w32}
use Rattle.std.proofs.lemmas.Int.{to_z-of_z}
use Rattle.rules.proofs.Tellings.{known_on}
use Rattle.builtins.proofs.Refusing.{are_there, later_absent, later_inside, later_right}
use Rattle.builtins.proofs.builtins_staged.moving.later_refusal.Goals as goal

pub returns-then-not-there-clause-left : goal.returns-then-not-there-clause-left
returns-then-not-there-clause-left g c =
    let what = to_z-of_z w32 c.args.what c.ranges.what in
    let place = to_z-of_z w32 c.args.place c.ranges.place in
    later_absent g.V.View.holds g.V.View.now c.args.what c.args.place c.args.view.now c.are_there.new.view (rw (what, place, c.if-not-there.true) at c.in_ok-there.ensures.left)

pub is_inside-requires-clause-well_formed : goal.is_inside-requires-clause-well_formed
is_inside-requires-clause-well_formed g c =
    let what = to_z-of_z w32 c.args.what c.ranges.what in
    let place = to_z-of_z w32 c.args.place c.ranges.place in
    known_on g.V.View.holds g.V.View.now c.args.view.now c.are_there.new.view (λ w. are_there c.args.what c.args.place w ≡ true) c.requires.well_formed
    (rw (what, place, c.if-not-there.false) at c.in_ok-there.ensures.left)

pub returns-then-inside-clause-left : goal.returns-then-inside-clause-left
returns-then-inside-clause-left g c =
    let what = to_z-of_z w32 c.args.what c.ranges.what in
    let place = to_z-of_z w32 c.args.place c.ranges.place in
    later_inside g.V.View.holds g.V.View.now c.args.what c.args.place c.args.view.now c.are_there.new.view c.is_inside.new.view (rw (what, place, c.if-not-there.false) at c.in_ok-there.ensures.left)
    (rw (what, place, c.if-inside.true) at c.in_ok-inside.ensures.left)

pub returns-clause-left : goal.returns-clause-left
returns-clause-left g c =
    let what = to_z-of_z w32 c.args.what c.ranges.what in
    let place = to_z-of_z w32 c.args.place c.ranges.place in
    later_right g.V.View.holds g.V.View.now c.args.what c.args.place c.args.view.now c.are_there.new.view c.is_inside.new.view (rw (what, place, c.if-not-there.false) at c.in_ok-there.ensures.left)
    (rw (what, place, c.if-inside.false) at c.in_ok-inside.ensures.left)
