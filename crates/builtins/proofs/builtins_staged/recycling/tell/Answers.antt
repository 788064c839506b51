use Rattle.std.proofs.Common.{◌≡◌, Some, None, rules, w32}
use Rattle.std.proofs.lemmas.Int.{to_z-of_z}
use Rattle.rules.proofs.Tellings.{known_on}
use Rattle.builtins.proofs.Letting.{Begins, begun_over, gone_over}
use Rattle.builtins.proofs.builtins_staged.recycling.tell.Goals as goal

pub returns-in-Some-clause-left : goal.returns-in-Some-clause-left
returns-in-Some-clause-left g c =
    let object = to_z-of_z w32 c.args.object c.ranges.object in
    begun_over g.V.View.holds g.V.View.now c.args.call.now c.args.object c.args.deeds.now c.args.view.now c.call_verb.new.view c.in-Some.effect (rw (object, c.in-Some.is) at c.in_ok-begun.ensures.left)

pub returns-in-Some-clause-well_formed : goal.returns-in-Some-clause-well_formed
returns-in-Some-clause-well_formed g c =
    let object = to_z-of_z w32 c.args.object c.ranges.object in
    known_on g.V.View.holds g.V.View.now c.args.view.now c.call_verb.new.view (Begins g.V.View.holds g.V.View.now c.args.call.now c.args.object c.args.deeds.now (Some c.in-Some.effect)) c.requires.well_formed (rw (object, c.in-Some.is) at c.in_ok-begun.ensures.left)

pub let_go-requires-clause-well_formed : goal.let_go-requires-clause-well_formed
let_go-requires-clause-well_formed g c =
    let object = to_z-of_z w32 c.args.object c.ranges.object in
    let none : c.in_ok-begun.begun ≡ None = first_of (search rules, cc) in
    known_on g.V.View.holds g.V.View.now c.args.view.now c.call_verb.new.view (Begins g.V.View.holds g.V.View.now c.args.call.now c.args.object c.args.deeds.now None) c.requires.well_formed (rw (object, none) at c.in_ok-begun.ensures.left)

pub returns-clause-left : goal.returns-clause-left
returns-clause-left g c =
    let object = to_z-of_z w32 c.args.object c.ranges.object in
    let none : c.in_ok-begun.begun ≡ None = first_of (search rules, cc) in
    gone_over g.V.View.holds g.V.View.now c.args.call.now c.args.object c.args.deeds.now c.args.view.now c.call_verb.new.view c.let_go.new.view c.let_go.new.deeds c.in_ok-gone.gone
    (rw (object, none) at c.in_ok-begun.ensures.left) (rw object at c.in_ok-gone.ensures.left)
