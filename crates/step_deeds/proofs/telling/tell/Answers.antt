use Rattle.std.proofs.Common.{◌≡◌, None, rules, w32, to_z, of_z}
use Rattle.std.proofs.lemmas.Int.{to_z-of_z}
use Rattle.step_deeds.proofs.ToldLines.{told_nobody, told_somebody}
use Rattle.step_deeds.proofs.telling.tell.Goals as goal

pub returns-in_default-clause-left : goal.returns-in_default-clause-left
returns-in_default-clause-left g c =
    let object = to_z-of_z w32 c.args.object c.ranges.object in
    let none : c.in_ok-link.field-0 ≡ None = first_of (search rules, cc) in
    told_nobody g.V.View.holds g.V.View.now c.args.view.now c.connection.new.view c.args.deeds.now c.args.object c.args.lines.items (rw (object, none) at c.in_ok-link.ensures.left)

pub returns-clause-left : goal.returns-clause-left
returns-clause-left g c =
    let object = to_z-of_z w32 c.args.object c.ranges.object in
    let link : to_z w32 (of_z w32 c.in-Some.link) ≡ c.in-Some.link = search rules in
    told_somebody g.V.View.holds g.V.View.now c.args.view.now c.connection.new.view c.args.deeds.now c.tell_on.new.deeds c.args.object c.in-Some.link c.args.lines.items
    (rw (object, c.in-Some.is) at c.in_ok-link.ensures.left) (rw link at c.in_ok-tell_on.ensures)
