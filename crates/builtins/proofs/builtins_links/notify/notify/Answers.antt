use Rattle.std.proofs.Common.{w32}
use Rattle.std.proofs.lemmas.Int.{to_z-of_z}
use Rattle.builtins.proofs.BuiltinsLinksRows.{notifies_not, notifies}
use Rattle.builtins.proofs.builtins_links.notify.notify.Goals as goal

pub returns-then-not-allowed-clause-left : goal.returns-then-not-allowed-clause-left
returns-then-not-allowed-clause-left g c =
    let object = to_z-of_z w32 c.args.object c.ranges.object in
    let programmer = to_z-of_z w32 c.args.programmer c.ranges.programmer in
    notifies_not g.V.View.holds g.V.View.now c.args.deeds.now c.args.programmer c.args.object c.args.view.now c.may.new.view c.args.line
    (rw (object, programmer, c.if-not-allowed.true) at c.in_ok-allowed.ensures.left)

pub returns-clause-left : goal.returns-clause-left
returns-clause-left g c =
    let object = to_z-of_z w32 c.args.object c.ranges.object in
    let programmer = to_z-of_z w32 c.args.programmer c.ranges.programmer in
    notifies g.V.View.holds g.V.View.now c.args.deeds.now c.args.programmer c.args.object c.args.view.now c.may.new.view c.connection.new.view c.send_line.new.deeds c.args.line c.in_ok-link.link c.in_ok-answer.answer
    (rw (object, programmer, c.if-not-allowed.false) at c.in_ok-allowed.ensures.left) (rw object at c.in_ok-link.ensures.left) c.in_ok-answer.ensures
