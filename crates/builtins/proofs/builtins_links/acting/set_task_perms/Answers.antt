use Rattle.std.proofs.Common.{w32, to_z, of_z}
use Rattle.std.proofs.lemmas.Int.{to_z-of_z}
use Rattle.builtins.proofs.BuiltinsLinksRows.{perms_refused, perms_set}
use Rattle.builtins.proofs.builtins_links.acting.set_task_perms.Goals as goal

pub returns-in-Some-clause-left : goal.returns-in-Some-clause-left
returns-in-Some-clause-left g c =
    let object = to_z-of_z w32 c.args.object c.ranges.object in
    let programmer = to_z-of_z w32 c.args.programmer c.ranges.programmer in
    perms_refused g.V.View.holds g.V.View.now c.args.programmer c.args.object c.args.view.now c.refusal.new.view c.in-Some.error (rw (object, programmer, c.in-Some.is) at c.in_ok-refused.ensures.left)

pub returns-in-None-clause-left : goal.returns-in-None-clause-left
returns-in-None-clause-left g c =
    let object = to_z-of_z w32 c.args.object c.ranges.object in
    let programmer = to_z-of_z w32 c.args.programmer c.ranges.programmer in
    perms_set g.V.View.holds g.V.View.now c.args.programmer c.args.object c.args.view.now c.refusal.new.view (to_z w32 (of_z w32 c.args.object)) object (rw (object, programmer, c.in-None.is) at c.in_ok-refused.ensures.left)
