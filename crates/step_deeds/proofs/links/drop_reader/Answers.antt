use Rattle.std.proofs.Common.{◌≡◌, None, rules, w32, to_z, of_z}
use Rattle.std.proofs.lemmas.Int.{to_z-of_z}
use Rattle.step_deeds.proofs.Closing.{none_dropped, one_dropped}
use Rattle.step_deeds.proofs.links.drop_reader.Goals as goal

pub returns-in_default-clause-left : goal.returns-in_default-clause-left
returns-in_default-clause-left g c =
    let connection = to_z-of_z w32 c.args.connection c.ranges.connection in
    let none : c.in_ok-task.field-0 ≡ None = first_of (search rules, cc) in
    none_dropped g.V.View.holds g.V.View.now c.args.view.now c.reader.new.view c.args.connection (rw (connection, none) at c.in_ok-task.ensures.left)

pub returns-clause-left : goal.returns-clause-left
returns-clause-left g c =
    let connection = to_z-of_z w32 c.args.connection c.ranges.connection in
    let task : to_z w32 (of_z w32 c.in-Some.task) ≡ c.in-Some.task = search rules in
    one_dropped g.V.View.holds g.V.View.now c.args.view.now c.reader.new.view c.write_task.new.view c.args.connection c.in-Some.task
    (rw (connection, c.in-Some.is) at c.in_ok-task.ensures.left) (rw task at c.in_ok-write_task.ensures.left)
