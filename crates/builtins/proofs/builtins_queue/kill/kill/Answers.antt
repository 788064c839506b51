use Rattle.std.proofs.Common.{◌≡◌, rules, w32, to_z, of_z}
use Rattle.std.proofs.lemmas.Int.{to_z-of_z}
use Rattle.builtins.proofs.BuiltinsQueueRows.{kills_one}
use Rattle.builtins.proofs.builtins_queue.kill.kill.Goals as goal

pub returns-clause-left : goal.returns-clause-left
returns-clause-left g c =
    let id = to_z-of_z w32 c.args.id c.ranges.id in
    let programmer = to_z-of_z w32 c.args.programmer c.ranges.programmer in
    let owner : to_z w32 (of_z w32 c.programmer_of-owner.result) ≡ c.programmer_of-owner.result = search rules in
    kills_one g.V.View.holds g.V.View.now c.args.programmer c.args.id c.args.view.now c.read_task.new.view c.may.new.view c.in-Some.task c.programmer_of-owner.result c.write_task.new.view c.integer.result
    c.integer.ensures c.programmer_of-owner.ensures (rw (id, c.in-Some.is) at c.in_ok-task.ensures.left) (rw (programmer, owner, c.if-not-allowed.false) at c.in_ok-allowed.ensures.left) (rw id at c.in_ok-write_task.ensures.left)
