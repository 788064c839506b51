use Rattle.std.proofs.Common.{w32}
use Rattle.std.proofs.lemmas.Int.{to_z-of_z}
use Rattle.builtins.proofs.Flags.{flag_told, no_flag_told}
use Rattle.builtins.proofs.builtins_objects.players.give_flag.Goals as goal

pub returns-then-flag-clause-left : goal.returns-then-flag-clause-left
returns-then-flag-clause-left g c =
    let object = to_z-of_z w32 c.args.object c.ranges.object in
    rw c.if-flag.true
    (flag_told g.V.View.holds g.V.View.now c.args.object c.put_flag.result c.args.view.now c.put_flag.new.view c.args.deeds.now (rw object at c.put_flag.ensures.left))

pub returns-clause-left : goal.returns-clause-left
returns-clause-left g c =
    let object = to_z-of_z w32 c.args.object c.ranges.object in
    rw c.if-flag.false
    (no_flag_told g.V.View.holds g.V.View.now c.args.object c.put_flag-2.result c.args.view.now c.close_connection_of.new.view c.put_flag-2.new.view c.args.deeds.now c.close_connection_of.new.deeds
    (rw object at c.in_ok-close_connection_of.ensures.left) (rw object at c.put_flag-2.ensures.left))
