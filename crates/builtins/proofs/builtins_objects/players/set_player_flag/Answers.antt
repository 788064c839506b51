use Rattle.std.proofs.Common.{w32}
use Rattle.std.proofs.lemmas.Int.{to_z-of_z}
use Rattle.builtins.proofs.Flags.{flags_well}
use Rattle.builtins.proofs.builtins_objects.players.set_player_flag.Goals as goal

pub returns-clause-well_formed : goal.returns-clause-well_formed
returns-clause-well_formed g c =
    let object = to_z-of_z w32 c.args.object c.ranges.object in
    let programmer = to_z-of_z w32 c.args.programmer c.ranges.programmer in
    flags_well g.V.View.holds g.V.View.now c.args.view.now c.change_flag.new.view c.args.deeds.now c.change_flag.new.deeds c.args.programmer c.args.object c.args.value.now c.change_flag.result
    (rw (object, programmer) at c.change_flag.ensures.left) c.requires.well_formed

pub returns-clause-left : goal.returns-clause-left
returns-clause-left g c =
    let object = to_z-of_z w32 c.args.object c.ranges.object in
    let programmer = to_z-of_z w32 c.args.programmer c.ranges.programmer in
    rw (object, programmer) at c.change_flag.ensures.left
