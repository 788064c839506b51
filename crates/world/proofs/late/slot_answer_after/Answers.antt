use Rattle.std.proofs.Common.{◌≡◌, None, map, rules}
use Rattle.view.specs.Meanings.{answer_of, change_of}
use Rattle.world.specs.Late.{slot_told}
use Rattle.world.proofs.Lightly.{copy_absent}
use Rattle.world.proofs.late.slot_answer_after.Goals as goal

pub returns-in-None : goal.returns-in-None
returns-in-None c =
    let none : slot_told (answer_of c.args.home.now) ≡ None = search rules in
    copy_absent c.copied.result (answer_of c.args.home.now) (map change_of c.args.changes.now) c.args.object c.args.name.now c.requires none c.copied.ensures
