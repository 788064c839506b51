use Rattle.std.proofs.Common.{ap, w32}
use Rattle.std.proofs.lemmas.Int.{to_z-of_z}
use Rattle.moo_task.specs.Deeds.{scene_of}
use Rattle.step_deeds.proofs.telling.tell_on.Goals as goal

pub returns : goal.returns
returns c =
    let connection = to_z-of_z w32 c.args.connection c.ranges.connection in
    λ w t. ap (λ ls. record (scene_of c.args.deeds.now w t) { output = ls }) (rw connection at c.in_ok-push_lines.ensures)
