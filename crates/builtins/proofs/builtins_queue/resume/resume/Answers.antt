use Rattle.std.proofs.Common.{w32}
use Rattle.std.proofs.lemmas.Int.{to_z-of_z}
use Rattle.builtins.proofs.builtins_queue.resume.resume.Goals as goal

pub returns-clause-left : goal.returns-clause-left
returns-clause-left g c =
    let id = to_z-of_z w32 c.args.id c.ranges.id in
    let programmer = to_z-of_z w32 c.args.programmer c.ranges.programmer in
    rw (id, programmer, c.integer-zero.ensures) at c.in_ok-answer.ensures.left
