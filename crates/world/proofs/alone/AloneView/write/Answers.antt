use Rattle.std.proofs.Common.{◌∙◌, w32}
use Rattle.std.proofs.lemmas.Int.{to_z-of_z}
use Rattle.world.proofs.alone.AloneView.write.Goals as goal

pub returns-then-done-clause-left : goal.returns-then-done-clause-left
returns-then-done-clause-left c = λ w is.
    (is ∙ c.in_ok-done.ensures.home, rw (to_z-of_z w32 c.args.object c.ranges.object, to_z-of_z w32 c.args.programmer c.ranges.programmer) at (c.in_ok-done.ensures.done c.if-done.true))
