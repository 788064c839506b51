use Rattle.std.proofs.Common.{◌∙◌, ap, sym}
use Rattle.moo_task.specs.Shown.{answered_of}
use Rattle.moo_task.proofs.InSlots.{loads}
use Rattle.moo_task.proofs.moo_machine.verb.State.load.Goals as goal

pub returns : goal.returns
returns c a x h =
    loads a c.args.call.now c.args.self.now c.args.slot x h ∙ ap (λ r. answered_of a c.args.call.now r c.args.self.now) (sym c.in_ok-answer.ensures)
    ∙ c.in_ok-did.ensures a
