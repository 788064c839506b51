use Rattle.std.proofs.Common.{arith, ◌<◌, refl}
use Rattle.task_step.specs.StepView.{event_of}
use Rattle.moo_session.proofs.Adding.{adds_unfit, no_number}
use Rattle.moo_session.proofs.draft.Draft.push_next.Goals as goal

pub returns-in-None : goal.returns-in-None
returns-in-None c =
    let great : 33554431 < c.args.self.now.next = omega (arith, c.in-None.ensures) in
    adds_unfit _ _ _ refl (no_number c.args.self.now.next c.args.self.now.moment c.args.self.now.key (event_of c.args.event) great)
