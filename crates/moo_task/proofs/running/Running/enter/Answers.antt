use Rattle.std.proofs.Common.{◌∙◌, refl, ◌<◌, arith}
use Rattle.moo_code.specs.Machine.{verbs}
use Rattle.moo_task.specs.Frames.{kept_of}
use Rattle.moo_task.specs.Outcomes.{native_between}
use Rattle.moo_task.proofs.Entering.{entered}
use Rattle.moo_task.proofs.running.Running.enter.Goals as goal

pub returns-in_ok-push_native-in-Some-clause-led : goal.returns-in_ok-push_native-in-Some-clause-led
returns-in_ok-push_native-in-Some-clause-led c s args h =
    let room : verbs c.args.self.now.outer < 49 = omega arith in
    entered c.args.self.now.player _ _ c.args.end c.args.self.now.outer c.wait_for.new.self.outer c.push_native.new.self
    (native_between c.args.between) s (kept_of c.args.self.now.frame) (kept_of c.wait_for.new.self.frame) c.args.call c.args.program args
    room (c.in_ok-wait_for.ensures.begins args h) c.in_ok-wait_for.ensures.waits
    (c.in_ok-push_native-in-Some.ensures.ok ∙ rw c.in-Some.is refl) c.in_ok-wait_for.ensures.ticks

pub returns-in-None-clause-led : goal.returns-in-None-clause-led
returns-in-None-clause-led c s args h =
    let room : verbs c.args.self.now.outer < 49 = omega arith in
    entered c.args.self.now.player _ _ c.args.end c.args.self.now.outer c.wait_for.new.self.outer c.wait_for.new.self.outer
    (native_between c.args.between) s (kept_of c.args.self.now.frame) (kept_of c.wait_for.new.self.frame) c.args.call c.args.program args
    room (c.in_ok-wait_for.ensures.begins args h) c.in_ok-wait_for.ensures.waits (rw c.in-None.is refl) c.in_ok-wait_for.ensures.ticks
