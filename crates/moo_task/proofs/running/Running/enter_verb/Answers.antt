use Rattle.std.proofs.Common.{refl, []}
use Rattle.moo_task.specs.Frames.{kept_of}
use Rattle.moo_task.proofs.Entering.{entered}
use Rattle.moo_task.proofs.running.Running.enter_verb.Goals as goal

pub returns-clause-led : goal.returns-clause-led
returns-clause-led c s end args h =
    entered c.args.self.now.player _ _ end c.args.self.now.outer c.wait_for.new.self.outer c.wait_for.new.self.outer
    [] s (kept_of c.args.self.now.frame) (kept_of c.wait_for.new.self.frame) c.args.call c.args.program args
    c.requires (c.in_ok-wait_for.ensures.begins args h) c.in_ok-wait_for.ensures.waits refl c.in_ok-wait_for.ensures.ticks
