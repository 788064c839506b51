use Rattle.moo_task.specs.Meant.{failure_meant}
use Rattle.local_code.proofs.Offering.{arm_takes}
use Rattle.local_code.proofs.moo_unwind.offer.run_arm.Goals as goal

pub returns : goal.returns
returns c a k out first past hs =
    rw (c.fall.ensures, c.part_place-place.ensures)
    (arm_takes a k out c.args.state.now first past c.args.height c.args.held hs c.requires.held c.args.arms.now (failure_meant c.args.failure.now) c.args.arm c.requires.taking c.requires.variable)
