use Rattle.std.proofs.Common.{◌+◌, length, reverse, take}
use Rattle.moo_code.specs.Machine.{lowest}
use Rattle.moo_task.specs.Meant.{failure_meant}
use Rattle.local_code.proofs.Offering.{arm_binds, taking_within}
use Rattle.local_code.proofs.moo_unwind.offer.bind_arm.Goals as goal

pub bind-requires : goal.bind-requires
bind-requires c =
    taking_within (length c.args.state.now.slots.items) c.args.arms.now (reverse (take c.args.held (lowest (c.args.height + c.args.held) c.args.state.now.operands)))
    c.args.failure.now.code c.args.arm c.args.slot c.requires.slots c.requires.taking c.requires.variable

pub returns : goal.returns
returns c a k out first past hs fits =
    rw (c.fall.ensures, c.part_place-place.ensures, c.bind.ensures, c.in_ok-value.ensures)
    (arm_binds a k out c.args.state.now first past c.args.height c.args.held hs c.requires.held c.args.arms.now (failure_meant c.args.failure.now) c.args.arm c.args.slot c.requires.taking
    c.requires.variable
    (taking_within (length c.args.state.now.slots.items) c.args.arms.now (reverse (take c.args.held (lowest (c.args.height + c.args.held) c.args.state.now.operands)))
    c.args.failure.now.code c.args.arm c.args.slot c.requires.slots c.requires.taking c.requires.variable) fits)
