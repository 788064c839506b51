use Rattle.moo_task.specs.Sameness.{SlotsAgree}
use Rattle.moo_task.proofs.Sameness.{frames_same, same_frame_further}
use Rattle.moo_task.proofs.same.same_variables.Goals as goal

pub returns-then-same_slots : goal.returns-then-same_slots
returns-then-same_slots c =
    let own = c.names-then-same_slots.result.now in
    let known_so = c.names-then-same_slots.ensures in
    let slots : SlotsAgree c.names.result c.args.a.now.state.slots.items c.args.b.now.state.slots.items =
    rw (c.deref.ensures.value, c.deref-2.ensures.value) at (c.same_slots.ensures.0 c.if-same_slots.true) in (
      λ h. frames_same c.args.a.now c.args.b.now c.names.result c.names.ensures c.requires slots own known_so (c.same_further.ensures.0 h),
      λ e. c.same_further.ensures.1 (same_frame_further c.args.a.now c.args.b.now own known_so e),
    )
