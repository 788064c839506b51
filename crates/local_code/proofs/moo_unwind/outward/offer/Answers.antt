use Rattle.std.proofs.Common.{◌≡◌, ◌≤◌, ◌∙◌, length, arith}
use Rattle.moo_code.specs.Machine.{out_of}
use Rattle.moo_code.specs.Names.{names_of}
use Rattle.moo_task.specs.Outcomes.{around, ticks_of}
use Rattle.local_code.proofs.Handlers.{handlers_within, offered_so}
use Rattle.local_code.proofs.moo_unwind.outward.offer.Goals as goal

pub leave-requires : goal.leave-requires
leave-requires c =
    let frame = c.args.task.now.frame in
    let as_many : length frame.state.slots.items ≡ length (names_of frame.program) = omega (arith, c.len.ensures, c.names.ensures, c.if-len-names.false) in
    handlers_within (length (names_of frame.program)) (length frame.state.slots.items) c.handlers-handlers.result.now c.handlers-handlers.ensures.slots as_many

pub returns-clause-offered : goal.returns-clause-offered
returns-clause-offered c s =
    let task = c.args.task.now in
    let fits : length task.frame.state.slots.items ≤ length (names_of task.frame.program) = omega (arith, c.len.ensures, c.names.ensures, c.if-len-names.false) in
    c.in_ok-offered.ensures.shown (around task s) task.frame.call (out_of task.player (ticks_of task) task.outer) fits c.handlers-handlers.ensures.handlers
    ∙ offered_so task c.leave.new.state s c.in_ok-offered.offered c.in_ok-offered.ensures.same
