use Rattle.std.proofs.Common.{◌<◌, length, arith}
use Rattle.std.proofs.lemmas.Bool.Decides.{nat_tests}
use Rattle.moo_script.specs.declared.script.Command.TheVariants as command
use Rattle.moo_script.proofs.Scripts.{one_more, faulty_line, endless_line}
use Rattle.moo_script.proofs.script.read_body.Goals as goal

pub returns-in_default-clause-fault : goal.returns-in_default-clause-fault
returns-in_default-clause-fault c =
    let some : 0 < length c.loop-rest.rest.now = grind (arith, nat_tests) in
    rw c.saturating_add-line.ensures (endless_line _ _ _ _ _ _ c.loop-rest.invariant some c.in_default.ensures)

pub loop-rest-preserved-in-Ok-Moment : goal.loop-rest-preserved-in-Ok-Moment
loop-rest-preserved-in-Ok-Moment c =
    let says = rw c.in-Ok-Moment.field-0-is at c.in-Ok-Moment.ensures.says in
    rw c.saturating_add-line.ensures (one_more _ _ _ _ _ _ c.loop-rest.invariant c.in-Some.text.now c.in-Some.after.now (command.Moment c.in-Ok-Moment.seconds) c.in-Some.ensures.0 c.in-Some.ensures.1 says)

pub loop-rest-preserved : goal.loop-rest-preserved
loop-rest-preserved c =
    let says = rw c.in-Ok-Event.field-0-is at c.in-Ok-Event.ensures.says in
    rw (c.saturating_add-line.ensures, c.saturating_add-number.ensures, c.in_default-push.ensures.items)
    (one_more _ _ _ _ _ _ c.loop-rest.invariant c.in-Some.text.now c.in-Some.after.now (command.Event c.in-Ok-Event.event) c.in-Some.ensures.0 c.in-Some.ensures.1 says)

pub returns-in-Err-Fault-clause-fault : goal.returns-in-Err-Fault-clause-fault
returns-in-Err-Fault-clause-fault c =
    let refused = rw c.in-Err-Fault.field-0-is at c.in-Err-Fault.ensures.refused in
    rw (c.saturating_add-line.ensures, c.in-Err-Fault.field-0-is) (faulty_line _ _ _ _ _ _ c.loop-rest.invariant c.in-Some.text.now c.in-Some.after.now c.in-Err-Fault.kind c.in-Some.ensures.0 c.in-Some.ensures.1 refused)
