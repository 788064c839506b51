use Rattle.std.proofs.Common.{sym}
use Rattle.task_lines.proofs.StartTold.{not_six, no_text_last, text_there, object_there, six_there}
use Rattle.task_lines.proofs.start.start_of.Goals as goal

pub returns-then-items-ne6-clause-fault : goal.returns-then-items-ne6-clause-fault
returns-then-items-ne6-clause-fault c = sym (not_six c.args.items.now c.if-items-ne6.true)

pub returns-in_default-5-clause-fault : goal.returns-in_default-5-clause-fault
returns-in_default-5-clause-fault c = sym (no_text_last c.args.items.now c.index-items-5.result _ c.in_ok-iobjstr.field-0 c.index-items-5.is c.in_default-5.is c.in_ok-iobjstr.ensures.reads)

pub returns-clause-fault : goal.returns-clause-fault
returns-clause-fault c =
    sym
    (six_there c.args.items.now c.if-items-ne6.false
    (text_there c.args.items.now 0 c.index-items-0.result _ c.in_ok-argstr.field-0 c.in-Some.argstr c.index-items-0.is c.in-Some.is c.in_ok-argstr.ensures.reads)
    (object_there c.args.items.now 1 c.index-items-1.result _ c.object_in.result c.in-Some-Some.dobj c.index-items-1.is c.in-Some-Some.is-0 c.object_in.ensures.reads)
    (text_there c.args.items.now 2 c.index-items-2.result _ c.in_ok-dobjstr.field-0 c.in-Some-2.dobjstr c.index-items-2.is c.in-Some-2.is c.in_ok-dobjstr.ensures.reads)
    (text_there c.args.items.now 3 c.index-items-3.result _ c.in_ok-prepstr.field-0 c.in-Some-3.prepstr c.index-items-3.is c.in-Some-3.is c.in_ok-prepstr.ensures.reads)
    (object_there c.args.items.now 4 c.index-items-4.result _ c.object_in-2.result c.in-Some-Some.iobj c.index-items-4.is c.in-Some-Some.is-1 c.object_in-2.ensures.reads)
    (text_there c.args.items.now 5 c.index-items-5.result _ c.in_ok-iobjstr.field-0 c.in-Some-4.iobjstr c.index-items-5.is c.in-Some-4.is c.in_ok-iobjstr.ensures.reads))
