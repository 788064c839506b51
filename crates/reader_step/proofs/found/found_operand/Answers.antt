use Rattle.std.proofs.Common.{◌∙◌, sym}
use Rattle.reader_step.proofs.Popped.{popped_operand}
use Rattle.reader_step.proofs.found.found_operand.Goals as goal

pub returns : goal.returns
returns c =
    rw (popped_operand c.args.begun.value c.pop.new.self _ _ (sym c.deref_mut.ensures.value ∙ c.in-Some-Operand.ensures) c.in-Some-Operand.field-0-is)
    c.behind_operand.ensures
