use Rattle.std.proofs.Common.{◌∙◌, sym}
use Rattle.reader_step.proofs.Popped.{popped_statement}
use Rattle.reader_step.proofs.found.found_statement.Goals as goal

pub returns : goal.returns
returns c =
    rw (popped_statement c.args.begun.value c.pop.new.self _ (sym c.deref_mut.ensures.value ∙ c.in-Some-Statement.ensures) c.in-Some-Statement.field-0-is)
    c.behind_statement.ensures
