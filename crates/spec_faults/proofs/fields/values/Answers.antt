-- What a value is told of.
use Rattle.spec_faults.proofs.Spelling.{values_spelled}
use Rattle.spec_faults.proofs.LiteralsBack.{values_told}
use Rattle.spec_faults.proofs.fields.values.Goals as goal

pub returns : goal.returns
returns c = record { values = values_spelled; each = values_told }
