-- For proofs that compute: to unfold `opened` is to unfold each definition that a run goes through.
use Rattle.std.specs.Fmt.{digits}
use Rattle.spec_program.specs.Tokens.{looked_up, tokens_from}
use Rattle.spec_program.specs.ReadExpressions.{some_arguments, steps, items_from, operators, expression}
use Rattle.spec_program.specs.ReadPrograms.{branches, arms, block, parsed}
use Rattle.spec_faults.specs.Literals.{value_front, items_front}
use Rattle.spec_faults.specs.Faults.{first_fault}

unfoldable pub opened : Unit {0}
unfolding digits looked_up tokens_from some_arguments steps items_from operators expression branches arms block parsed value_front items_front first_fault
opened = tt
