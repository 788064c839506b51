-- For proofs that compute: to unfold `opened` is to unfold each definition that the reading of a text and the tests of a world go through.
use Rattle.spec_program.specs.Tokens.{looked_up, tokens_from}
use Rattle.spec_program.specs.ReadExpressions.{some_arguments, steps, items_from, operators, expression}
use Rattle.spec_program.specs.ReadPrograms.{branches, arms, block, parsed}
use Rattle.spec_world.specs.Inherit.{line, ancestors}
use Rattle.spec_world.specs.WellFormed.{once, comes_out, defined_on, names_once, links_read}

unfoldable pub opened : Unit {0}
unfolding looked_up tokens_from some_arguments steps items_from operators expression branches arms block parsed line ancestors once comes_out defined_on names_once links_read
opened = tt
