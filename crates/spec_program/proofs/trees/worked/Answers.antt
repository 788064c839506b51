-- Rows of trees, computed.
use Rattle.std.proofs.Common.{refl}
use Rattle.spec_program.specs.Tokens.{looked_up, tokens_from}
use Rattle.spec_program.specs.ReadExpressions.{some_arguments, steps, items_from, operators, expression}
use Rattle.spec_program.specs.ReadPrograms.{branches, arms, block, parsed}
use Rattle.spec_program.specs.TreeRows.{deep}
use Rattle.spec_program.proofs.trees.worked.Goals as goal

pub returns-clause-texts : goal.returns-clause-texts
unfolding looked_up tokens_from some_arguments steps items_from operators expression branches arms block parsed
returns-clause-texts c = (refl, refl)

pub returns-clause-heights : goal.returns-clause-heights
unfolding deep
returns-clause-heights c = (refl, refl)
