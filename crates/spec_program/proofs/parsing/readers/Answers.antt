use Rattle.spec_program.proofs.MovesHold.{expression_again, arguments_again, steps_again, items_again, operators_again, block_again, branches_again, arms_again}
use Rattle.spec_program.proofs.parsing.readers.Goals as goal

pub returns : goal.returns
returns c =
    record {
      expression = expression_again;
      arguments = arguments_again;
      steps = steps_again;
      items = items_again;
      operators = operators_again;
      block = block_again;
      branches = branches_again;
      arms = arms_again;
    }
