use Rattle.spec_program.proofs.OtherMovesHold.{operand_faults, step_faults, dollar_moves, value_faults, catch_faults}
use Rattle.spec_program.proofs.parsing.operand_faults.Goals as goal

pub returns : goal.returns
returns c =
    record {
      operands = operand_faults;
      steps = step_faults;
      dollars = dollar_moves;
      values = value_faults;
      catches = catch_faults;
    }
