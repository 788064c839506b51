use Rattle.spec_program.proofs.MovesHold.{push_is_then, expression_move, operand_moves, argument_moves, operator_moves, operators_end}
use Rattle.spec_program.proofs.parsing.moves.Goals as goal

pub returns : goal.returns
returns c =
    record {
      push = push_is_then;
      expression = expression_move;
      operands = operand_moves;
      arguments = argument_moves;
      operators = operator_moves;
      end = operators_end;
    }
