use Rattle.spec_program.proofs.FurtherMovesHold.{step_moves, step_ends, variable_move, value_moves, bar_move}
use Rattle.spec_program.proofs.parsing.further_moves.Goals as goal

pub returns : goal.returns
returns c =
    record {
      steps = step_moves;
      ends = step_ends;
      variable = variable_move;
      values = value_moves;
      bar = bar_move;
    }
