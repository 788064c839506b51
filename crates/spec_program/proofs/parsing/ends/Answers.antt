use Rattle.spec_program.proofs.OtherMovesHold.{operand_ends, expression_ends, item_ends, codes_end, steps_stop}
use Rattle.spec_program.proofs.parsing.ends.Goals as goal

pub returns : goal.returns
returns c =
    record {
      operands = operand_ends;
      expressions = expression_ends;
      items = item_ends;
      codes = codes_end;
      steps = steps_stop;
    }
