use Rattle.spec_program.proofs.StatementMovesHold.{block_moves, block_ends, simple_moves, head_moves, head_ends, head_faults, branch_moves, arm_moves, try_moves}
use Rattle.spec_program.proofs.parsing.statement_moves.Goals as goal

pub returns : goal.returns
returns c =
    record {
      blocks = block_moves;
      ends = block_ends;
      simple = simple_moves;
      heads = head_moves;
      head_ends = head_ends;
      head_faults = head_faults;
      branches = branch_moves;
      arms = arm_moves;
      tries = try_moves;
    }
