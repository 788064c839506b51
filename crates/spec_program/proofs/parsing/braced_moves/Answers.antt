use Rattle.spec_program.proofs.BracedMovesHold.{brace_moves, item_moves, code_moves, catch_moves, system_moves}
use Rattle.spec_program.proofs.parsing.braced_moves.Goals as goal

pub returns : goal.returns
returns c =
    record {
      braces = brace_moves;
      items = item_moves;
      codes = code_moves;
      catches = catch_moves;
      system = system_moves;
    }
