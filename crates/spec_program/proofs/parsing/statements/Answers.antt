use Rattle.spec_program.proofs.AlikePrograms.{enough_for_block, block_leaves, enough_for_branches, enough_for_arms, statement_parts_consume, enough_for_text}
use Rattle.spec_program.proofs.parsing.statements.Goals as goal

pub returns : goal.returns
returns c =
    record {
      block = enough_for_block;
      left = block_leaves;
      branches = enough_for_branches;
      arms = enough_for_arms;
      parts = statement_parts_consume;
      text = enough_for_text;
    }
