-- Trees of texts.
use Rattle.spec_program.proofs.ParsedFits.{parsed_fits, parsed_is_tree}
use Rattle.spec_program.proofs.trees.read.Goals as goal

pub returns-clause-parsed : goal.returns-clause-parsed
returns-clause-parsed c = parsed_fits

pub returns-clause-tree : goal.returns-clause-tree
returns-clause-tree c = parsed_is_tree
