use Rattle.std.proofs.Common.{◌∙◌}
use Rattle.moo_reader.specs.Views.{found_of}
use Rattle.moo_reader.proofs.Targets.{variable_is_target}
use Rattle.moo_reader.proofs.start.variable.Goals as goal

pub returns : goal.returns
returns c = c.as_operand.ensures ∙ variable_is_target (found_of c.in_ok-found.found) c.args.line _ c.in_ok-found.ensures
