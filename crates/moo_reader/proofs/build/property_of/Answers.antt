use Rattle.std.proofs.Common.{◌∙◌}
use Rattle.moo_reader.specs.Views.{found_of}
use Rattle.moo_reader.proofs.Targets.{property_found}
use Rattle.moo_reader.proofs.build.property_of.Goals as goal

pub returns : goal.returns
returns c = c.as_operand.ensures ∙ property_found (found_of c.in_ok-found.found) (found_of c.args.object) (found_of c.args.name) c.in_ok-found.ensures
