use Rattle.std.proofs.Common.{w32}
use Rattle.std.proofs.lemmas.Int.{to_z-of_z}
use Rattle.spec_world.specs.VerbsSought.{find_command_verb}
use Rattle.rules.proofs.inherit.verb.find_command_verb.Goals as goal

pub returns-clause-left : goal.returns-clause-left
unfolding find_command_verb
returns-clause-left g c = rw (to_z-of_z w32 c.args.object c.ranges.object) at c.find.ensures.left
