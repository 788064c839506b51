use Rattle.std.proofs.Common.{w32}
use Rattle.std.proofs.lemmas.Int.{to_z-of_z}
use Rattle.spec_world.specs.VerbsSought.{find_verb}
use Rattle.rules.proofs.inherit.verb.find_verb.Goals as goal

pub returns-clause-left : goal.returns-clause-left
unfolding find_verb
returns-clause-left g c = rw (to_z-of_z w32 c.args.object c.ranges.object) at c.find.ensures.left
