-- A verb with another program.
use Rattle.spec_program.specs.Tree.{Program}
use Rattle.spec_world.specs.World.{Verb}

abbrev pub with_program : Program → Verb → Verb
with_program p v = record v { program = p }
