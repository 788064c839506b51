-- Verbs are read in one way from their lines.
use Rattle.std.specs.Prelude.{◌≡◌, List, IsTrue}
use Rattle.std.specs.List.{list_all}
use Rattle.spec_world.specs.World.{Verb}
use Rattle.spec_world.specs.Checkpoint.{verb_lines}
use Rattle.spec_checkpoint.specs.Holding.{verb_holds}

abbrev pub VerbsReadOnce : Type 0
VerbsReadOnce = (vs us : List Verb) → IsTrue (list_all verb_holds vs) → IsTrue (list_all verb_holds us) → verb_lines vs ≡ verb_lines us → vs ≡ us
