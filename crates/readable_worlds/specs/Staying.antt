-- Worlds that are read from their texts, after lists of steps.
use Rattle.std.specs.Prelude.{List, IsTrue}
use Rattle.std.specs.List.{list_all}
use Rattle.spec_world.specs.World.{World}
use Rattle.spec_world.specs.Step.{Step, in_range}
use Rattle.spec_fixture.specs.Fixture.{fixture}
use Rattle.spec_moo.specs.Steps.{play}
use Rattle.spec_values_kept.specs.Whole.{is_within}
use Rattle.checkpoint.specs.Readable.{IsReadable}

-- within the bounds of the worlds that the server makes
abbrev pub StaysReadable : Type 0
StaysReadable =
    (w : World) (ss : List Step)
    → IsReadable w → IsTrue (is_within w) → IsTrue (list_all in_range ss) → IsReadable (play w ss).0 × IsTrue (is_within (play w ss).0)

abbrev pub FixtureStays : Type 0
FixtureStays = (ss : List Step) → IsTrue (list_all in_range ss) → IsReadable (play fixture ss).0
