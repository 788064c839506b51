-- The world that tests start with is one of values.
use Rattle.std.specs.Prelude.{IsTrue}
use Rattle.spec_fixture.specs.Fixture.{fixture}
use Rattle.spec_checkpoint.specs.Holding.{world_holds}

abbrev pub FixtureHolds : Type 0
FixtureHolds = IsTrue (world_holds fixture)
