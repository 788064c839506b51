-- By computation.
use Rattle.std.proofs.Common.{refl}
use Rattle.spec_checkpoint.specs.FixtureHolds.{FixtureHolds}

pub fixture_holds : FixtureHolds
fixture_holds = refl
