-- By computation.
use Rattle.std.proofs.Common.{◌<◌, ◌^◌, length, refl, ltb-true}
use Rattle.std.specs.Fmt.{digits}
use Rattle.spec_fixture.specs.Fixture.{fixture}
use Rattle.spec_fixture.proofs.FixtureFits.{fixture_fits}
use Rattle.spec_world.specs.Inherit.{ancestors, line}
use Rattle.spec_world.specs.Checkpoint.{checkpoint_text}
use Rattle.spec_checkpoint.proofs.FixtureHolds.{fixture_holds}
use Rattle.spec_faults.specs.TextLaws.{FixtureIsTold}

room : length (checkpoint_text fixture) < 2 ^ 63
unfolding digits checkpoint_text line ancestors
room = ltb-true (length (checkpoint_text fixture)) (2 ^ 63) refl

pub fixture_is_told : FixtureIsTold
fixture_is_told = record { well_formed = fixture_fits; holds = fixture_holds; reach = refl; room = room }
