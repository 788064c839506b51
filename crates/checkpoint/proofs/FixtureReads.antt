-- By computation.
use Rattle.std.proofs.Common.{refl}
use Rattle.spec_value.proofs.Entries.{each_entry}
use Rattle.spec_fixture.specs.Fixture.{fixture}
use Rattle.spec_fixture.proofs.FixtureFits.{fixture_fits}
use Rattle.spec_checkpoint.proofs.FixtureHolds.{fixture_holds}
use Rattle.checkpoint.specs.Readable.{IsReadable}

pub fixture_reads : IsReadable fixture
fixture_reads =
    record {
      sound = record { well_formed = fixture_fits; spelled = (each_entry _ fixture.objects refl, each_entry _ fixture.tasks refl) };
      holds = fixture_holds;
      reach = refl;
    }
