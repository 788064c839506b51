-- The fixture is a sound world.
use Rattle.std.proofs.Common.{refl}
use Rattle.spec_fixture.specs.Fixture.{fixture}
use Rattle.spec_value.proofs.Entries.{each_entry}
use Rattle.spec_fixture.proofs.FixtureFits.{fixture_fits}
use Rattle.spec_holding.specs.Whole.{TextsSpell}
use Rattle.view.specs.Sound.{IsSound}

pub fixture_is_spelled : TextsSpell fixture
fixture_is_spelled = (each_entry _ fixture.objects refl, each_entry _ fixture.tasks refl)

pub fixture_is_sound : IsSound fixture
fixture_is_sound = record { well_formed = fixture_fits; spelled = fixture_is_spelled }
