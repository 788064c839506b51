use Rattle.std.proofs.Common.{sym, subst}
use Rattle.spec_world.specs.World.{World}
use Rattle.view.specs.Sound.{IsSound}
use Rattle.world_fixture.proofs.RoomsAreSound.{rooms_are_sound}
use Rattle.world_fixture.proofs.rooms.fixture_with_rooms.Goals as goal

pub of_draft-requires : goal.of_draft-requires
of_draft-requires c = subst (λ (w : World). IsSound w) (sym c.in_ok-draft.ensures) rooms_are_sound
