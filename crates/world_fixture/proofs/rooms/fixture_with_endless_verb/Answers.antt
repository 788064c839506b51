use Rattle.std.proofs.Common.{sym, subst}
use Rattle.spec_world.specs.World.{World}
use Rattle.view.specs.Sound.{IsSound}
use Rattle.world_fixture.proofs.RoomsAreSound.{endless_is_sound}
use Rattle.world_fixture.proofs.rooms.fixture_with_endless_verb.Goals as goal

pub of_draft-requires : goal.of_draft-requires
of_draft-requires c = subst (λ (w : World). IsSound w) (sym (rw (c.in_ok-verbs.ensures, c.in_ok-draft.ensures) at c.in_ok-put_room.ensures)) endless_is_sound
