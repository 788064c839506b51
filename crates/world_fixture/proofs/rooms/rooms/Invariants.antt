use Rattle.std.proofs.Common.{◌≡◌}
use Rattle.spec_fixture.specs.Fixture.{fixture}
use Rattle.world_fixture.specs.Rooms.{with_rooms}
use Rattle.world_fixture.proofs.rooms.rooms.Given as goal

abbrev pub invariant-loop-place : goal.invariant-loop-place
invariant-loop-place l = l.draft ≡ with_rooms l.place fixture
