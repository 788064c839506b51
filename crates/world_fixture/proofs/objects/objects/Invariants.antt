use Rattle.std.proofs.Common.{◌≡◌}
use Rattle.spec_fixture.specs.Fixture.{fixture}
use Rattle.world_fixture.specs.Objects.{with_objects}
use Rattle.world_fixture.proofs.objects.objects.Given as goal

abbrev pub invariant-loop-place : goal.invariant-loop-place
invariant-loop-place l = l.draft ≡ with_objects l.place fixture
