use Rattle.std.proofs.Common.{◌≡◌}
use Rattle.std.specs.Prelude.{replicate}
use Rattle.spec_program.specs.Tree.{binary, evaluate}
use Rattle.spec_value.specs.Operators.{plus}
use Rattle.world_fixture.specs.Rooms.{one}
use Rattle.world_fixture.proofs.room_verbs.adding.Given as goal

abbrev pub invariant-loop-addition : goal.invariant-loop-addition
invariant-loop-addition l = l.statements.items ≡ replicate l._addition (evaluate (binary plus one one))
