-- Whether an assignment is read behind an operand.
use Rattle.std.specs.Prelude.{ℕ, Bool, ◌&&◌, List}
use Rattle.spec_program.specs.Tokens.{Placed, assign}
use Rattle.spec_program.specs.Moves.{begins_with}
use Rattle.spec_reader.specs.Behind.{is_any_level}

abbrev pub is_assigned : ℕ → List Placed → Bool
is_assigned k ts = is_any_level k && begins_with assign ts
