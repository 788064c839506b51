use Rattle.std.proofs.Common.{◌≡◌, ◌≤◌, drop}
use Rattle.std.specs.Prelude.{option_map}
use Rattle.spec_world.specs.Naming.{number_after}
use Rattle.player_commands.specs.Numbers.{capped}
use Rattle.player_commands.proofs.object_match.number.digits.Given as goal

abbrev pub invariant-loop-byte : goal.invariant-loop-byte
invariant-loop-byte l = record {
  bound : l.number ≤ 4294967296;
  rest : option_map capped (number_after l.number (drop l.byte-index l.text)) ≡ option_map capped (number_after 0 l.text);
}
