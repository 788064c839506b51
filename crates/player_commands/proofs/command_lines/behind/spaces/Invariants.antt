use Rattle.std.proofs.Common.{◌≡◌}
use Rattle.std.specs.Prelude.{drop}
use Rattle.spec_world.specs.Words.{without_spaces}
use Rattle.player_commands.proofs.command_lines.behind.spaces.Given as goal

abbrev pub invariant-loop-i : goal.invariant-loop-i
invariant-loop-i l = without_spaces (drop l.i l.text) ≡ without_spaces l.text
