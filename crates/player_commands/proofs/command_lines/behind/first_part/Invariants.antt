use Rattle.std.proofs.Common.{◌≡◌}
use Rattle.std.specs.Prelude.{drop}
use Rattle.spec_world.specs.Words.{remainders, after_first}
use Rattle.player_commands.specs.Behind.{left}
use Rattle.player_commands.proofs.command_lines.behind.first_part.Given as goal

abbrev pub invariant-loop-i : goal.invariant-loop-i
invariant-loop-i l = after_first l.line ≡ left l.standing (remainders (drop l.i l.line))
