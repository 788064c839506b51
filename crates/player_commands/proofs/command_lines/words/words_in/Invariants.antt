use Rattle.std.proofs.Common.{◌≡◌}
use Rattle.std.specs.Prelude.{drop}
use Rattle.spec_world.specs.Words.{readings, words as words_of}
use Rattle.player_commands.specs.Cutting.{Fits, rest_of}
use Rattle.player_commands.proofs.command_lines.words.words_in.Given as goal

abbrev pub invariant-loop-i : goal.invariant-loop-i
invariant-loop-i l = Fits l.cutting × (words_of l.line ≡ rest_of l.cutting (readings (drop l.i l.line)))
