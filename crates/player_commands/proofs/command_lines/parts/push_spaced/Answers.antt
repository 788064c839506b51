use Rattle.std.proofs.Common.{◌∙◌}
use Rattle.std.specs.Prelude.{string_bytes}
use Rattle.player_commands.proofs.Fronts.{rest_on}
use Rattle.player_commands.proofs.command_lines.parts.push_spaced.Goals as goal

pub loop-word-preserved : goal.loop-word-preserved
loop-word-preserved c = (
  c.in_ok-push_behind_space.ensures.allowed,
  c.loop-word.invariant.1
      ∙ rest_on (string_bytes c.loop-word.text) (string_bytes c.push_behind_space.new.text) c.word-item.result c.args.words.now c.loop-word.word-index c.loop-word-test.true c.word-item.is c.in_ok-push_behind_space.ensures.pushed,
)
