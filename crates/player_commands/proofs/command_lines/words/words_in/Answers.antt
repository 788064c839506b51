use Rattle.std.proofs.Common.{sym, ◌∙◌, ◌+◌}
use Rattle.std.specs.Prelude.{drop}
use Rattle.spec_world.specs.Words.{readings}
use Rattle.player_commands.specs.Cutting.{rest_of}
use Rattle.player_commands.proofs.Reading.{words_are, next_character, character_at}
use Rattle.player_commands.proofs.command_lines.words.words_in.Goals as goal

pub loop-i-init : goal.loop-i-init
loop-i-init c = (c.new-cutting.ensures.fits, words_are c.args.line.now ∙ sym (c.new-cutting.ensures.begins (readings c.args.line.now)))

pub read-requires-clause-character : goal.read-requires-clause-character
read-requires-clause-character c = character_at c.args.line.now c.loop-i.i c.requires c.loop-i-test.true

pub loop-i-preserved : goal.loop-i-preserved
loop-i-preserved c = (
  c.in_ok-read.ensures.fits,
  c.loop-i.invariant.1 ∙ next_character (rest_of c.loop-i.cutting) c.args.line.now c.loop-i.i c.loop-i-test.true ∙ c.in_ok-read.ensures.rest (drop (c.loop-i.i + 1) c.args.line.now),
)
