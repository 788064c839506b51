-- For proofs that compute: to unfold `opened` is to unfold each definition that a segment goes through.
use Rattle.std.specs.Fmt.{digits}
use Rattle.std.specs.Int.{int_wrap}
use Rattle.rand_core.specs.Steps.{u32_at}
use Rattle.rand_chacha.specs.Block.{block_word, quarter_round, column_round, diagonal_round, double_rounds}
use Rattle.spec_value.specs.Datum.{same}
use Rattle.spec_world.specs.Inherit.{line, ancestors, first_value, property_value, with_slot}
use Rattle.spec_world.specs.WellFormed.{defined_on}
use Rattle.spec_program.specs.Tokens.{looked_up, tokens_from}
use Rattle.spec_program.specs.ReadExpressions.{some_arguments, steps, items_from, operators, expression}
use Rattle.spec_program.specs.ReadPrograms.{branches, arms, block, parsed}
use Rattle.spec_world.specs.Permissions.{may}
use Rattle.spec_world.specs.VerbNames.{spells, names_in}
use Rattle.spec_world.specs.VerbsSought.{first_on, find_verb}
use Rattle.spec_world.specs.Words.{words, without_spaces, after_first, expanded}
use Rattle.spec_world.specs.Prepositions.{find_preposition}
use Rattle.spec_world.specs.Naming.{name_object}
use Rattle.spec_world.specs.VerbsSought.{find_command_verb}
use Rattle.spec_world.specs.CommandLines.{line_parts, command_said}
use Rattle.spec_world.specs.Families.{created, reparented, clashes, recycled}
use Rattle.spec_world.specs.Whereabouts.{in_within, moved}
use Rattle.spec_world.specs.Members.{property_added, property_deleted, verb_added, verb_deleted, verb_changed}
use Rattle.spec_world.specs.Links.{close_link}
use Rattle.spec_world.specs.Checkpoint.{checkpoint_text}
use Rattle.spec_moo.specs.Properties.{row_of, read, write}
use Rattle.spec_moo.specs.Natives.{native, native_turn}
use Rattle.spec_moo.specs.Tables.{effect}
use Rattle.spec_moo.specs.Turn.{native_effected, effected, turn_on, turn}
use Rattle.spec_moo.specs.Sizes.{rest_size, size, stages}
use Rattle.spec_moo.specs.Segment.{settle, through, segment, after}
use Rattle.spec_moo.specs.Steps.{play1, play}

unfoldable pub opened : Unit {0}
unfolding digits int_wrap u32_at block_word quarter_round column_round diagonal_round double_rounds same line ancestors first_value property_value with_slot defined_on looked_up tokens_from some_arguments steps items_from operators expression branches arms block parsed words without_spaces after_first expanded find_preposition name_object find_command_verb line_parts command_said may spells names_in first_on find_verb created reparented clashes recycled in_within moved property_added property_deleted verb_added verb_deleted verb_changed close_link checkpoint_text row_of read write native native_turn effect native_effected effected turn_on turn rest_size size stages settle through segment after play1 play
opened = tt
