-- For proofs that compute: to unfold `opened` is to unfold each definition that a run goes through.
use Rattle.std.specs.Fmt.{digits}
use Rattle.std.specs.Int.{int_wrap}
use Rattle.spec_value.specs.Datum.{same}
use Rattle.spec_world.specs.Inherit.{line, ancestors, first_value, property_value, with_slot}
use Rattle.spec_world.specs.WellFormed.{once, comes_out, defined_on, names_once, links_read}
use Rattle.spec_program.specs.Tokens.{looked_up, tokens_from}
use Rattle.spec_program.specs.ReadExpressions.{some_arguments, steps, items_from, operators, expression}
use Rattle.spec_program.specs.ReadPrograms.{branches, arms, block, parsed}
use Rattle.spec_world.specs.Permissions.{may}
use Rattle.spec_world.specs.VerbNames.{spells, names_in}
use Rattle.spec_world.specs.Words.{words, without_spaces, after_first, expanded}
use Rattle.spec_world.specs.Prepositions.{find_preposition}
use Rattle.spec_world.specs.Naming.{name_object}
use Rattle.spec_world.specs.VerbsSought.{first_on, find_verb, find_command_verb}
use Rattle.spec_world.specs.Families.{created, reparented, clashes, recycled}
use Rattle.spec_world.specs.Whereabouts.{in_within, moved}
use Rattle.spec_world.specs.Members.{property_added, property_deleted, verb_added, verb_deleted, verb_changed}
use Rattle.spec_world.specs.Links.{close_link}
use Rattle.spec_world.specs.CommandLines.{line_parts, command_said}

unfoldable pub opened : Unit {0}
unfolding digits int_wrap same line ancestors first_value property_value with_slot looked_up tokens_from some_arguments steps items_from operators expression branches arms block parsed may spells names_in words without_spaces after_first expanded find_preposition name_object first_on find_verb find_command_verb line_parts command_said created reparented clashes recycled in_within moved property_added property_deleted verb_added verb_deleted verb_changed close_link once comes_out defined_on names_once links_read
opened = tt
