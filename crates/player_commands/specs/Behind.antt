-- What of a line is left behind its first word, as it stands where the word is read.
use Rattle.std.specs.Prelude.{Bool, true, false}
use Rattle.spec_value.specs.Datum.{Text}
use Rattle.spec_world.specs.Words.{Remainders}
use Rattle.player_commands.specs.declared.command_lines.cutting.Place.{Place}
use Rattle.player_commands.specs.declared.command_lines.cutting.Place.TheVariants.{Between, Bare, Quoted}
use Rattle.player_commands.specs.declared.command_lines.behind.Standing.{Standing}

abbrev pub left_at : Place → Bool → Remainders → Text
left_at Between false r = r.before
left_at Between true r = r.bare_escaped
left_at Bare false r = r.bare
left_at Bare true r = r.bare_escaped
left_at Quoted false r = r.quoted
left_at Quoted true r = r.quoted_escaped

abbrev pub left : Standing → Remainders → Text
left s r = left_at s.place s.escaped r
