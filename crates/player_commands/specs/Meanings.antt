-- What the records of this crate mean.
use Rattle.std.specs.Prelude.{ℤ, Option, option_map}
use Rattle.spec_value.specs.Datum.{Text}
use Rattle.spec_world.specs.World.{World, object_at}
use Rattle.spec_world.specs.Naming.{location_of}
use Rattle.spec_world.specs.VerbsSought.{Sought, Named}
use Rattle.spec_world.specs.CommandLines as line
use Rattle.spec_world.specs.CommandLines.{nothing_said, programming, calls_verb, calls_huh, not_understood}
use Rattle.spec_world.specs.CommandLines.{program_verb, other_form, meant_on, or_then}
use Rattle.player_commands.specs.CommandLinesMeant.{parts_of}
use Rattle.player_commands.specs.declared.command_parser.command.Command.{Command}
use Rattle.player_commands.specs.declared.command_parser.command.Command.TheVariants.{Empty, Program, Verb, Huh, Unknown}
use Rattle.player_commands.specs.declared.command_parser.command.Said.{Said}
use Rattle.player_commands.specs.declared.command_parser.command.Meant.{Meant}
use Rattle.player_commands.specs.declared.command_parser.request.Request.{Request}
use Rattle.player_commands.specs.declared.command_parser.request.Request.TheVariants.{Verb as VerbOf, OtherForm}

abbrev pub named_of : Said → Named
named_of s = record { direct = s.direct; preposition = (s.parts).preposition; indirect = s.indirect }

abbrev pub meant_of : Meant → line.Meant
meant_of m = record { this = m.this; sought = m.verb }

abbrev pub request_of : Request → line.Request
request_of (VerbOf t v) = program_verb t v
request_of OtherForm = other_form

abbrev pub command_of : Command → line.Command
command_of Empty = nothing_said
command_of (Program r) = programming (request_of r)
command_of (Verb s m) = calls_verb (parts_of s.parts) (named_of s) (meant_of m)
command_of (Huh s f) = calls_huh (parts_of s.parts) (named_of s) f
command_of Unknown = not_understood

-- ---- where a verb is sought

-- what was found where an object was searched
abbrev pub on_object : ℤ → Option Sought → Option line.Meant
on_object o f = option_map (λ s. record { this = o; sought = s }) f

abbrev pub meant_by_objects : World → Text → Named → Option line.Meant
meant_by_objects w word n = or_then (meant_on w word n n.direct) (meant_on w word n n.indirect)

abbrev pub meant_in_room : World → ℤ → Text → Named → Option line.Meant
meant_in_room w player word n = or_then (meant_on w word n (location_of (object_at w player))) (meant_by_objects w word n)
