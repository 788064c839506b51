-- A line by its parts and by the objects that they name.
use Rattle.std.proofs.Common.{◌≡◌, ℤ, Bool, false, Option, Some, None, ap, ◌∙◌, if◌then◌else◌}
use Rattle.spec_value.specs.Datum.{Text}
use Rattle.spec_world.specs.World.{World}
use Rattle.spec_world.specs.Naming.{name_object}
use Rattle.spec_world.specs.VerbsSought.{Named}
use Rattle.spec_world.specs.CommandLines.{Parts, Command, nothing_said, programming, line_parts, command_said, command_or_program, command_of, named_by, asks_to_program, request_of}

pub said_is : (w : World) (player : ℤ) (line : Text) (p : Option Parts) (c : Command) → line_parts line ≡ p → command_or_program w player p ≡ c → command_said w player line ≡ c
unfolding command_said
said_is w player line p c is so = ap (command_or_program w player) is ∙ so

pub nothing_is : (w : World) (player : ℤ) (line : Text) → line_parts line ≡ None → command_said w player line ≡ nothing_said
unfolding command_said
nothing_is w player line is = ap (command_or_program w player) is

by_test : World → ℤ → Parts → Bool → Command
by_test w player p b = if b then programming (request_of p.args) else command_of w player p (named_by w player p)

pub commands : (w : World) (player : ℤ) (p : Parts) (n : Named) (c : Command) → asks_to_program w player p ≡ false → named_by w player p ≡ n → command_of w player p n ≡ c → command_or_program w player (Some p) ≡ c
unfolding by_test
commands w player p n c other named is = ap (by_test w player p) other ∙ ap (command_of w player p) named ∙ is

pub both_named : (w : World) (player d i : ℤ) (p : Parts) → name_object w player p.dobjstr ≡ d → name_object w player p.iobjstr ≡ i → named_by w player p ≡ record { direct = d; preposition = p.preposition; indirect = i }
both_named w player d i p e f = λ j. record { direct = e j; preposition = p.preposition; indirect = f j }
