-- What comes of a `.program` line.
use Rattle.std.specs.Prelude.{ℕ, ℤ, List, Option, Some, None, codes}
use Rattle.spec_value.specs.Datum.{Text}
use Rattle.spec_world.specs.World.{World, Verb}
use Rattle.spec_moo.specs.Scene.{Scene}
use Rattle.spec_moo.specs.Natives.Verbs.{place_of_word}
use Rattle.spec_world.specs.Outcome.{Outcome}
use Rattle.spec_moo.specs.Steps.Programming.{says, begins, not_allowed}
use Rattle.player_commands.specs.declared.command_parser.programming.Opening.{Opening}
use Rattle.player_commands.specs.declared.command_parser.programming.Opening.TheVariants.{OtherForm, NotSeen, NotAllowed, Collects}

-- what the player is told, and what the link keeps
abbrev pub opened : Scene → ℤ → ℤ → Opening → World × Outcome
opened s c who OtherForm = says s c (codes "Usage: .program object:verb")
opened s c who NotSeen = says s c (codes "I don't see that here.")
opened s c who NotAllowed = says s c not_allowed
opened s c who (Collects o v n) = begins s c who o v (Some n)

-- lines are collected where there is a verb that may be programmed
abbrev pub begun : ℤ → Text → Option ℕ → Opening
begun o v None = NotAllowed
begun o v (Some n) = Collects o v n

abbrev pub place_among : Option (List Verb) → Text → Option ℕ
place_among None word = None
place_among (Some vs) word = place_of_word word vs
