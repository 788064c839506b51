-- What is left of a call when its first checks have passed, and who calls.
use Rattle.std.specs.Prelude.{◌≡◌, ℕ, ℤ}
use Rattle.spec_value.specs.Answer.{Answer}
use Rattle.spec_program.specs.ReadPrograms.{Parsed}
use Rattle.spec_world.specs.World.{World, Call}
use Rattle.spec_moo.specs.Scene.{Scene, in_world}
use Rattle.spec_moo.specs.NativeEffect.{Caller, answers}
use Rattle.spec_moo.specs.Natives.Verbs.{programmed}

abbrev pub with_call : Caller → Call → Caller
with_call c d = record c { call = d }

-- from this world what comes of a text, given to a verb, leads to that one
abbrev pub Programs : ℤ → ℕ → Parsed → World → World → Answer → Type 0
Programs o n p before after a = (s : Scene) → programmed (in_world s before) o n p ≡ answers (in_world s after) a
