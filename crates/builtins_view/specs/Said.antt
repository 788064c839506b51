-- What a built-in function does: in each scene, for each caller with this programmer.
use Rattle.std.specs.Prelude.{◌≡◌, ℤ}
use Rattle.spec_value.specs.Answer.{Answer}
use Rattle.spec_world.specs.World.{World}
use Rattle.spec_moo.specs.Scene.{Scene, in_world}
use Rattle.spec_moo.specs.NativeEffect.{Caller, NativeEffect, answers}

abbrev pub with_programmer : Caller → ℤ → Caller
with_programmer c who = record c { call = record (c.call) { programmer = who } }

-- from this world it leads to that one, with this answer
abbrev pub Does : (Scene → Caller → NativeEffect) → World → World → ℤ → Answer → Type 0
Does does before after who a = (s : Scene) (c : Caller) → does (in_world s before) (with_programmer c who) ≡ answers (in_world s after) a

-- it changes nothing, and answers this
abbrev pub Says : (Scene → Caller → NativeEffect) → World → ℤ → Answer → Type 0
Says does w who a = Does does w w who a
