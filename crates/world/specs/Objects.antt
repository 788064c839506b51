-- Worlds with one object more.
use Rattle.std.specs.Prelude.{◌≡◌, ℤ, pos, ◌+ℤ◌, int_le, [], IsTrue}
use Rattle.spec_world.specs.World.{World, Object, with_object}
use Rattle.spec_world.specs.Families.{nowhere}
use Rattle.view.specs.Sound.{IsSound}

-- the number after the greatest
abbrev pub next_object : World → ℤ
next_object w = w.greatest +ℤ pos 1

abbrev pub with_next_object : World → Object → World
with_next_object w x = record (with_object w (next_object w) x) { greatest = next_object w }

-- an object that is nowhere, and has no parent, children, contents, properties and verbs
abbrev pub alone : Object → Object
alone x = record x { header = record (x.header) { parent = nowhere; location = nowhere }; children = []; contents = []; defines = []; slots = []; verbs = [] }

abbrev pub StandsAlone : Object → Type 0
StandsAlone x = x ≡ alone x

-- such an object comes into a sound world that has room for it, which stays sound
abbrev pub AddingKeeps : Type 0
AddingKeeps = (w : World) (x : Object) → IsSound w → IsTrue (int_le (next_object w) (pos 999999)) → StandsAlone x → IsSound (with_next_object w x)
