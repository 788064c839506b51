-- What is looked at of the programs of a world.
use Rattle.std.specs.Prelude.{◌≡◌, ℤ, Some, IsTrue}
use Rattle.spec_value.specs.Table.{at}
use Rattle.spec_world.specs.World.{World, Object, Task, object_at}
use Rattle.spec_holding.specs.Whole.{programs_spelled, frames_spelled}

-- if there is an object of that number
abbrev pub ObjectSpelledAt : World → ℤ → Type 0
ObjectSpelledAt w o = (x : Object) → object_at w o ≡ Some x → IsTrue (programs_spelled w o x)

-- if there is a task of that id
abbrev pub TaskSpelledAt : World → ℤ → Type 0
TaskSpelledAt w i = (t : Task) → at w.tasks i ≡ Some t → IsTrue (frames_spelled w i t)
