-- Two well-formed worlds with one text: they have a number that no value has, and of a number the last 64 digits alone are spelled.
use Rattle.std.specs.Prelude.{◌≡◌, ℕ, pos, neg_ℤ, [], ◌∷◌, Some, None, false}
use Rattle.spec_world.specs.World.{World, Link}
use Rattle.spec_world.specs.WellFormed.{IsWellFormed}
use Rattle.spec_world.specs.Checkpoint.{checkpoint_text}

-- nobody's link, on which a verb of an object with this number is programmed
abbrev pub programming_on : ℕ → Link
programming_on n = record { person = neg_ℤ (pos 4); programming = Some (record { object = pos n; verb = []; lines = None }) }

abbrev pub world_with : ℕ → World
world_with n = record { objects = []; tasks = []; links = (pos 1, programming_on n) ∷ []; greatest = neg_ℤ (pos 1); next = 1; ending = false }

-- so a world has to hold values alone: without that its text does not tell it
abbrev pub NeedsRange : Type 0
NeedsRange = ((v w : World) → IsWellFormed v → IsWellFormed w → checkpoint_text v ≡ checkpoint_text w → v ≡ w) → ⊥
