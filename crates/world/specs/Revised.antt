-- Records of which one was changed where it lies.
use Rattle.std.specs.Prelude.{◌≡◌, ℤ, Option, Some, option_map}
use Rattle.spec_value.specs.Datum.{Datum, Text, fold_case}
use Rattle.spec_value.specs.Table.{Numbered, at, with, named, with_name}
use Rattle.spec_world.specs.World.{Object, Slot}

pub record RevisesRecord {X : Type 0} (Makes : X → X → Type 0) (number : ℤ) (old new : Numbered X) : Type 0 where
  pub before : X
  pub after : X
  pub found : at old number ≡ Some before
  pub made : Makes before after
  pub records : new ≡ with old number after

-- a slot with another value
abbrev pub with_content : Datum → Slot → Slot
with_content v s = record s { content = Some v }

-- an object with another value in a slot, where it has that slot
abbrev pub revalued : Object → Text → Datum → Option Object
revalued x p v = option_map (λ s. record x { slots = with_name x.slots (fold_case p) (record s { content = Some v }) }) (named x.slots (fold_case p))
