-- A new child.
use Rattle.std.specs.Prelude.{◌≡◌, ℤ, pos, ◌+ℤ◌, int_le, List, [], ◌∷◌, ◌++◌, true, false, Option, Some, None, codes}
use Rattle.spec_value.specs.Datum.{Text, Datum, object, no_data, fold_case}
use Rattle.spec_value.specs.Table.{Named, with_name}
use Rattle.spec_world.specs.World.{World, Header, Object, Slot, create_native}
use Rattle.spec_world.specs.Families.{nowhere, heir_slot}
use Rattle.spec_moo.specs.Scene.{Scene}
use Rattle.spec_moo.specs.NativeEffect.{Caller, NativeEffect}
use Rattle.spec_moo.specs.Natives.Rows.{answers_with}
use Rattle.spec_moo.specs.Natives.Objects.{stage, calls_if_there}

abbrev pub child_header : ℤ → ℤ → Header
child_header parent owner =
    record {
      name = [];
      owner = owner;
      parent = parent;
      location = nowhere;
      is_player = false;
      is_programmer = false;
      is_wizard = false;
      readable = false;
      writable = false;
      fertile = false;
    }

abbrev pub child_with : ℤ → ℤ → Named Slot → Object
child_with parent owner slots =
    record { header = child_header parent owner; children = []; contents = []; defines = []; slots = slots; verbs = [] }

-- heirs of these slots, put one after the other
abbrev pub put_heirs : ℤ → List (Text × Slot) → Named Slot → Named Slot
put_heirs owner [] ss = ss
put_heirs owner (e ∷ es) ss = put_heirs owner es (with_name ss (fold_case e.0) (heir_slot owner e.1))

-- the number behind the greatest, or there is none
abbrev pub IsAfter : ℤ → Option ℤ → Type 0
IsAfter greatest None = int_le (greatest +ℤ pos 1) (pos 999999) ≡ false
IsAfter greatest (Some n) = (greatest +ℤ pos 1 ≡ n) × (int_le n (pos 999999) ≡ true)

abbrev pub IsNext : World → Option ℤ → Type 0
IsNext w n = IsAfter w.greatest n

-- its verb is called, or it is the value
abbrev pub initialized : Scene → Caller → ℤ → List Datum → NativeEffect
initialized s c o args = calls_if_there s c (stage create_native (args ++ object o ∷ [])) o (codes "initialize") no_data (answers_with s (object o))
