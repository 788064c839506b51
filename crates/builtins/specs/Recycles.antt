-- What `recycle` wants, and what it does then.
use Rattle.std.specs.Prelude.{ℤ, is_some, List, [], ◌∷◌, codes}
use Rattle.spec_value.specs.Datum.{object, no_data, permission_denied, invalid_argument}
use Rattle.spec_world.specs.World.{World, recycle_native, object_at}
use Rattle.spec_world.specs.Permissions.{may, change_object}
use Rattle.spec_moo.specs.Scene.{Scene}
use Rattle.spec_moo.specs.NativeEffect.{Caller, NativeEffect}
use Rattle.spec_moo.specs.Natives.Rows.{Check, wants, answers_with, zero_value}
use Rattle.spec_moo.specs.Natives.Objects.{stage, calls_if_there, recycle_now}

abbrev pub recycle_checks : World → ℤ → ℤ → List Check
recycle_checks w who o = wants (is_some (object_at w o)) invalid_argument ∷ wants (may w who (change_object o)) permission_denied ∷ []

-- its verb is called, or it goes at once
abbrev pub recycle_told : Scene → Caller → ℤ → NativeEffect
recycle_told s c o = calls_if_there s c (stage recycle_native (object o ∷ [])) o (codes "recycle") no_data (answers_with (recycle_now s o) zero_value)
