-- An act as an object, refused or not.
use Rattle.std.specs.Prelude.{◌≡◌, ℤ, [], ◌∷◌, Option, Some, None}
use Rattle.spec_value.specs.Datum.{invalid_argument}
use Rattle.spec_world.specs.World.{World}
use Rattle.spec_world.specs.Permissions.{act_as}
use Rattle.spec_moo.specs.Scene.{Scene, in_world}
use Rattle.spec_moo.specs.NativeEffect.{Caller, NativeEffect, refuses}
use Rattle.spec_moo.specs.Natives.Rows.{unless, wants, may_do, is_valid}
use Rattle.moo_value.specs.Errors.{code_of}
use Rattle.moo_value.specs.declared.error.MooError.{MooError}
use Rattle.builtins_view.specs.Said.{with_programmer}

abbrev pub refused : Option MooError → Scene → NativeEffect → NativeEffect
refused None s e = e
refused (Some x) s e = refuses s (code_of x)

-- by this programmer, as this object
abbrev pub IsRefusal : World → ℤ → ℤ → Option MooError → Type 0
IsRefusal w who o r =
    (s : Scene) (c : Caller) (e : NativeEffect)
    → unless (in_world s w) (wants (is_valid (in_world s w) o) invalid_argument ∷ may_do (in_world s w) (with_programmer c who) (act_as o) ∷ []) e ≡ refused r (in_world s w) e
