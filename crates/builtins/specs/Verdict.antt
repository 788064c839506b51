-- The first of several checks that fails.
use Rattle.std.specs.Prelude.{List, [], ◌∷◌, if◌then◌else◌, Option, Some, None}
use Rattle.spec_value.specs.Datum.{ErrorCode}
use Rattle.spec_moo.specs.Scene.{Scene}
use Rattle.spec_moo.specs.NativeEffect.{NativeEffect, refuses}
use Rattle.spec_moo.specs.Natives.Rows.{Check}

abbrev pub verdict : List Check → Option ErrorCode
verdict [] = None
verdict (k ∷ ks) = if k.holds then verdict ks else Some k.otherwise

abbrev pub by_verdict : Scene → Option ErrorCode → NativeEffect → NativeEffect
by_verdict s None e = e
by_verdict s (Some x) e = refuses s x
