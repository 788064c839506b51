-- What is under way, of which each verb stands at a call.
use Rattle.std.specs.Prelude.{List, [], ◌∷◌}
use Rattle.moo_code.specs.Machine.{Outer, verb, native}
use Rattle.tree_parts.specs.Arriving.{StandsThere}

abbrev pub OuterStands : Outer → Type 0
OuterStands (verb k) = StandsThere k
OuterStands (native n) = Unit {0}

abbrev pub AllStand : List Outer → Type 0
AllStand [] = Unit {0}
AllStand (k ∷ ks) = OuterStands k × AllStand ks
