-- An object that becomes a player, or is none any more.
use Rattle.std.specs.Prelude.{ℤ, Bool, is_some, List, [], ◌∷◌, if◌then◌else◌}
use Rattle.spec_value.specs.Datum.{permission_denied, invalid_argument}
use Rattle.spec_world.specs.World.{World, object_at}
use Rattle.spec_world.specs.Permissions.{may, administer}
use Rattle.spec_moo.specs.Scene.{Scene}
use Rattle.spec_moo.specs.Linking.{link_closed}
use Rattle.spec_moo.specs.Natives.Objects.{with_flag}
use Rattle.spec_moo.specs.Natives.Rows.{Check, wants}

abbrev pub flag_checks : World → ℤ → ℤ → List Check
flag_checks w who o = wants (is_some (object_at w o)) invalid_argument ∷ wants (may w who administer) permission_denied ∷ []

-- the link of one that is none any more is closed
abbrev pub flagged : Scene → ℤ → Bool → Scene
flagged s o flag = if flag then with_flag s o flag else with_flag (link_closed s o) o flag
