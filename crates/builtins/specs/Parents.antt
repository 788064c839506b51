-- What `chparent` wants, and what it does then.
use Rattle.std.specs.Prelude.{ℤ, pos, neg_ℤ, not, ◌&&◌, ◌||◌, is_some, List, [], ◌∷◌, if◌then◌else◌}
use Rattle.std.specs.Ordering.{int_eq}
use Rattle.spec_value.specs.Datum.{permission_denied, invalid_argument, recursive_move}
use Rattle.spec_world.specs.World.{World, object_at}
use Rattle.spec_world.specs.Permissions.{may, change_object, have_child}
use Rattle.spec_world.specs.Families.{parent_of, is_below, reparented}
use Rattle.spec_moo.specs.Natives.Rows.{Check, wants}

-- but that no property clashes
abbrev pub parent_checks : World → ℤ → ℤ → ℤ → List Check
parent_checks w who o p =
    wants (is_some (object_at w o) && (int_eq p (neg_ℤ (pos 1)) || is_some (object_at w p))) invalid_argument
    ∷ wants (may w who (change_object o) && may w who (have_child p)) permission_denied
    ∷ wants (not (is_below w o p)) recursive_move
    ∷ []

-- below its present parent it stays as it is
abbrev pub adopted : World → ℤ → ℤ → World
adopted w o p = if int_eq (parent_of (object_at w o)) p then w else reparented w o p
