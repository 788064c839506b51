-- What `move` wants.
use Rattle.std.specs.Prelude.{◌≡◌, ℤ, pos, neg_ℤ, Bool, not, false, ◌&&◌, ◌||◌, is_some, IsTrue, List, [], ◌∷◌, Option, Some, None}
use Rattle.std.specs.Ordering.{int_eq}
use Rattle.spec_value.specs.Datum.{permission_denied, invalid_argument, recursive_move}
use Rattle.spec_world.specs.World.{World, Header, object_at}
use Rattle.spec_world.specs.Permissions.{may, change_object}
use Rattle.spec_world.specs.ObjectLaws.{IsPlace}
use Rattle.spec_world.specs.Whereabouts.{is_inside}
use Rattle.spec_moo.specs.Natives.Rows.{Check, wants}

abbrev pub are_there : World → ℤ → ℤ → Check
are_there w what place = wants (is_some (object_at w what) && (int_eq place (neg_ℤ (pos 1)) || is_some (object_at w place))) invalid_argument

abbrev pub is_outside : World → ℤ → ℤ → Check
is_outside w what place = wants (not (is_inside w what place)) recursive_move

-- before the place is asked
abbrev pub first_checks : World → ℤ → ℤ → ℤ → List Check
first_checks w who what place = are_there w what place ∷ wants (may w who (change_object what)) permission_denied ∷ is_outside w what place ∷ []

-- and after it has answered
abbrev pub later_checks : World → ℤ → ℤ → List Check
later_checks w what place = are_there w what place ∷ is_outside w what place ∷ []

-- what an object and its next place are when it moves
pub record MayMove (w : World) (what place : ℤ) : Type 0 where
  pub there : IsTrue (is_some (object_at w what))
  pub at_place : IsPlace w place
  pub outside : is_inside w what place ≡ false

-- whether what has this header is in a place
abbrev pub is_in : Option Header → ℤ → Bool
is_in None place = false
is_in (Some h) place = int_eq h.location place
