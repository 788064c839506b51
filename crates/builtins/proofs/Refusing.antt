-- Why an object may not move, check by check.
use Rattle.std.proofs.Common.{◌≡◌, ℤ, Bool, true, false, not, ◌&&◌, ◌||◌, [], ◌∷◌, List, Some, None, is_some}
use Rattle.std.specs.Ordering.{int_eq}
use Rattle.spec_value.specs.Datum.{permission_denied, invalid_argument, recursive_move}
use Rattle.spec_world.specs.World.{World, object_at}
use Rattle.spec_world.specs.Families.{nowhere}
use Rattle.spec_world.specs.Permissions.{may, change_object}
use Rattle.spec_world.specs.Whereabouts.{is_inside}
use Rattle.spec_moo.specs.Natives.Rows.{Check, wants}
use Rattle.view.specs.Law.{Tells}
use Rattle.builtins.specs.Verdict.{verdict}
use Rattle.builtins.proofs.BuiltinsObjectsChains.{turned_told, check_fails, check_passes, last_passes}
use Rattle.builtins.specs.Moves.{is_outside, first_checks, later_checks}

abbrev pub are_there : ℤ → ℤ → World → Bool
are_there what place w = is_some (object_at w what) && (int_eq place nowhere || is_some (object_at w place))

abbrev pub allowed : ℤ → ℤ → World → Bool
allowed who what w = may w who (change_object what)

abbrev outside : ℤ → ℤ → World → Bool
outside what place w = not (is_inside w what place)

abbrev behind : ℤ → ℤ → ℤ → World → List Check
behind who what place w = wants (allowed who what w) permission_denied ∷ is_outside w what place ∷ []

-- before the place is asked
module _ {V : Type 0} (holds : V → World → Type 0) (now : V → World → World) (who what place : ℤ) where
  pub first_absent : (a b : V) → Tells holds now a b (λ w. are_there what place w ≡ false) → Tells holds now a b (λ w. verdict (first_checks w who what place) ≡ Some invalid_argument)
  first_absent a b told = check_fails holds now a b (are_there what place) invalid_argument (behind who what place) told

  pub first_denied : (a b c : V) → Tells holds now a b (λ w. are_there what place w ≡ true) → Tells holds now b c (λ w. allowed who what w ≡ false)
      → Tells holds now a c (λ w. verdict (first_checks w who what place) ≡ Some permission_denied)
  first_denied a b c there told =
      check_passes holds now a b c (are_there what place) invalid_argument (behind who what place) (Some permission_denied) there (check_fails holds now b c (allowed who what) permission_denied (λ w. is_outside w what place ∷ []) told)

  pub first_inside : (a b c d : V) → Tells holds now a b (λ w. are_there what place w ≡ true) → Tells holds now b c (λ w. allowed who what w ≡ true) → Tells holds now c d (λ w. is_inside w what place ≡ true)
      → Tells holds now a d (λ w. verdict (first_checks w who what place) ≡ Some recursive_move)
  first_inside a b c d there told inside =
      check_passes holds now a b d (are_there what place) invalid_argument (behind who what place) (Some recursive_move) there
      (check_passes holds now b c d (allowed who what) permission_denied (λ w. is_outside w what place ∷ []) (Some recursive_move) told
      (check_fails holds now c d (outside what place) recursive_move (λ w. []) (turned_told holds now c d (λ w. is_inside w what place) true inside)))

  pub first_right : (a b c d : V) → Tells holds now a b (λ w. are_there what place w ≡ true) → Tells holds now b c (λ w. allowed who what w ≡ true) → Tells holds now c d (λ w. is_inside w what place ≡ false)
      → Tells holds now a d (λ w. verdict (first_checks w who what place) ≡ None)
  first_right a b c d there told inside =
      check_passes holds now a b d (are_there what place) invalid_argument (behind who what place) None there
      (check_passes holds now b c d (allowed who what) permission_denied (λ w. is_outside w what place ∷ []) None told
      (last_passes holds now c d (outside what place) recursive_move (turned_told holds now c d (λ w. is_inside w what place) false inside)))

-- and after it has answered
module _ {V : Type 0} (holds : V → World → Type 0) (now : V → World → World) (what place : ℤ) where
  pub later_absent : (a b : V) → Tells holds now a b (λ w. are_there what place w ≡ false) → Tells holds now a b (λ w. verdict (later_checks w what place) ≡ Some invalid_argument)
  later_absent a b told = check_fails holds now a b (are_there what place) invalid_argument (λ w. is_outside w what place ∷ []) told

  pub later_inside : (a b c : V) → Tells holds now a b (λ w. are_there what place w ≡ true) → Tells holds now b c (λ w. is_inside w what place ≡ true)
      → Tells holds now a c (λ w. verdict (later_checks w what place) ≡ Some recursive_move)
  later_inside a b c there inside =
      check_passes holds now a b c (are_there what place) invalid_argument (λ w. is_outside w what place ∷ []) (Some recursive_move) there
      (check_fails holds now b c (outside what place) recursive_move (λ w. []) (turned_told holds now b c (λ w. is_inside w what place) true inside))

  pub later_right : (a b c : V) → Tells holds now a b (λ w. are_there what place w ≡ true) → Tells holds now b c (λ w. is_inside w what place ≡ false)
      → Tells holds now a c (λ w. verdict (later_checks w what place) ≡ None)
  later_right a b c there inside =
      check_passes holds now a b c (are_there what place) invalid_argument (λ w. is_outside w what place ∷ []) None there
      (last_passes holds now b c (outside what place) recursive_move (turned_told holds now b c (λ w. is_inside w what place) false inside))
