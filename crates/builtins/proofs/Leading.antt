-- Calls whose checks have passed, and what is left of them.
use Rattle.std.proofs.Common.{◌≡◌, ℤ, Bool, true, false, not, ◌&&◌, ◌||◌, [], ◌∷◌, None, refl, sym, ap, ◌∙◌, subst, is_some}
use Rattle.std.specs.Ordering.{int_eq}
use Rattle.spec_value.specs.Datum.{permission_denied, invalid_argument, recursive_move}
use Rattle.spec_world.specs.World.{World, Call, object_at}
use Rattle.spec_world.specs.Families.{nowhere}
use Rattle.spec_world.specs.Permissions.{may, change_object}
use Rattle.spec_world.specs.Whereabouts.{is_inside}
use Rattle.spec_moo.specs.Scene.{Scene, in_world}
use Rattle.spec_moo.specs.NativeEffect as N
use Rattle.spec_moo.specs.Natives.Rows.{wants}
use Rattle.moo_task.specs.Effects.{effect_of}
use Rattle.moo_task.specs.declared.effect.NativeEffect.{NativeEffect}
use Rattle.view.specs.Law.{Goes, Tells}
use Rattle.builtins.specs.Verdict.{verdict}
use Rattle.builtins.proofs.BuiltinsObjectsRowsKeep.{place_of}
use Rattle.builtins.specs.Led.{with_call, Leads}
use Rattle.builtins.specs.Moves.{first_checks, later_checks, MayMove}

module _ {V : Type 0} (holds : V → World → Type 0) (now : V → World → World) (k : Call) where
  -- a call tells that what is left is all
  pub then_leads : (a b c : V) (P : World → Type 0) (rest row : Scene → N.Caller → N.NativeEffect) (e : NativeEffect) → Tells holds now a b P
      → Goes holds now b c (λ before after. Leads rest before after k e) → ((s : Scene) (x : N.Caller) → P s.world → row s (with_call x k) ≡ rest s (with_call x k))
      → Goes holds now a c (λ before after. Leads row before after k e)
  then_leads a b c P rest row e first second so w left =
      let t = second w left in
      let u = first w t.0 in
      (u.0, λ s x. so (in_world s (now a w)) x u.1.1 ∙ subst (λ v. rest (in_world s v) (with_call x k) ≡ effect_of e (in_world s (now c w))) u.1.0 (t.1 s x))

  -- a call tells that this is all
  pub ends_led : (a b : V) (P : World → Type 0) (row : Scene → N.Caller → N.NativeEffect) (e : NativeEffect) → Tells holds now a b P
      → ((s : Scene) (x : N.Caller) → P s.world → row s (with_call x k) ≡ effect_of e s) → Goes holds now a b (λ before after. Leads row before after k e)
  ends_led a b P row e told so w left =
      let t = told w left in
      (t.0, λ s x. so (in_world s (now a w)) x t.1.1 ∙ ap (λ v. effect_of e (in_world s v)) (sym t.1.0))

-- what a call tells, of the worlds that are left
pub told_then : {V : Type 0} (holds : V → World → Type 0) (now : V → World → World) (a b : V) (P : World → Type 0) → Tells holds now a b P → (w : World) → holds b w → P (now b w)
told_then holds now a b P told w left = let t = told w left in subst P (sym t.1.0) t.1.1

-- and what is known of them besides
pub told_beside : {V : Type 0} (holds : V → World → Type 0) (now : V → World → World) (a b : V) (P Q : World → Type 0) → ((w : World) → holds a w → P (now a w)) → Tells holds now a b Q
    → Tells holds now a b (λ w. P w × Q w)
told_beside holds now a b P Q each told w left = let t = told w left in (t.0, (t.1.0, (each w t.0, t.1.1)))

-- ---- where no check fails

may_when : (w : World) (what place : ℤ) (a b : Bool) → (is_some (object_at w what) && (int_eq place nowhere || is_some (object_at w place))) ≡ a → is_inside w what place ≡ b → a ≡ true → b ≡ false → MayMove w what place
may_when w what place a b there inside so none =
    record { there = first (is_some (object_at w what)) _ (there ∙ so); at_place = place_of w place (second (is_some (object_at w what)) _ (there ∙ so)); outside = inside ∙ none }
  where
    first : (p q : Bool) → (p && q) ≡ true → p ≡ true
    first true q h = refl
    first false q h = h

    second : (p q : Bool) → (p && q) ≡ true → q ≡ true
    second true q h = h
    second false q h = cc

pub first_passed : (w : World) (who what place : ℤ) → verdict (first_checks w who what place) ≡ None → MayMove w what place
first_passed w who what place = go (is_some (object_at w what) && (int_eq place nowhere || is_some (object_at w place))) (may w who (change_object what)) (is_inside w what place) refl refl
  where
    go : (a m b : Bool) → (is_some (object_at w what) && (int_eq place nowhere || is_some (object_at w place))) ≡ a → is_inside w what place ≡ b
        → verdict (wants a invalid_argument ∷ wants m permission_denied ∷ wants (not b) recursive_move ∷ []) ≡ None → MayMove w what place
    go true true false there inside h = may_when w what place true false there inside refl refl
    go true true true there inside h = cc
    go true false b there inside h = cc
    go false m b there inside h = cc

pub later_passed : (w : World) (what place : ℤ) → verdict (later_checks w what place) ≡ None → MayMove w what place
later_passed w what place = go (is_some (object_at w what) && (int_eq place nowhere || is_some (object_at w place))) (is_inside w what place) refl refl
  where
    go : (a b : Bool) → (is_some (object_at w what) && (int_eq place nowhere || is_some (object_at w place))) ≡ a → is_inside w what place ≡ b
        → verdict (wants a invalid_argument ∷ wants (not b) recursive_move ∷ []) ≡ None → MayMove w what place
    go true false there inside h = may_when w what place true false there inside refl refl
    go true true there inside h = cc
    go false b there inside h = cc
