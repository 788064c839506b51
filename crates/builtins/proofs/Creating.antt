-- `create`, call by call.
use Rattle.std.proofs.Common.{◌≡◌, ℤ, pos, Bool, true, false, ◌&&◌, ◌||◌, List, [], ◌∷◌, Some, None, sym, ap, ◌∙◌, is_some, if◌then◌else◌, Ok, Err, ◌++◌}
use Rattle.std.specs.Prelude.{int_le, codes}
use Rattle.std.specs.Ordering.{int_eq}
use Rattle.spec_value.specs.Datum.{Datum, no_data, object, permission_denied, invalid_argument, limit_exceeded}
use Rattle.spec_world.specs.World.{World, Call, Native, create_native, object_at}
use Rattle.spec_world.specs.Permissions.{may, have_child, change_owner}
use Rattle.spec_world.specs.Families.{nowhere, next_object, created}
use Rattle.spec_moo.specs.Scene.{Scene, in_world}
use Rattle.spec_moo.specs.NativeEffect as N
use Rattle.spec_moo.specs.Natives.Rows.{answers_with}
use Rattle.spec_moo.specs.Natives.Objects.{stage, calls_if_there, create_with, create_for, create_row}
use Rattle.moo_value.specs.declared.error.MooError.TheVariants.{InvalidArgument, PermissionDenied, LimitExceeded}
use Rattle.moo_task.specs.Effects.{effect_of}
use Rattle.moo_task.specs.declared.effect.NativeEffect.{NativeEffect}
use Rattle.moo_task.specs.declared.effect.NativeEffect.TheVariants.{Answers}
use Rattle.view.specs.Law.{Goes, Tells}
use Rattle.builtins_view.proofs.Steps.{both_told}
use Rattle.builtins.specs.Led.{with_call, Leads, MayBegin}
use Rattle.builtins.specs.Children.{initialized, IsNext}
use Rattle.builtins.proofs.Leading.{then_leads, ends_led}

-- made, and then its verb is called
pub begun_told : {V : Type 0} (holds : V → World → Type 0) (now : V → World → World) (k : Call) (parent owner : ℤ) (args : List Datum) (a b c : V) (n : ℤ) (e : NativeEffect)
    → ((w : World) → holds a w → IsNext (now a w) (Some n)) → Goes holds now a b (λ was is. is ≡ created was parent owner)
    → Tells holds now b c (λ w. Leads (λ s x. initialized s x n args) w w k e)
    → Goes holds now a c (λ before after. Leads (λ s x. create_with s x parent owner args) before after k e)
begun_told holds now k parent owner args a b c n e next made told w left =
    let t = told w left in
    let u = made w t.0 in
    let number = next w u.0 in (
      u.0,
      λ s x. (λ i. initialized (in_world s (sym u.1 i)) (with_call x k) (number.0 i) args) ∙ t.1.1 s x ∙ ap (λ v. effect_of e (in_world s v)) (sym t.1.0),
    )

module _ (k : Call) (parent owner : ℤ) (args : List Datum) (s : Scene) (x : N.Caller) where
  abbrev allowed : Bool
  allowed = may s.world k.programmer (have_child parent) && may s.world k.programmer (change_owner k.programmer owner)

  -- it may be made, and there is a number
  pub is_made : (n : ℤ) → (allowed ≡ true) × IsNext s.world (Some n) → create_for s (with_call x k) parent owner args ≡ create_with s (with_call x k) parent owner args
  is_made n told =
      ap (λ b. if b then (if int_le (next_object s.world) (pos 999999) then create_with s (with_call x k) parent owner args else N.refuses s limit_exceeded) else N.refuses s permission_denied) told.0
      ∙ ap (λ b. if b then create_with s (with_call x k) parent owner args else N.refuses s limit_exceeded) (ap (λ z. int_le z (pos 999999)) told.1.0 ∙ told.1.1)

  -- there is none
  pub has_none : (allowed ≡ true) × IsNext s.world None → create_for s (with_call x k) parent owner args ≡ N.refuses s limit_exceeded
  has_none told =
      ap (λ b. if b then (if int_le (next_object s.world) (pos 999999) then create_with s (with_call x k) parent owner args else N.refuses s limit_exceeded) else N.refuses s permission_denied) told.0
      ∙ ap (λ b. if b then create_with s (with_call x k) parent owner args else N.refuses s limit_exceeded) told.1

  pub is_denied : allowed ≡ false → create_for s (with_call x k) parent owner args ≡ N.refuses s permission_denied
  is_denied told =
      ap (λ b. if b then (if int_le (next_object s.world) (pos 999999) then create_with s (with_call x k) parent owner args else N.refuses s limit_exceeded) else N.refuses s permission_denied) told

pub row_with_parent : (k : Call) (parent : ℤ) (s : Scene) (x : N.Caller) → (int_eq parent nowhere || is_some (object_at s.world parent)) ≡ true
    → create_row s (with_call x k) (object parent ∷ []) ≡ create_for s (with_call x k) parent k.programmer (object parent ∷ [])
row_with_parent k parent s x there = ap (λ b. if b then create_for s (with_call x k) parent k.programmer (object parent ∷ []) else N.refuses s invalid_argument) there

pub row_with_both : (k : Call) (parent owner : ℤ) (s : Scene) (x : N.Caller) → ((int_eq parent nowhere || is_some (object_at s.world parent)) && is_some (object_at s.world owner)) ≡ true
    → create_row s (with_call x k) (object parent ∷ object owner ∷ []) ≡ create_for s (with_call x k) parent owner (object parent ∷ object owner ∷ [])
row_with_both k parent owner s x there = ap (λ b. if b then create_for s (with_call x k) parent owner (object parent ∷ object owner ∷ []) else N.refuses s invalid_argument) there

-- ---- over a view

abbrev pub IsAllowed : Call → ℤ → ℤ → Bool → World → Type 0
IsAllowed k parent owner b w = (may w k.programmer (have_child parent) && may w k.programmer (change_owner k.programmer owner)) ≡ b

abbrev AreBoth : ℤ → ℤ → Bool → World → Type 0
AreBoth parent owner b w = ((int_eq parent nowhere || is_some (object_at w parent)) && is_some (object_at w owner)) ≡ b

module _ {V : Type 0} (holds : V → World → Type 0) (now : V → World → World) (k : Call) (parent : ℤ) where
  -- where the parent is not there
  pub absent_led : (a b : V) → Tells holds now a b (λ w. (int_eq parent nowhere || is_some (object_at w parent)) ≡ false)
      → Goes holds now a b (λ before after. Leads (λ s x. create_row s x (object parent ∷ [])) before after k (Answers (Err InvalidArgument)))
  absent_led a b told =
      ends_led holds now k a b (λ w. (int_eq parent nowhere || is_some (object_at w parent)) ≡ false) (λ s x. create_row s x (object parent ∷ [])) (Answers (Err InvalidArgument)) told
      (λ s x h. ap (λ b. if b then create_for s (with_call x k) parent k.programmer (object parent ∷ []) else N.refuses s invalid_argument) h)

module _ {V : Type 0} (holds : V → World → Type 0) (now : V → World → World) (k : Call) (parent owner : ℤ) where
  -- or the owner is not
  pub none_led : (a b : V) → Tells holds now a b (AreBoth parent owner false)
      → Goes holds now a b (λ before after. Leads (λ s x. create_row s x (object parent ∷ object owner ∷ [])) before after k (Answers (Err InvalidArgument)))
  none_led a b told =
      ends_led holds now k a b (AreBoth parent owner false) (λ s x. create_row s x (object parent ∷ object owner ∷ [])) (Answers (Err InvalidArgument)) told
      (λ s x h. ap (λ b. if b then create_for s (with_call x k) parent owner (object parent ∷ object owner ∷ []) else N.refuses s invalid_argument) h)

module _ {V : Type 0} (holds : V → World → Type 0) (now : V → World → World) (k : Call) (parent owner : ℤ) (args : List Datum) where
  pub denied_led : (a b : V) → Tells holds now a b (IsAllowed k parent owner false) → Goes holds now a b (λ before after. Leads (λ s x. create_for s x parent owner args) before after k (Answers (Err PermissionDenied)))
  denied_led a b told = ends_led holds now k a b (IsAllowed k parent owner false) (λ s x. create_for s x parent owner args) (Answers (Err PermissionDenied)) told (λ s x h. is_denied k parent owner args s x h)

  pub full_led : (a b c : V) → Tells holds now a b (IsAllowed k parent owner true) → Tells holds now b c (λ w. IsNext w None)
      → Goes holds now a c (λ before after. Leads (λ s x. create_for s x parent owner args) before after k (Answers (Err LimitExceeded)))
  full_led a b c told none =
      ends_led holds now k a c (λ w. IsAllowed k parent owner true w × IsNext w None) (λ s x. create_for s x parent owner args) (Answers (Err LimitExceeded))
      (both_told holds now a b c (IsAllowed k parent owner true) (λ w. IsNext w None) (λ w. IsAllowed k parent owner true w × IsNext w None) told none (λ w p q. (p, q))) (λ s x h. has_none k parent owner args s x h)

  pub allowed_led : (a b c d : V) (n : ℤ) (e : NativeEffect) → Tells holds now a b (IsAllowed k parent owner true) → Tells holds now b c (λ w. IsNext w (Some n))
      → Goes holds now c d (λ before after. Leads (λ s x. create_with s x parent owner args) before after k e)
      → Goes holds now a d (λ before after. Leads (λ s x. create_for s x parent owner args) before after k e)
  allowed_led a b c d n e told next made =
      then_leads holds now k a c d (λ w. IsAllowed k parent owner true w × IsNext w (Some n)) (λ s x. create_with s x parent owner args) (λ s x. create_for s x parent owner args) e
      (both_told holds now a b c (IsAllowed k parent owner true) (λ w. IsNext w (Some n)) (λ w. IsAllowed k parent owner true w × IsNext w (Some n)) told next (λ w p q. (p, q))) made (λ s x h. is_made k parent owner args s x n h)

  pub present_led : (a b c : V) (e : NativeEffect) → owner ≡ k.programmer → args ≡ object parent ∷ [] → Tells holds now a b (λ w. (int_eq parent nowhere || is_some (object_at w parent)) ≡ true)
      → Goes holds now b c (λ before after. Leads (λ s x. create_for s x parent owner args) before after k e)
      → Goes holds now a c (λ before after. Leads (λ s x. create_row s x (object parent ∷ [])) before after k e)
  present_led a b c e own same told made =
      then_leads holds now k a b c (λ w. (int_eq parent nowhere || is_some (object_at w parent)) ≡ true) (λ s x. create_for s x parent owner args) (λ s x. create_row s x (object parent ∷ [])) e told made
      (λ s x h. row_with_parent k parent s x h ∙ (λ i. create_for s (with_call x k) parent (sym own i) (sym same i)))

  pub both_led : (a b c : V) (e : NativeEffect) → args ≡ object parent ∷ object owner ∷ [] → Tells holds now a b (AreBoth parent owner true)
      → Goes holds now b c (λ before after. Leads (λ s x. create_for s x parent owner args) before after k e)
      → Goes holds now a c (λ before after. Leads (λ s x. create_row s x (object parent ∷ object owner ∷ [])) before after k e)
  both_led a b c e same told made =
      then_leads holds now k a b c (AreBoth parent owner true) (λ s x. create_for s x parent owner args) (λ s x. create_row s x (object parent ∷ object owner ∷ [])) e told made
      (λ s x h. row_with_both k parent owner s x h ∙ (λ i. create_for s (with_call x k) parent owner (sym same i)))

-- ---- the verb of a new object

module _ {V : Type 0} (holds : V → World → Type 0) (now : V → World → World) (k : Call) (args : List Datum) where
  pub verb_led : (a b : V) (n : ℤ) (m : Native) (x : NativeEffect) → m ≡ stage create_native (args ++ object n ∷ [])
      → Tells holds now a b (λ w. MayBegin m n (codes "initialize") no_data w k (Some x)) → Tells holds now a b (λ w. Leads (λ s c. initialized s c n args) w w k x)
  verb_led a b n m x is told w left =
      let t = told w left in (
        t.0,
        (
          t.1.0,
          λ s c. (λ i. calls_if_there (in_world s (now a w)) (with_call c k) (sym is i) n (codes "initialize") no_data (answers_with (in_world s (now a w)) (object n)))
              ∙ t.1.1 s c (answers_with (in_world s (now a w)) (object n)),
        ),
      )

  pub no_verb_led : (a b : V) (n : ℤ) (m : Native) (x : Datum) → m ≡ stage create_native (args ++ object n ∷ []) → x ≡ object n
      → Tells holds now a b (λ w. MayBegin m n (codes "initialize") no_data w k None) → Tells holds now a b (λ w. Leads (λ s c. initialized s c n args) w w k (Answers (Ok x)))
  no_verb_led a b n m x is value told w left =
      let t = told w left in (
        t.0,
        (
          t.1.0,
          λ s c. (λ i. calls_if_there (in_world s (now a w)) (with_call c k) (sym is i) n (codes "initialize") no_data (answers_with (in_world s (now a w)) (object n)))
              ∙ t.1.1 s c (answers_with (in_world s (now a w)) (object n)) ∙ ap (answers_with (in_world s (now a w))) (sym value),
        ),
      )
