-- The stages of `recycle` and `move`.
use Rattle.std.proofs.Common.{◌≡◌, ◌≢◌, ℕ, zero, suc, ℤ, List, [], ◌∷◌, Option, Some, None, refl, ap, sym, ◌∙◌}
use Rattle.spec_value.specs.Datum.{Datum, object}
use Rattle.spec_world.specs.World.{move_native, recycle_native}
use Rattle.spec_moo.specs.Scene.{Scene}
use Rattle.spec_moo.specs.NativeEffect.{Caller}
use Rattle.spec_moo.specs.Natives.Rows.{answers_with, zero_value}
use Rattle.spec_moo.specs.Natives.{native_turn, stage_of as stage_at}
use Rattle.spec_moo.specs.Natives.Objects.{staged}
use Rattle.moo_task.specs.Frames.{native_of, native_name_of}
use Rattle.moo_task.specs.declared.native.Native.{Native}
use Rattle.moo_task.specs.declared.native.NativeName.TheVariants.{Recycle}
use Rattle.builtins.specs.declared.builtin_deeds.stages.Stage.{Stage}
use Rattle.builtins.specs.Stages.{stage_does, one_object, two_objects, three_objects, recycle_stage, asked_stage, left_stage}

by_one : (s : Scene) (c : Caller) (n : ℕ) (vs : List Datum) (v : Datum) → staged s c recycle_native n vs v ≡ stage_does (recycle_stage (one_object vs)) s c v
by_one s c n [] v = refl
by_one s c n (object o ∷ []) v = refl
by_one s c n _ v = refl

by_two : (s : Scene) (c : Caller) (vs : List Datum) (v : Datum) → staged s c move_native 1 vs v ≡ stage_does (asked_stage (two_objects vs)) s c v
by_two s c (object o ∷ object p ∷ []) v = refl
by_two s c _ v = refl

by_three : (s : Scene) (c : Caller) (vs : List Datum) (v : Datum) → staged s c move_native 2 vs v ≡ stage_does (left_stage (three_objects vs)) s c v
by_three s c (object o ∷ object p ∷ object q ∷ []) v = refl
by_three s c _ v = refl

pub recycled_so : (s : Scene) (c : Caller) (n : ℕ) (vs : List Datum) (v : Datum) (o : Option ℤ) → o ≡ one_object vs → staged s c recycle_native n vs v ≡ stage_does (recycle_stage o) s c v
recycled_so s c n vs v o is = by_one s c n vs v ∙ ap (λ m. stage_does (recycle_stage m) s c v) (sym is)

pub asked_so : (s : Scene) (c : Caller) (vs : List Datum) (v : Datum) (o : Option (ℤ × ℤ)) → o ≡ two_objects vs → staged s c move_native 1 vs v ≡ stage_does (asked_stage o) s c v
asked_so s c vs v o is = by_two s c vs v ∙ ap (λ m. stage_does (asked_stage m) s c v) (sym is)

pub left_so : (s : Scene) (c : Caller) (vs : List Datum) (v : Datum) (o : Option (ℤ × ℤ × ℤ)) → o ≡ three_objects vs → staged s c move_native 2 vs v ≡ stage_does (left_stage o) s c v
left_so s c vs v o is = by_three s c vs v ∙ ap (λ m. stage_does (left_stage m) s c v) (sym is)

pub moved_so : (s : Scene) (c : Caller) (n : ℕ) (vs : List Datum) (v : Datum) → n ≢ 1 → n ≢ 2 → staged s c move_native n vs v ≡ answers_with s zero_value
moved_so s c zero vs v a b = refl
moved_so s c (suc zero) vs v a b = absurd (a refl)
moved_so s c (suc (suc zero)) vs v a b = absurd (b refl)
moved_so s c (suc (suc (suc n))) vs v a b = refl

-- ---- `recycle`, whose stages do not count

pub turn_recycled : (n : Native) (q : Stage) → n.name ≡ Recycle → ((s : Scene) (c : Caller) (k : ℕ) (v : Datum) → staged s c recycle_native k n.arguments.items v ≡ stage_does q s c v)
    → (s : Scene) (c : Caller) (v : Datum) → native_turn s c (native_of n) v ≡ stage_does q s c v
unfolding native_turn
turn_recycled n q is so s c v =
    ap (λ x. stage_at s c (native_name_of x) (record { name = native_name_of x; stage = n.stage; arguments = n.arguments.items }) v) is ∙ so s c n.stage v
