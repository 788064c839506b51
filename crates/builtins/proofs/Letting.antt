-- `recycle`, call by call.
use Rattle.std.proofs.Common.{◌≡◌, ℕ, ℤ, [], ◌∷◌, Option, Some, None, Ok, Err, sym, ap, ◌∙◌}
use Rattle.std.specs.Prelude.{codes}
use Rattle.spec_value.specs.Datum.{Datum, ErrorCode, object, no_data}
use Rattle.spec_world.specs.World.{World, Call, recycle_native}
use Rattle.spec_moo.specs.Scene.{Scene}
use Rattle.spec_moo.specs.NativeEffect as N
use Rattle.spec_moo.specs.Natives.Rows.{answers_with, zero_value}
use Rattle.spec_moo.specs.Natives.Objects.{stage, recycle_now, recycle_row}
use Rattle.moo_value.specs.Errors.{code_of}
use Rattle.moo_value.specs.declared.error.MooError.{MooError}
use Rattle.moo_task.specs.Deeds.{scene_of}
use Rattle.moo_task.specs.Effects.{effect_of}
use Rattle.moo_task.specs.declared.deeds.Deeds.{Deeds}
use Rattle.moo_task.specs.declared.effect.NativeEffect.{NativeEffect}
use Rattle.moo_task.specs.declared.effect.NativeEffect.TheVariants.{Answers}
use Rattle.view.specs.Law.{Goes, Tells}
use Rattle.builtins.specs.Verdict.{verdict, by_verdict}
use Rattle.builtins.proofs.BuiltinsObjectsChains.{unless_is}
use Rattle.builtins.specs.Led.{with_call, Leads, LeadsOver, MayBegin}
use Rattle.builtins.specs.Recycles.{recycle_checks, recycle_told}
use Rattle.builtins.proofs.Leading.{ends_led}

module _ {V : Type 0} (holds : V → World → Type 0) (now : V → World → World) (k : Call) (o : ℤ) (d : Deeds) where
  abbrev row : Scene → N.Caller → N.NativeEffect
  row s x = recycle_row s x (object o ∷ [])

  abbrev told_row : Scene → N.Caller → N.NativeEffect
  told_row s x = recycle_told s x o

  abbrev pub Checked : Option ErrorCode → World → Type 0
  Checked m w = verdict (recycle_checks w k.programmer o) ≡ m

  abbrev pub Begins : Option NativeEffect → World → Type 0
  Begins m w = MayBegin (stage recycle_native (object o ∷ [])) o (codes "recycle") no_data w k m

  row_is : (s : Scene) (x : N.Caller) (m : Option ErrorCode) → Checked m s.world → row s (with_call x k) ≡ by_verdict s m (told_row s (with_call x k))
  row_is s x m told = unless_is s (recycle_checks s.world k.programmer o) (told_row s (with_call x k)) ∙ ap (λ e. by_verdict s e (told_row s (with_call x k))) told

  -- where the deeds stay
  over : (a b : V) (e : NativeEffect) (rule : Scene → N.Caller → N.NativeEffect) → Goes holds now a b (λ before after. Leads rule before after k e)
      → Goes holds now a b (λ before after. LeadsOver rule d before k e d after)
  over a b e rule led w left = let t = led w left in (t.0, λ n x. t.1 (scene_of d (now a w) n) x)

  pub refused_over : (a b : V) (e : MooError) → Tells holds now a b (Checked (Some (code_of e))) → Goes holds now a b (λ before after. LeadsOver row d before k (Answers (Err e)) d after)
  refused_over a b e told = over a b (Answers (Err e)) row (ends_led holds now k a b (Checked (Some (code_of e))) row (Answers (Err e)) told (λ s x h. row_is s x (Some (code_of e)) h))

  pub passed_over : (a b f : V) (g : Deeds) (e : NativeEffect) → Tells holds now a b (Checked None) → Goes holds now b f (λ before after. LeadsOver told_row d before k e g after)
      → Goes holds now a f (λ before after. LeadsOver row d before k e g after)
  passed_over a b f g e told led w left =
      let u = led w left in
      let p = told w u.0 in
      (p.0, λ n x. row_is (scene_of d (now a w) n) x None p.1.1 ∙ ap (λ y. told_row (scene_of d y n) (with_call x k)) (sym p.1.0) ∙ u.1 n x)

  -- its verb begins
  pub begun_over : (a b : V) (e : NativeEffect) → Tells holds now a b (Begins (Some e)) → Goes holds now a b (λ before after. LeadsOver told_row d before k e d after)
  begun_over a b e begun =
      over a b e told_row (ends_led holds now k a b (Begins (Some e)) told_row e begun (λ s x h. h s x (answers_with (recycle_now s o) zero_value)))

  -- it has none
  pub gone_over : (a b f : V) (g : Deeds) (e : NativeEffect) → Tells holds now a b (Begins None)
      → Goes holds now b f (λ before after. (t : ℕ) → answers_with (recycle_now (scene_of d before t) o) zero_value ≡ effect_of e (scene_of g after t))
      → Goes holds now a f (λ before after. LeadsOver told_row d before k e g after)
  gone_over a b f g e none gone w left =
      let u = gone w left in
      let p = none w u.0 in (
        p.0,
        λ n x. p.1.1 (scene_of d (now a w) n) x (answers_with (recycle_now (scene_of d (now a w) n) o) zero_value)
            ∙ ap (λ y. answers_with (recycle_now (scene_of d y n) o) zero_value) (sym p.1.0) ∙ u.1 n,
      )

-- it goes, and the value is 0
pub let_go_told : {V : Type 0} (holds : V → World → Type 0) (now : V → World → World) (o : ℤ) (d g : Deeds) (a b : V) (v : Datum) → v ≡ zero_value
    → Goes holds now a b (λ before after. (t : ℕ) → scene_of g after t ≡ recycle_now (scene_of d before t) o)
    → Goes holds now a b (λ before after. (t : ℕ) → answers_with (recycle_now (scene_of d before t) o) zero_value ≡ effect_of (Answers (Ok v)) (scene_of g after t))
let_go_told holds now o d g a b v zero gone w left =
    let t = gone w left in (t.0, λ n. ap (λ s. answers_with s zero_value) (sym (t.1 n)) ∙ ap (answers_with (scene_of g (now b w) n)) (sym zero))
