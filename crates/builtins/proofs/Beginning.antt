-- Verbs that begin, or are not there.
use Rattle.std.proofs.Common.{◌≡◌, ℤ, Some, None, ap, ◌∙◌}
use Rattle.spec_value.specs.Datum.{Text, Data}
use Rattle.spec_world.specs.World.{World, Call, Native}
use Rattle.spec_world.specs.VerbsSought.{Sought, find_verb}
use Rattle.spec_moo.specs.Scene.{Scene, in_world}
use Rattle.spec_moo.specs.Calling.{verb_call}
use Rattle.spec_moo.specs.NativeEffect as N
use Rattle.spec_moo.specs.Natives.Objects.{calls_found}
use Rattle.moo_task.specs.Effects.{effect_of}
use Rattle.moo_task.specs.declared.effect.NativeEffect.{NativeEffect}
use Rattle.view.specs.Law.{Tells}
use Rattle.builtins.specs.Led.{with_call, MayBegin}

module _ {V : Type 0} (holds : V → World → Type 0) (now : V → World → World) (k : Call) (n : Native) (o : ℤ) (word : Text) (args : Data) where
  -- there is none
  pub begun_not : (a b : V) → Tells holds now a b (λ w. find_verb w o word ≡ None) → Tells holds now a b (λ w. MayBegin n o word args w k None)
  begun_not a b told w left =
      let t = told w left in (t.0, (t.1.0, λ s c e. ap (calls_found (in_world s (now a w)) (with_call c k) n o word args e) t.1.1))

  -- there is one, and this is its call
  pub begun_so : (a b : V) (f : Sought) (x : NativeEffect) → ((s : Scene) → N.begins s n (verb_call k o word f) (f.verb).program args ≡ effect_of x s)
      → Tells holds now a b (λ w. find_verb w o word ≡ Some f) → Tells holds now a b (λ w. MayBegin n o word args w k (Some x))
  begun_so a b f x is told w left =
      let t = told w left in (
        t.0,
        (t.1.0, λ s c e. ap (calls_found (in_world s (now a w)) (with_call c k) n o word args e) t.1.1 ∙ is (in_world s (now a w))),
      )
