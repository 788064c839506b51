-- The world now stays sound.
use Rattle.std.proofs.Common.{◌≡◌, ℤ, Result, Ok, Err, OnOk, sym, subst}
use Rattle.spec_world.specs.World.{World}
use Rattle.spec_world.specs.Questions.{Change, new_value, apply}
use Rattle.spec_value.specs.Datum.{Datum, Text}
use Rattle.view.specs.Sound.{IsSound}
use Rattle.view.proofs.SoundKeeps.{sound_valued}
use Rattle.view.specs.Law.{Goes, StaysSound}

-- by a change that leaves every sound world sound
pub sound_changed : {V A E : Type 0} (holds : V → World → Type 0) (now : V → World → World) (home : V → World) (old new : V) (c : Change) (r : Result A E)
    → ((w : World) → IsSound w → IsSound (apply c w))
    → home new ≡ home old → OnOk r (holds new (home new)) → OnOk r (Goes holds now old new (λ before after. after ≡ apply c before))
    → OnOk r (StaysSound home now old new)
sound_changed holds now home old new c (Err e) keeps same stays goes = stays
sound_changed holds now home old new c (Ok a) keeps same stays goes = λ sound.
    subst IsSound (sym (goes (home new) stays).1) (keeps (now old (home new)) (subst (λ (w : World). IsSound (now old w)) (sym same) sound))

pub valued_keeps : (k : Change) (o : ℤ) (p : Text) (v : Datum) → k ≡ new_value o p v → (w : World) → IsSound w → IsSound (apply k w)
valued_keeps k o p v is w h = subst (λ (j : Change). IsSound (apply j w)) (sym is) (sound_valued o p v w h)
