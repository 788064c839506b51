-- What several calls tell of a view, one after the other, where the objects of its worlds agree.
use Rattle.std.proofs.Common.{◌≡◌, ℤ, ◌<◌, Option, refl, sym, ◌∙◌, subst, Ok, Err}
use Rattle.std.specs.Prelude.{Result, IfOk}
use Rattle.spec_world.specs.World.{World}
use Rattle.spec_world.specs.Agreeing.{ObjectsAgree}
use Rattle.view.specs.Law.{Tells}
use Rattle.rules.specs.Standing.{IsStanding}
use Rattle.rules.specs.Lines.{AreAgreeing, size}

pub if_ok_as : {A E : Type 0} (P Q : A → Type 0) → ((a : A) → P a → Q a) → (r : Result A E) → IfOk r P → IfOk r Q
if_ok_as P Q f (Ok a) h = f a h
if_ok_as P Q f (Err e) h = tt

module _ {V : Type 0} (holds : V → World → Type 0) (now : V → World → World) where
  -- what holds of the worlds holds of them after the call too
  pub stays_known : (K : World → Type 0) (a b : V) (P : World → Type 0) → ((w : World) → holds a w → K (now a w)) → Tells holds now a b P → (w : World) → holds b w → K (now b w)
  stays_known K a b P known told w is = let t = told w is in subst K (sym t.1.0) (known w t.0)

  -- so they stand
  pub known_on : (a b : V) (P : World → Type 0) → AreAgreeing holds now a → Tells holds now a b P → AreAgreeing holds now b
  known_on a b P known told = stays_known IsStanding a b P known told

  -- what one call tells says something else
  pub told_as : (a b : V) (P Q : World → Type 0) → AreAgreeing holds now a → Tells holds now a b P → ((w : World) → ObjectsAgree w → P w → Q w) → Tells holds now a b Q
  told_as a b P Q known told so w is = let t = told w is in (t.0, (t.1.0, so (now a w) (known w t.0).objects t.1.1))

  -- what two calls tell
  pub told_on : (a b c : V) (P Q R : World → Type 0) → AreAgreeing holds now a → Tells holds now a b P → Tells holds now b c Q
      → ((w : World) → ObjectsAgree w → P w → Q w → R w) → Tells holds now a c R
  told_on a b c P Q R known first second so w is =
      let s = second w is in
      let f = first w s.0 in
      (f.0, (s.1.0 ∙ f.1.0, so (now a w) (known w f.0).objects f.1.1 (subst Q f.1.0 s.1.1)))

  -- what holds of each world, before anything is asked
  pub told_before : (a : V) (P : World → Type 0) → ((w : World) → holds a w → P (now a w)) → Tells holds now a a P
  told_before a P each w is = (is, (refl, each w is))

  -- what is still ahead of a walk grows less by the call
  pub nearer_told : (home : V → World) (a b : V) (P : World → Type 0) (x y : Option ℤ) → AreAgreeing holds now a → Tells holds now a b P → holds b (home b) → home b ≡ home a
      → ((w : World) → ObjectsAgree w → P w → size w x < size w y) → size (now b (home b)) x < size (now a (home a)) y
  nearer_told home a b P x y known told left same so =
      let t = told (home b) left in
      subst (λ (h : World). size (now b (home b)) x < size (now a h) y) same
      (subst (λ (u : World). size u x < size (now a (home b)) y) (sym t.1.0) (so (now a (home b)) (known (home b) t.0).objects t.1.1))

  -- what a call tells, beside what is known before it
  pub told_with : (a b : V) (P Q R : World → Type 0) → AreAgreeing holds now a → ((w : World) → holds a w → P (now a w)) → Tells holds now a b Q
      → ((w : World) → ObjectsAgree w → P w → Q w → R w) → Tells holds now a b R
  told_with a b P Q R known each told so w is = let t = told w is in (t.0, (t.1.0, so (now a w) (known w t.0).objects (each w t.0) t.1.1))
