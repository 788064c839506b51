-- Checks before a change, one after the other.
use Rattle.std.proofs.Common.{◌≡◌, ℤ, Bool, true, false, not, ◌&&◌, List, [], ◌∷◌, Option, Some, None, Result, Ok, Err, refl, sym, ap, ◌∙◌, subst, is_some, if◌then◌else◌}
use Rattle.std.specs.Prelude.{option_map, IfOk}
use Rattle.spec_value.specs.Datum.{ErrorCode}
use Rattle.spec_world.specs.World.{World, Header, Object, object_at}
use Rattle.spec_world.specs.Questions.{header_at}
use Rattle.spec_moo.specs.Scene.{Scene}
use Rattle.spec_moo.specs.NativeEffect.{NativeEffect, refuses}
use Rattle.spec_moo.specs.Natives.Rows.{Check, unless, wants}
use Rattle.view.specs.Law.{Tells}
use Rattle.builtins.specs.Verdict.{verdict, by_verdict}

-- what is refused is refused by the first that fails
pub unless_is : (s : Scene) (ks : List Check) (e : NativeEffect) → unless s ks e ≡ by_verdict s (verdict ks) e
unless_is s [] e = refl
unless_is s (k ∷ ks) e = go k.holds (unless_is s ks e)
  where
    go : (b : Bool) → unless s ks e ≡ by_verdict s (verdict ks) e → (if b then unless s ks e else refuses s k.otherwise) ≡ by_verdict s (if b then verdict ks else Some k.otherwise) e
    go true later = later
    go false later = refl

shown : (w : World) (o : ℤ) → is_some (header_at w o) ≡ is_some (object_at w o)
shown w o = go (object_at w o)
  where
    go : (m : Option Object) → is_some (option_map (λ x. x.header) m) ≡ is_some m
    go None = refl
    go (Some x) = refl

module _ {V : Type 0} (holds : V → World → Type 0) (now : V → World → World) where
  -- a header tells whether an object is there
  pub there_told : (a b : V) (o : ℤ) (m : Option Header) → Tells holds now a b (λ w. header_at w o ≡ m) → Tells holds now a b (λ w. is_some (object_at w o) ≡ is_some m)
  there_told a b o m asked w left = let t = asked w left in (t.0, (t.1.0, sym (shown (now a w) o) ∙ ap is_some t.1.1))

  -- ---- two tests

  pub first_fails : (a b : V) (P Q : World → Bool) → Tells holds now a b (λ w. P w ≡ false) → Tells holds now a b (λ w. (P w && Q w) ≡ false)
  first_fails a b P Q asked w left = let t = asked w left in (t.0, (t.1.0, ap (λ z. z && Q (now a w)) t.1.1))

  pub second_decides : {E : Type 0} (a b c : V) (P Q : World → Bool) (r : Result Bool E) → Tells holds now a b (λ w. P w ≡ true) → IfOk r (λ x. Tells holds now b c (λ w. Q w ≡ x))
      → IfOk r (λ x. Tells holds now a c (λ w. (P w && Q w) ≡ x))
  second_decides a b c P Q (Err e) first second = tt
  second_decides a b c P Q (Ok x) first second = λ w left.
      let u = second w left in
      let t = first w u.0 in
      (t.0, (u.1.0 ∙ t.1.0, ap (λ z. z && Q (now a w)) t.1.1 ∙ subst (λ v. Q v ≡ x) t.1.0 u.1.1))

  pub turned_told : (a b : V) (P : World → Bool) (x : Bool) → Tells holds now a b (λ w. P w ≡ x) → Tells holds now a b (λ w. not (P w) ≡ not x)
  turned_told a b P x asked w left = let t = asked w left in (t.0, (t.1.0, ap not t.1.1))

  -- ---- checks

  -- the first fails
  pub check_fails : (a b : V) (P : World → Bool) (e : ErrorCode) (rest : World → List Check) → Tells holds now a b (λ w. P w ≡ false)
      → Tells holds now a b (λ w. verdict (wants (P w) e ∷ rest w) ≡ Some e)
  check_fails a b P e rest asked w left =
      let t = asked w left in (t.0, (t.1.0, ap (λ z. if z then verdict (rest (now a w)) else Some e) t.1.1))

  -- it passes, and those behind it decide
  pub check_passes : (a b c : V) (P : World → Bool) (e : ErrorCode) (rest : World → List Check) (m : Option ErrorCode) → Tells holds now a b (λ w. P w ≡ true)
      → Tells holds now b c (λ w. verdict (rest w) ≡ m) → Tells holds now a c (λ w. verdict (wants (P w) e ∷ rest w) ≡ m)
  check_passes a b c P e rest m first second w left =
      let u = second w left in
      let t = first w u.0 in
      (t.0, (u.1.0 ∙ t.1.0, ap (λ z. if z then verdict (rest (now a w)) else Some e) t.1.1 ∙ subst (λ v. verdict (rest v) ≡ m) t.1.0 u.1.1))

  -- the last passes
  pub last_passes : (a b : V) (P : World → Bool) (e : ErrorCode) → Tells holds now a b (λ w. P w ≡ true) → Tells holds now a b (λ w. verdict (wants (P w) e ∷ []) ≡ None)
  last_passes a b P e asked w left = let t = asked w left in (t.0, (t.1.0, ap (λ z. if z then None else Some e) t.1.1))
