-- `chparent`, call by call.
use Rattle.std.proofs.Common.{◌≡◌, ◌≢◌, ◌⊎◌, inl, inr, ℤ, Bool, true, false, not, List, [], ◌∷◌, Option, Some, None, Result, Ok, Err, OnOk, refl, sym, ap, ◌∙◌, subst, if◌then◌else◌}
use Rattle.std.specs.Prelude.{option_map}
use Rattle.std.specs.Ordering.{int_eq}
use Rattle.spec_value.specs.Datum.{Datum, object, invalid_argument, ErrorCode}
use Rattle.spec_value.specs.Answer.{gives, raises}
use Rattle.spec_world.specs.World.{World, Header, Object, object_at}
use Rattle.spec_world.specs.Agreeing.{ObjectsAgree}
use Rattle.spec_world.specs.Families.{parent_of, clashes, reparented}
use Rattle.spec_world.proofs.Trees.{same_or_not, some_same}
use Rattle.spec_world.specs.Questions.{header_at}
use Rattle.spec_moo.specs.Scene.{Scene, in_world}
use Rattle.spec_moo.specs.NativeEffect.{Caller, NativeEffect, answers, refuses}
use Rattle.spec_moo.specs.Natives.Rows.{unless, wants, answers_with, zero_value}
use Rattle.spec_moo.specs.Natives.Objects.{another_parent, chparent_row}
use Rattle.rules.specs.Lines.{AreAgreeing}
use Rattle.rules.specs.Below.{IsFamily}
use Rattle.view.specs.Law.{Goes, Tells}
use Rattle.builtins_view.specs.Said.{Does, with_programmer}
use Rattle.builtins_view.specs.Clashes.{any_clashes}
use Rattle.builtins.proofs.Clashing.{clashes_so}
use Rattle.builtins.specs.Verdict.{verdict, by_verdict}
use Rattle.builtins.specs.Parents.{parent_checks, adopted}
use Rattle.builtins.proofs.BuiltinsObjectsChains.{unless_is}

abbrev done : ℤ → ℤ → Scene → NativeEffect
done o p s = answers_with (another_parent s o p) zero_value

abbrev rest : ℤ → ℤ → Scene → NativeEffect
rest o p s = unless s (wants (not (clashes s.world o p)) invalid_argument ∷ []) (done o p s)

-- the checks, but for clashes, come first
row_is : (w : World) (who o p : ℤ) (s : Scene) (c : Caller)
    → chparent_row (in_world s w) (with_programmer c who) (object o ∷ object p ∷ []) ≡ by_verdict (in_world s w) (verdict (parent_checks w who o p)) (rest o p (in_world s w))
row_is w who o p s c = unless_is (in_world s w) (parent_checks w who o p) (rest o p (in_world s w))

done_is : (w : World) (o p : ℤ) (s : Scene) → done o p (in_world s w) ≡ answers_with (in_world s (adopted w o p)) zero_value
done_is w o p s = go (int_eq (parent_of (object_at w o)) p)
  where
    go : (b : Bool) → answers_with (if b then in_world s w else in_world s (reparented w o p)) zero_value ≡ answers_with (in_world s (if b then w else reparented w o p)) zero_value
    go true = refl
    go false = refl

module _ {V : Type 0} (holds : V → World → Type 0) (now : V → World → World) (who o p : ℤ) where
  -- an error, and nothing changes
  pub refused_told : (a b : V) (e : ErrorCode) → Tells holds now a b (λ w. verdict (parent_checks w who o p) ≡ Some e)
      → Goes holds now a b (λ before after. Does (λ s c. chparent_row s c (object o ∷ object p ∷ [])) before after who (raises e))
  refused_told a b e told = λ w left.
      let t = told w left in
      (t.0, λ s c. row_is (now a w) who o p s c ∙ ap (λ m. by_verdict (in_world s (now a w)) m (rest o p (in_world s (now a w)))) t.1.1 ∙ ap (λ v. refuses (in_world s v) e) (sym t.1.0))

  -- a property clashes
  pub clashing_told : (a b c d : V) (ds : List ℤ) → AreAgreeing holds now a → Tells holds now a b (λ w. verdict (parent_checks w who o p) ≡ None)
      → Tells holds now b c (λ w. IsFamily w o ds) → Tells holds now c d (λ w. any_clashes w p ds ≡ true)
      → Goes holds now a d (λ before after. Does (λ s c. chparent_row s c (object o ∷ object p ∷ [])) before after who (raises invalid_argument))
  clashing_told a b c d ds known first second third = λ w left.
      let t = third w left in
      let u = second w t.0 in
      let v = first w u.0 in
      let sound : ObjectsAgree (now a w) = (known w v.0).objects in
      let family : IsFamily (now a w) o ds = subst (λ x. IsFamily x o ds) v.1.0 u.1.1 in
      let same : now c w ≡ now a w = u.1.0 ∙ v.1.0 in
      let clash : clashes (now a w) o p ≡ true = sym (clashes_so (now a w) sound p o ds family) ∙ ap (λ x. any_clashes x p ds) (sym same) ∙ t.1.1 in (
        v.0,
        λ s k. row_is (now a w) who o p s k ∙ ap (λ m. by_verdict (in_world s (now a w)) m (rest o p (in_world s (now a w)))) v.1.1
            ∙ ap (λ b. if not b then done o p (in_world s (now a w)) else refuses (in_world s (now a w)) invalid_argument) clash
            ∙ ap (λ x. refuses (in_world s x) invalid_argument) (sym (t.1.0 ∙ same)),
      )

  pub adopted_told : (a b c d e : V) (ds : List ℤ) (v : Datum) → v ≡ zero_value → AreAgreeing holds now a → Tells holds now a b (λ w. verdict (parent_checks w who o p) ≡ None)
      → Tells holds now b c (λ w. IsFamily w o ds) → Tells holds now c d (λ w. any_clashes w p ds ≡ false)
      → Goes holds now d e (λ was is. IsFamily was o ds → is ≡ adopted was o p)
      → Goes holds now a e (λ before after. Does (λ s c. chparent_row s c (object o ∷ object p ∷ [])) before after who (gives v))
  adopted_told a b c d e ds v zero known first second third fourth = λ w left.
      let q = fourth w left in
      let t = third w q.0 in
      let u = second w t.0 in
      let f = first w u.0 in
      let sound : ObjectsAgree (now a w) = (known w f.0).objects in
      let family : IsFamily (now a w) o ds = subst (λ x. IsFamily x o ds) f.1.0 u.1.1 in
      let same : now c w ≡ now a w = u.1.0 ∙ f.1.0 in
      let all : now d w ≡ now a w = t.1.0 ∙ same in
      let clash : clashes (now a w) o p ≡ false = sym (clashes_so (now a w) sound p o ds family) ∙ ap (λ x. any_clashes x p ds) (sym same) ∙ t.1.1 in
      let after : adopted (now a w) o p ≡ now e w = sym (q.1 (subst (λ x. IsFamily x o ds) (sym all) family) ∙ ap (λ x. adopted x o p) all) in (
        f.0,
        λ s k. row_is (now a w) who o p s k ∙ ap (λ m. by_verdict (in_world s (now a w)) m (rest o p (in_world s (now a w)))) f.1.1
            ∙ ap (λ b. if not b then done o p (in_world s (now a w)) else refuses (in_world s (now a w)) invalid_argument) clash
            ∙ done_is (now a w) o p s ∙ (λ i. answers (in_world s (after i)) (gives (sym zero i))),
      )

pub unlike : (a b : ℤ) → a ≢ b → int_eq a b ≡ false
unlike a b other = go (same_or_not a b)
  where
    go : (a ≡ b) ⊎ (int_eq a b ≡ false) → int_eq a b ≡ false
    go (inl e) = absurd (other e)
    go (inr h) = h

pub stays_told : {V A E : Type 0} (holds : V → World → Type 0) (now : V → World → World) (o p : ℤ) (a b c : V) (ds : List ℤ) (before : ℤ) (r : Result A E) → Tells holds now a b (λ w. parent_of (object_at w o) ≡ before) → int_eq before p ≡ false
    → OnOk r (Goes holds now b c (λ was is. IsFamily was o ds → parent_of (object_at was o) ≡ before → is ≡ reparented was o p))
    → OnOk r (Goes holds now a c (λ was is. IsFamily was o ds → is ≡ adopted was o p))
stays_told holds now o p a b c ds before (Err x) asked other told = tt
stays_told holds now o p a b c ds before (Ok x) asked other told = λ w left.
    let t = told w left in
    let u = asked w t.0 in (
      u.0,
      λ family. t.1 (subst (λ y. IsFamily y o ds) (sym u.1.0) family) (ap (λ y. parent_of (object_at y o)) u.1.0 ∙ u.1.1)
          ∙ ap (λ y. reparented y o p) u.1.0
          ∙ ap (λ b. if b then now a w else reparented (now a w) o p) (sym (ap (λ q. int_eq q p) u.1.1 ∙ other)),
    )

-- a header tells the parent
pub parent_told : {V : Type 0} (holds : V → World → Type 0) (now : V → World → World) (a b : V) (o : ℤ) (h : Header) → Tells holds now a b (λ w. header_at w o ≡ Some h)
    → Tells holds now a b (λ w. parent_of (object_at w o) ≡ h.parent)
parent_told holds now a b o h told w left = let t = told w left in (t.0, (t.1.0, go (object_at (now a w) o) t.1.1))
  where
    go : (m : Option Object) → option_map (λ x. x.header) m ≡ Some h → parent_of m ≡ h.parent
    go None e = cc
    go (Some x) e = ap (λ (k : Header). k.parent) (some_same e)
