-- What several calls in a row do to the world.
use Rattle.std.proofs.Common.{◌≡◌, ℤ, List, Result, Ok, Err, OnOk, sym, ap, ◌∙◌}
use Rattle.spec_value.specs.Datum.{Text}
use Rattle.spec_world.specs.World.{World, Slot, object_at}
use Rattle.spec_world.specs.Families.{parent_of, put_below, with_heirs, reparented}
use Rattle.rules.specs.Lines.{AreAgreeing}
use Rattle.rules.specs.Below.{IsFamily}
use Rattle.view.specs.Law.{Goes, Tells}
use Rattle.builtins_view.specs.Heirs.{names_beside, slots_beside, lose_each, inherit_each}
use Rattle.builtins_view.proofs.Descent.{heirs_so}

module _ {V A E : Type 0} (holds : V → World → Type 0) (now : V → World → World) (o before p : ℤ) (ds : List ℤ) where
  pub heirs_told : (a b c d e : V) (r : Result A E) (ts : List Text) (es : List (Text × Slot)) → AreAgreeing holds now a
      → Tells holds now a b (λ w. ts ≡ names_beside w before p) → Tells holds now b c (λ w. es ≡ slots_beside w p before)
      → Goes holds now c d (λ was is. is ≡ lose_each ts ds was) → OnOk r (Goes holds now d e (λ was is. is ≡ inherit_each es ds was))
      → OnOk r (Goes holds now a e (λ was is. IsFamily was o ds → parent_of (object_at was o) ≡ before → is ≡ with_heirs was o p))
  heirs_told a b c d e (Err x) ts es known lost gained losing inheriting = tt
  heirs_told a b c d e (Ok x) ts es known lost gained losing inheriting = λ w left.
      let i = inheriting w left in
      let l = losing w i.0 in
      let g = gained w l.0 in
      let n = lost w g.0 in
      let same : now c w ≡ now a w = g.1.0 ∙ n.1.0 in
      let slots : es ≡ slots_beside (now a w) p before = g.1.1 ∙ ap (λ v. slots_beside v p before) n.1.0 in (
        n.0,
        λ family parent_is. i.1 ∙ (λ j. inherit_each (slots j) ds (l.1 j)) ∙ (λ j. inherit_each (slots_beside (now a w) p before) ds (lose_each (n.1.1 j) ds (same j)))
            ∙ heirs_so (now a w) (known w n.0).objects o before p ds family parent_is,
      )

  pub hung_told : (a b c : V) (r : Result A E) → Goes holds now a b (λ was is. IsFamily was o ds → parent_of (object_at was o) ≡ before → is ≡ with_heirs was o p)
      → OnOk r (Goes holds now b c (λ was is. is ≡ put_below was o before p))
      → OnOk r (Goes holds now a c (λ was is. IsFamily was o ds → parent_of (object_at was o) ≡ before → is ≡ reparented was o p))
  unfolding reparented
  hung_told a b c (Err x) first second = tt
  hung_told a b c (Ok x) first second = λ w left.
      let u = second w left in
      let t = first w u.0 in
      (t.0, λ family parent_is. u.1 ∙ ap (λ v. put_below v o before p) (t.1 family parent_is) ∙ ap (λ b. put_below (with_heirs (now a w) o p) o b p) (sym parent_is))
