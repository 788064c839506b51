-- An object goes with its link, call by call.
use Rattle.std.proofs.Common.{◌≡◌, ℕ, ℤ, Bool, true, false, Result, Ok, Err, OnOk, sym, ap, ◌∙◌, subst, is_some, if◌then◌else◌}
use Rattle.spec_world.specs.World.{World, object_at}
use Rattle.spec_world.specs.Families.{recycled}
use Rattle.spec_moo.specs.Scene.{Scene, in_world}
use Rattle.spec_moo.specs.Linking.{link_closed}
use Rattle.spec_moo.specs.Natives.Objects.{recycle_now}
use Rattle.moo_task.specs.Deeds.{scene_of}
use Rattle.moo_task.specs.declared.deeds.Deeds.{Deeds}
use Rattle.rules.specs.Lines.{AreAgreeing}
use Rattle.rules.specs.Standing.{IsStanding}
use Rattle.rules.proofs.ObjectsStand.{recycled_stands}
use Rattle.view.specs.Law.{Goes, Tells}
use Rattle.builtins.proofs.Flags.{closed_well, closed_nobodys}

abbrev gone : Scene → ℤ → Scene
gone s o = in_world s (recycled s.world o)

module _ {V : Type 0} (holds : V → World → Type 0) (now : V → World → World) (o : ℤ) where
  -- it is not there
  pub departs_not : (a b : V) (d : Deeds) → Tells holds now a b (λ w. is_some (object_at w o) ≡ false)
      → Goes holds now a b (λ before after. (t : ℕ) → scene_of d after t ≡ recycle_now (scene_of d before t) o)
  departs_not a b d told w left =
      let t = told w left in (
        t.0,
        λ n. ap (λ u. scene_of d u n) t.1.0 ∙ ap (λ z. if z then gone (link_closed (scene_of d (now a w) n) o) o else scene_of d (now a w) n) (sym t.1.1),
      )

  -- it is
  pub departs : {A E : Type 0} (a b c f : V) (d e : Deeds) (r : Result A E) → Tells holds now a b (λ w. is_some (object_at w o) ≡ true)
      → Goes holds now b c (λ before after. (t : ℕ) → scene_of e after t ≡ link_closed (scene_of d before t) o)
      → OnOk r (Goes holds now c f (λ was is. is ≡ recycled was o))
      → OnOk r (Goes holds now a f (λ before after. (t : ℕ) → scene_of e after t ≡ recycle_now (scene_of d before t) o))
  departs a b c f d e (Err x) told closed left_it = tt
  departs a b c f d e (Ok x) told closed left_it = λ w left.
      let q = left_it w left in
      let u = closed w q.0 in
      let t = told w u.0 in (
        t.0,
        λ n. ap (λ y. scene_of e y n) q.1 ∙ ap (λ s. gone s o) (u.1 n) ∙ ap (λ y. gone (link_closed (scene_of d y n) o) o) t.1.0
            ∙ ap (λ z. if z then gone (link_closed (scene_of d (now a w) n) o) o else scene_of d (now a w) n) (sym t.1.1),
      )

-- ---- a world that stands stays so

gone_well : (s : Scene) (o : ℤ) → IsStanding s.world → IsStanding (recycle_now s o).world
gone_well s o h = go (is_some (object_at s.world o))
  where
    go : (b : Bool) → IsStanding (if b then gone (link_closed s o) o else s).world
    go true = recycled_stands (link_closed s o).world o (closed_well s o h) (closed_nobodys s o h)
    go false = h

pub departs_well : {V A E : Type 0} (holds : V → World → Type 0) (now : V → World → World) (a b : V) (d e : Deeds) (o : ℤ) (r : Result A E)
    → OnOk r (Goes holds now a b (λ before after. (t : ℕ) → scene_of e after t ≡ recycle_now (scene_of d before t) o))
    → AreAgreeing holds now a → OnOk r (AreAgreeing holds now b)
departs_well holds now a b d e o (Err x) told known = tt
departs_well holds now a b d e o (Ok x) told known = λ w left.
    let t = told w left in
    let s : Scene = scene_of d (now a w) 0 in
    let same : (recycle_now s o).world ≡ now b w = ap (λ (z : Scene). z.world) (sym (t.1 0)) in
    subst IsStanding same (gone_well s o (known w t.0))
