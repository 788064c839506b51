-- A property that one of a family defines, and that the next parent has, is a clash.
use Rattle.std.proofs.Common.{◌≡◌, ℤ, Bool, ◌||◌, List, [], ◌∷◌, map, Option, Some, None, refl, sym, ap, ◌∙◌, is_some}
use Rattle.std.specs.Prelude.{option_map}
use Rattle.std.specs.List.{list_any}
use Rattle.spec_value.specs.Datum.{Text, fold_case}
use Rattle.spec_world.specs.World.{World, Object, object_at}
use Rattle.spec_world.specs.Inherit.{slot_of, ancestors}
use Rattle.spec_world.specs.WellFormed.{passes, defined_on, has_name}
use Rattle.spec_world.specs.Agreeing.{ObjectsAgree}
use Rattle.spec_world.specs.Families.{slots_at, shares_name, clashes}
use Rattle.spec_value.specs.Table.{named}
use Rattle.spec_world.proofs.Trees.{Path, path_from}
use Rattle.spec_world.proofs.WorldTrees.{parents, ancestors_of}
use Rattle.spec_world.proofs.Households.{Household, household}
use Rattle.spec_world.proofs.Reparenting.{slots_above}
use Rattle.rules.specs.Below.{IsFamily}
use Rattle.rules.proofs.Anyone.{any_of, any_is}
use Rattle.builtins_view.specs.Clashes.{has_slot, any_slot, any_clashes}

module _ (w : World) (sound : ObjectsAgree w) (p : ℤ) where
  house : Household w
  house = household w sound

  way : (us : List ℤ) × Path (parents w) p us
  way = path_from (parents w) house.family p

  abbrev shares : Object → Bool
  shares x = shares_name (map fold_case x.defines) (defined_on w (ancestors w p))

  slot_is : (t : Text) → has_slot w p t ≡ has_name (defined_on w (ancestors w p)) (fold_case t)
  slot_is t =
      go (object_at w p) ∙ slots_above w house p way.0 way.1 (fold_case t)
      ∙ ap (λ us. has_name (defined_on w us) (fold_case t)) (sym (ancestors_of w p way.0 sound.numbers way.1))
    where
      go : (m : Option Object) → is_some (slot_of m t) ≡ is_some (named (slots_at m) (fold_case t))
      go None = refl
      go (Some x) = refl

  names_so : (ts : List Text) → list_any (has_slot w p) ts ≡ shares_name (map fold_case ts) (defined_on w (ancestors w p))
  names_so [] = refl
  names_so (t ∷ ts) = λ i. slot_is t i || names_so ts i

  each_so : (ds : List ℤ) → any_clashes w p ds ≡ any_of w shares ds
  each_so [] = refl
  each_so (d ∷ ds) = λ i. go (object_at w d) i || each_so ds i
    where
      go : (m : Option Object) → any_slot w p (option_map (λ x. x.defines) m) ≡ passes m shares
      go None = refl
      go (Some x) = names_so x.defines

  pub clashes_so : (o : ℤ) (ds : List ℤ) → IsFamily w o ds → any_clashes w p ds ≡ clashes w o p
  unfolding clashes
  clashes_so o ds all = each_so ds ∙ any_is w sound o ds all shares
