-- What is known of slots where a world's objects agree.
use Rattle.std.proofs.Common.{◌≡◌, ℤ, Some, sym, ap, ◌∙◌, subst, IsTrue, is_some}
use Rattle.spec_value.specs.Datum.{Text, fold_case}
use Rattle.spec_world.specs.World.{World, Object, Slot, object_at}
use Rattle.spec_world.specs.Inherit.{slot_of, slot_at, content_of}
use Rattle.spec_world.specs.Agreeing.{ObjectsAgree}
use Rattle.spec_world.specs.ObjectLaws.{Defines}
use Rattle.spec_world.proofs.Trees.{path_from}
use Rattle.spec_world.proofs.WorldTrees.{parents}
use Rattle.spec_world.proofs.Households.{household}

-- a slot is filled where its property is defined
pub filled_slot : (w : World) (o : ℤ) (p : Text) (x : Object) (t : Slot) → ObjectsAgree w → object_at w o ≡ Some x → slot_at w o p ≡ Some t
    → Defines x p → IsTrue (is_some t.content)
filled_slot w o p x t h is found defined =
    let house = household w h in let way = path_from (parents w) house.family o in
    subst (λ m. IsTrue (is_some (content_of m))) (sym (ap (λ y. slot_of y p) is) ∙ found) ((house.own o x way.0 is way.1).filled (fold_case p) defined)
