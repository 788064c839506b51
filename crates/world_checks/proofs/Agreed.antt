-- Objects that each agree with their neighbours agree.
use Rattle.std.proofs.Common.{◌≡◌, ◌⊎◌, inl, inr, ◌<◌, ◌≤◌, ℤ, pos, negsuc, List, ℕ, Option, Some, None, refl, sym, ap, subst, IsTrue, map, All, ◌&&◌, is_some, is_none, leb-true, arith}
use Rattle.std.proofs.lemmas.Bool.{lt-ltb}
use Rattle.std.specs.Prelude.{neg_ℤ, int_le}
use Rattle.std.specs.Ordering.{int_cmp}
use Rattle.std.specs.List.{list_all}
use Rattle.std.specs.List.Sorted.{IsStrictlySortedBy}
use Rattle.spec_world.specs.World.{World, Object, object_at}
use Rattle.spec_world.specs.Inherit.{slot_of, content_of}
use Rattle.spec_world.specs.WellFormed.{OfEachObject, lists, once, number_fits, has_no_cycle, definers_filled}
use Rattle.spec_world.specs.Agreeing.{ObjectsAgree}
use Rattle.spec_world.specs.Locally.{slots_follow}
use Rattle.spec_world.proofs.Locally.{ranks_tell, parents_tell}
use Rattle.spec_value.proofs.Entries.{first_holds, second_holds, both_hold}
use Rattle.world_checks.specs.Marks.{mark_of, may_mark}
use Rattle.world_checks.specs.Guessed.{IsDepth, AllMarked, AllListed, Ranked}
use Rattle.world_checks.proofs.Numbered.{numbered_from, numbers_rise, of_each, is_listed}
use Rattle.world_checks.specs.Ways.{up_of, AgreesAlong, ObjectAgrees}
use Rattle.spec_value.specs.Datum.{fold_case}
use Rattle.spec_value.specs.Table.{named}
use Rattle.world_checks.specs.declared.object_checks.way.Way.{Way}
use Rattle.world_checks.specs.declared.object_checks.way.Way.TheVariants.{Parent, Location}

module _ (w : World) (family whereabouts : List ℕ × List ℕ) (each : (o : ℤ) (x : Object) → object_at w o ≡ Some x → ObjectAgrees family whereabouts w o x) where
  numbers : OfEachObject w number_fits
  numbers o x e = (each o x e).number

  parents_end : OfEachObject w has_no_cycle
  parents_end = (ranks_tell w (up_of Parent) numbers).1 (mark_of family, λ o x e. (each o x e).along_parent.falls)

  follow : OfEachObject w slots_follow
  follow o x e = (each o x e).follow

  definers : OfEachObject w definers_filled
  definers o x e = subst (λ y. IsTrue (list_all (λ t. is_some (content_of (slot_of y t))) x.defines)) (sym e) (each o x e).filled

  all_agree : IsStrictlySortedBy int_cmp (map (λ e. e.0) w.objects) → IsTrue (int_le (neg_ℤ (pos 1)) w.greatest && int_le w.greatest (pos 999999)) → ObjectsAgree w
  all_agree rise range =
      let names = (parents_tell w numbers parents_end).1 follow in
      record {
        objects_in_order = numbered_from w.objects rise;
        greatest_in_range = range;
        numbers = numbers;
        parents_end = parents_end;
        locations_end = (ranks_tell w (up_of Location) numbers).1 (mark_of whereabouts, λ o x e. (each o x e).along_location.falls);
        children = λ o x e. let along = (each o x e).along_parent in both_hold (once x.children) _ along.single along.below;
        parents = λ o x e. (each o x e).along_parent.above;
        contents = λ o x e. let along = (each o x e).along_location in both_hold (once x.contents) _ along.single along.below;
        locations = λ o x e. (each o x e).along_location.above;
        names_on_a_line = names.0;
        slot_order = λ o x e. (each o x e).order;
        slots = names.1;
        definers = definers;
      }

-- ---- and the other way round, where ranks are depths

marked_number : (o g : ℤ) → IsTrue (int_le (pos 0) o && int_le o g) → IsTrue (int_le g (pos 999999)) → IsTrue (may_mark o)
marked_number (pos o) (pos g) h k =
    let within : o ≤ g = leb-true o g (second_holds (int_le (pos 0) (pos o)) _ h) in
    let most : g ≤ 999999 = leb-true g 999999 k in
    lt-ltb o 1048576 (omega (arith, within, most))
marked_number (pos o) (negsuc g) h k = absurd (cc (second_holds (int_le (pos 0) (pos o)) (int_le (pos o) (negsuc g)) h))
marked_number (negsuc o) g h k = absurd (cc (first_holds (int_le (pos 0) (negsuc o)) (int_le (negsuc o) g) h))

pub all_may_be_marked : (w : World) → ObjectsAgree w → AllMarked w
all_may_be_marked w a o x e = marked_number o w.greatest (a.numbers o x e) (second_holds (int_le (neg_ℤ (pos 1)) w.greatest) _ a.greatest_in_range)

pub objects_rise : (w : World) (numbers : List ℤ) → ObjectsAgree w → numbers ≡ map (λ e. e.0) w.objects → IsStrictlySortedBy int_cmp numbers
objects_rise w listed a are = subst (λ (os : List ℤ). IsStrictlySortedBy int_cmp os) (sym are) (numbers_rise w.objects a.objects_in_order)

pub all_are_listed : (w : World) (numbers : List ℤ) → numbers ≡ map (λ e. e.0) w.objects → AllListed w numbers
all_are_listed w listed are o x e = subst (λ (os : List ℤ). IsTrue (lists os o)) (sym are) (is_listed w.objects o x e)

falls_so : (way : Way) (w : World) (depth : ℤ → ℕ) (m : List ℕ × List ℕ) → IsDepth way w depth → Ranked depth w m → (o : ℤ) (x : Object) → object_at w o ≡ Some x
    → IsTrue (is_none (object_at w (up_of way x))) ⊎ (mark_of m (up_of way x) < mark_of m o)
falls_so way w depth m deep ranked o x e = go (object_at w (up_of way x)) refl
  where
    go : (y : Option Object) → object_at w (up_of way x) ≡ y → IsTrue (is_none (object_at w (up_of way x))) ⊎ (mark_of m (up_of way x) < mark_of m o)
    go None f = inl (ap is_none f)
    go (Some y) f =
        let here = ranked o x e in
        let there = ranked (up_of way x) y f in
        let more = deep.one_more o x e in
        inr (omega (arith, here, there, more))

pub object_agrees : (w : World) → ObjectsAgree w → (family whereabouts : List ℕ × List ℕ) (up along : ℤ → ℕ) → IsDepth Parent w up → IsDepth Location w along
    → Ranked up w family → Ranked along w whereabouts → (o : ℤ) (x : Object) → object_at w o ≡ Some x → ObjectAgrees family whereabouts w o x
object_agrees w a family whereabouts up along deep far ranked placed o x e =
    record {
      number = a.numbers o x e;
      along_parent = record {
        falls = falls_so Parent w up family deep ranked o x e;
        single = first_holds (once x.children) _ (a.children o x e);
        below = second_holds (once x.children) _ (a.children o x e);
        above = a.parents o x e;
      };
      along_location = record {
        falls = falls_so Location w along whereabouts far placed o x e;
        single = first_holds (once x.contents) _ (a.contents o x e);
        below = second_holds (once x.contents) _ (a.contents o x e);
        above = a.locations o x e;
      };
      order = a.slot_order o x e;
      filled = subst (λ y. IsTrue (list_all (λ t. is_some (content_of (slot_of y t))) x.defines)) e (a.definers o x e);
      follow = (parents_tell w a.numbers a.parents_end).0 (a.names_on_a_line, a.slots) o x e;
    }

-- ---- what an object agrees on

module _ (family whereabouts : List ℕ × List ℕ) (w : World) (o : ℤ) (x : Object) where
  pub number_of : ObjectAgrees family whereabouts w o x → IsTrue (number_fits w o x)
  number_of h = h.number

  pub parent_of : ObjectAgrees family whereabouts w o x → AgreesAlong Parent family w o x
  parent_of h = h.along_parent

  pub location_of : ObjectAgrees family whereabouts w o x → AgreesAlong Location whereabouts w o x
  location_of h = h.along_location

  pub filled_of : ObjectAgrees family whereabouts w o x → IsTrue (list_all (λ t. is_some (content_of (named x.slots (fold_case t)))) x.defines)
  filled_of h = h.filled

  pub follow_of : ObjectAgrees family whereabouts w o x → IsTrue (slots_follow w o x)
  follow_of h = h.follow

-- ---- all of a list

abbrev pub AgreesThere : List ℕ × List ℕ → List ℕ × List ℕ → World → ℤ → Type 0
AgreesThere family whereabouts w o = (x : Object) → object_at w o ≡ Some x → ObjectAgrees family whereabouts w o x

pub objects_agree : (w : World) (family whereabouts : List ℕ × List ℕ) (numbers : List ℤ) → numbers ≡ map (λ e. e.0) w.objects → IsStrictlySortedBy int_cmp numbers
    → IsTrue (int_le (neg_ℤ (pos 1)) w.greatest && int_le w.greatest (pos 999999)) → All (AgreesThere family whereabouts w) numbers → ObjectsAgree w
objects_agree w family whereabouts listed are rise range all =
    all_agree w family whereabouts
    (λ o x e. of_each (AgreesThere family whereabouts w) w.objects (subst (λ (os : List ℤ). All (AgreesThere family whereabouts w) os) are all) o x e x e)
    (subst (λ (os : List ℤ). IsStrictlySortedBy int_cmp os) are rise) range
