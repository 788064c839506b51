-- The change of one slot.
use Rattle.std.proofs.Common.{◌≡◌, ◌≢◌, true, false, List, Option, Some, None, refl, sym, ap, ◌∙◌, cond, nat_cmp, is_eq, Ordering, Less, Equal, Greater}
use Rattle.std.specs.Ordering.{eq_by_cmp}
use Rattle.std.specs.Cmp.{IsTotalOrder, int_cmp_total, tied_itself}
use Rattle.std.specs.Cmp.Lexicographic.{slice_cmp, nat_list_cmp_total}
use Rattle.std.specs.FinMap.{find, put, IsAntisymmetric, int_cmp-IsAntisymmetric, nat_cmp-IsAntisymmetric, slice_cmp-IsAntisymmetric}
use Rattle.std.specs.FinMap.Entries.{find-put}
use Rattle.spec_value.specs.Datum.{fold_case}
use Rattle.spec_world.specs.World.{Object, object_at}
use Rattle.spec_world.specs.Inherit.{slot_at, slot_of, put_slot, with_slot}
use Rattle.spec_world.specs.Laws.{SlotIsSet, OtherNamesStay, ObjectStays, OtherObjectsStay, WorldStays}

-- only equal keys tie
pub apart : {K : Type 0} {R : K → K → Ordering} → IsAntisymmetric R → (x y : K) → (x ≢ y) → eq_by_cmp R x y ≡ false
apart {R = R} same x y ne = go (R x y) refl
  where
    go : (r : Ordering) → R x y ≡ r → is_eq r ≡ false
    go Less e = refl
    go Equal e = absurd (ne (same x y e))
    go Greater e = refl

pub itself : {K : Type 0} {R : K → K → Ordering} → IsTotalOrder R → (x : K) → eq_by_cmp R x x ≡ true
itself o x = ap is_eq (tied_itself o x)

module _ {K X : Type 0} {R : K → K → Ordering} (o : IsTotalOrder R) where
  pub find-put_same : (k : K) (v : X) (es : List (K × X)) → find R k (put R k v es) ≡ Some v
  find-put_same k v es = find-put R o k k v es ∙ ap (λ b. cond b (Some v) (find R k es)) (itself o k)

  pub find-put_other : IsAntisymmetric R → (q k : K) (v : X) (es : List (K × X)) → (q ≢ k) → find R q (put R k v es) ≡ find R q es
  find-put_other same q k v es ne = find-put R o q k v es ∙ ap (λ b. cond b (Some v) (find R q es)) (apart same q k ne)

pub names_total : IsTotalOrder (slice_cmp nat_cmp)
names_total = nat_list_cmp_total

pub names_apart : IsAntisymmetric (slice_cmp nat_cmp)
names_apart = slice_cmp-IsAntisymmetric nat_cmp-IsAntisymmetric

pub object_stays : ObjectStays
unfolding with_slot
object_stays w o x p s is = ap (λ y. object_at (put_slot w o p s y) o) is ∙ find-put_same int_cmp_total o _ w.objects

pub slot_is_set : SlotIsSet
slot_is_set w o x p s is = ap (λ y. slot_of y p) (object_stays w o x p s is) ∙ find-put_same names_total (fold_case p) s x.slots

pub other_objects_stay : OtherObjectsStay
unfolding with_slot
other_objects_stay w o q p s ne = go (object_at w o)
  where
    go : (y : Option Object) → object_at (put_slot w o p s y) q ≡ object_at w q
    go None = refl
    go (Some x) = find-put_other int_cmp_total int_cmp-IsAntisymmetric q o _ w.objects (λ e. ne (sym e))

pub other_names_stay : OtherNamesStay
unfolding with_slot
other_names_stay w o p r s ne = go (object_at w o) refl
  where
    go : (y : Option Object) → object_at w o ≡ y → slot_at (put_slot w o p s y) o r ≡ slot_of y r
    go None is = ap (λ y. slot_of y r) is
    go (Some x) is =
        ap (λ y. slot_of y r) (find-put_same int_cmp_total o _ w.objects)
        ∙ find-put_other names_total names_apart (fold_case r) (fold_case p) s x.slots (λ e. ne (sym e))

pub world_stays : WorldStays
unfolding with_slot
world_stays w o p s = go (object_at w o)
  where
    go : (y : Option Object) → record (put_slot w o p s y) { objects = w.objects } ≡ w
    go None = refl
    go (Some x) = refl
