-- What a change does to a world's objects.
use Rattle.std.proofs.Common.{◌≡◌, ℤ, Option, Some, None, Ok, Err, IsTrue, is_some, refl, sym, ◌∙◌, ap, option_map}
use Rattle.std.specs.Prelude.{Result, IfOk, MatchOption}
use Rattle.spec_value.specs.Datum.{Datum, Text, fold_case}
use Rattle.spec_value.specs.Table.{Numbered, with, named, with_name}
use Rattle.spec_world.specs.World.{World, Object, Slot, object_at, with_object}
use Rattle.spec_world.specs.Inherit.{slot_of, put_slot, with_slot}
use Rattle.spec_world.specs.Families.{change_at, change_object}
use Rattle.spec_world.specs.Questions.{apply, new_value, put_value}
use Rattle.view.specs.Writing.{MayWrite, IsRewritten}
use Rattle.world.specs.Revised.{RevisesRecord, revalued}

-- one object changes, if it is there
pub no_object_there : (w : World) (o : ℤ) (f : Object → Object) → None ≡ object_at w o → change_object w o f ≡ w
no_object_there w o f e = ap (change_at w o f) (sym e)

pub object_there : (w : World) (o : ℤ) (f : Object → Object) (x : Object) → Some x ≡ object_at w o → change_object w o f ≡ with_object w o (f x)
object_there w o f x e = ap (change_at w o f) (sym e)

pub is_there : (w : World) (o : ℤ) (x : Object) → Some x ≡ object_at w o → IsTrue (is_some (object_at w o))
is_there w o x e = ap is_some (sym e)

-- nothing changes on an object that is not there
pub no_object_changes : (w : World) (o : ℤ) (p : Text) (v : Datum) → object_at w o ≡ None → apply (new_value o p v) w ≡ w
no_object_changes w o p v e = ap (λ (x : Option Object). put_value w o p v (slot_of x p)) e

-- nor on an object without that slot
none_mapped : {A B : Type 0} (f : A → B) (s : Option A) → None ≡ option_map f s → s ≡ None
none_mapped f None e = refl
none_mapped f (Some s) e = cc

pub no_slot_changes : (w : World) (o : ℤ) (p : Text) (v : Datum) (x : Object) → object_at w o ≡ Some x → None ≡ revalued x p v → apply (new_value o p v) w ≡ w
no_slot_changes w o p v x e none =
    ap (λ (y : Option Object). put_value w o p v (slot_of y p)) e ∙ ap (put_value w o p v) (none_mapped _ (named x.slots (fold_case p)) none)

put_on : (w : World) (o : ℤ) (p : Text) (v : Datum) (x y : Object) (s : Option Slot) → object_at w o ≡ Some x
    → Some y ≡ option_map (λ t. record x { slots = with_name x.slots (fold_case p) (record t { content = Some v }) }) s → put_value w o p v s ≡ with_object w o y
unfolding with_slot
put_on w o p v x y None e is = cc
put_on w o p v x y (Some s) e is =
    ap (put_slot w o p (record s { content = Some v })) e ∙ ap (λ (z : Option Object). with_object w o (some_or x z)) (sym is)
  where
    some_or : Object → Option Object → Object
    some_or d None = d
    some_or d (Some z) = z

-- else that object changes alone
pub object_changes : (w : World) (o : ℤ) (p : Text) (v : Datum) (x y : Object) → object_at w o ≡ Some x → Some y ≡ revalued x p v → apply (new_value o p v) w ≡ with_object w o y
object_changes w o p v x y e is = ap (λ (z : Option Object). put_value w o p v (slot_of z p)) e ∙ put_on w o p v x y (named x.slots (fold_case p)) e is

-- either nothing changes, or that object alone
one_change : (w : World) (o : ℤ) (p : Text) (v : Datum) (x : Object) (y : Option Object) → object_at w o ≡ Some x → y ≡ revalued x p v
    → MatchOption y (apply (new_value o p v) w ≡ w) (λ z. IsTrue (is_some (object_at w o)) × (apply (new_value o p v) w ≡ with_object w o z))
one_change w o p v x None is e = no_slot_changes w o p v x is e
one_change w o p v x (Some y) is e = (ap is_some is, object_changes w o p v x y is e)

pub changed_one : {E : Type 0} (w : World) (o : ℤ) (p : Text) (v : Datum) (x : Object) (r : Result (Option Object) E) → object_at w o ≡ Some x → IfOk r (λ y. y ≡ revalued x p v)
    → IfOk r (λ y. MatchOption y (apply (new_value o p v) w ≡ w) (λ z. IsTrue (is_some (object_at w o)) × (apply (new_value o p v) w ≡ with_object w o z)))
changed_one w o p v x (Ok y) is e = one_change w o p v x y is e
changed_one w o p v x (Err e) is h = tt

-- ---- an object that was changed where it lies

pub value_revised : (w : World) (o : ℤ) (p : Text) (v : Datum) (after : Numbered Object) → RevisesRecord (λ x y. Some y ≡ revalued x p v) o w.objects after
    → record w { objects = after } ≡ apply (new_value o p v) w
value_revised w o p v after r = ap (λ (os : Numbered Object). record w { objects = os }) r.records ∙ sym (object_changes w o p v r.before r.after r.found r.made)

-- a value that a programmer wrote
pub value_written : (w : World) (who o : ℤ) (p : Text) (v : Datum) (after : Numbered Object) → RevisesRecord (IsRewritten who p v) o w.objects after
    → MayWrite who o p w × (record w { objects = after } ≡ apply (new_value o p v) w)
value_written w who o p v after r = (
  record { slot = r.made.slot; there = ap (λ (x : Option Object). slot_of x p) r.found ∙ r.made.there; allowed = r.made.allowed },
  value_revised w o p v after (record { before = r.before; after = r.after; found = r.found; made = r.made.object; records = r.records }),
)

pub part_revised : (w : World) (o : ℤ) (f : Object → Object) (after : Numbered Object) → RevisesRecord (λ x y. y ≡ f x) o w.objects after
    → record w { objects = after } ≡ change_object w o f
part_revised w o f after r =
    ap (λ (os : Numbered Object). record w { objects = os }) (r.records ∙ ap (with w.objects o) r.made) ∙ sym (object_there w o f r.before (sym r.found))
