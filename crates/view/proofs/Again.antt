-- A slot that gets a value twice: the first one plays no part.
use Rattle.std.proofs.Common.{◌≡◌, ◌∙◌, ℕ, zero, suc, ◌-◌, ◌<◌, ℤ, Bool, true, List, [], ◌∷◌, map, length, Option, Some, None, refl, sym, ap, subst, arith, get_or}
use Rattle.std.proofs.Math.ListN.{set}
use Rattle.std.proofs.lemmas.List.{map-set}
use Rattle.std.specs.Prelude.{Result, Ok, Err, IfOk, slice_get}
use Rattle.std.specs.declared.cmp.Ordering.{Ordering}
use Rattle.std.specs.declared.cmp.Ordering.TheVariants.{Less, Equal, Greater}
use Rattle.std.specs.Cmp.{int_cmp_total, IsTotalOrder, tied_itself}
use Rattle.std.specs.Cmp.Lexicographic.{nat_list_cmp_total}
use Rattle.std.specs.FinMap.{put}
use Rattle.std.specs.FinMap.Entries.{by_order}
use Rattle.spec_value.specs.Datum.{Datum, Text, fold_case}
use Rattle.spec_value.specs.Table.{named, with_name}
use Rattle.spec_world.specs.World.{World, Object, Slot, object_at, with_object}
use Rattle.spec_world.specs.Inherit.{slot_of, put_slot, with_slot}
use Rattle.spec_world.specs.Questions.{Change, apply, new_value, put_value}
use Rattle.spec_world.proofs.SlotChanges.{find-put_same}
use Rattle.view.specs.Writing.{Gives, GoesFurther, IsRenewed, IsRevalued, AreRevalued}

-- ---- tables

pub put_again : {K X : Type 0} {R : K → K → Ordering} → IsTotalOrder R → (k : K) (x y : X) (es : List (K × X)) → put R k y (put R k x es) ≡ put R k y es
put_again {R = R} o k x y [] = ap (λ r. by_order r ((k, y) ∷ (k, x) ∷ []) ((k, y) ∷ []) ((k, x) ∷ (k, y) ∷ [])) (tied_itself o k)
put_again {R = R} o k x y (e ∷ es) = go (put_again o k x y es) (R k e.0) refl
  where
    go : put R k y (put R k x es) ≡ put R k y es → (r : Ordering) → R k e.0 ≡ r
        → put R k y (by_order r ((k, x) ∷ e ∷ es) ((e.0, x) ∷ es) (e ∷ put R k x es)) ≡ by_order r ((k, y) ∷ e ∷ es) ((e.0, y) ∷ es) (e ∷ put R k y es)
    go later Less is = ap (λ r. by_order r ((k, y) ∷ (k, x) ∷ e ∷ es) ((k, y) ∷ e ∷ es) ((k, x) ∷ put R k y (e ∷ es))) (tied_itself o k)
    go later Equal is = ap (λ r. by_order r ((k, y) ∷ (e.0, x) ∷ es) ((e.0, y) ∷ es) ((e.0, x) ∷ put R k y es)) is
    go later Greater is = ap (λ r. by_order r ((k, y) ∷ e ∷ put R k x es) ((e.0, y) ∷ put R k x es) (e ∷ put R k y (put R k x es))) is ∙ ap (λ fs. e ∷ fs) later

-- ---- slots

abbrev valued : Object → Text → Datum → Slot → Object
valued x p v s = record x { slots = with_name x.slots (fold_case p) (record s { content = Some v }) }

-- the object that has the slot, by the object that was there
on_object : (w : World) (o : ℤ) (p : Text) (v : Datum) (x : Object) → object_at w o ≡ Some x → apply (new_value o p v) w ≡ put_value w o p v (named x.slots (fold_case p))
on_object w o p v x is = ap (λ (y : Option Object). put_value w o p v (slot_of y p)) is

in_slot : (w : World) (o : ℤ) (p : Text) (v : Datum) (x : Object) (s : Slot) → object_at w o ≡ Some x → named x.slots (fold_case p) ≡ Some s → apply (new_value o p v) w ≡ with_object w o (valued x p v s)
unfolding with_slot
in_slot w o p v x s is there = on_object w o p v x is ∙ ap (put_value w o p v) there ∙ ap (put_slot w o p (record s { content = Some v })) is

pub value_again : (w : World) (o : ℤ) (p : Text) (u v : Datum) → apply (new_value o p v) (apply (new_value o p u) w) ≡ apply (new_value o p v) w
value_again w o p u v = by_object (object_at w o) refl
  where
    with_it : (x : Object) (s : Slot) → object_at w o ≡ Some x → named x.slots (fold_case p) ≡ Some s → apply (new_value o p v) (apply (new_value o p u) w) ≡ apply (new_value o p v) w
    with_it x s is there =
        let y : Object = valued x p u s in
        let t : Slot = record s { content = Some u } in
        let first : apply (new_value o p u) w ≡ with_object w o y = in_slot w o p u x s is there in
        let again : object_at (with_object w o y) o ≡ Some y = find-put_same int_cmp_total o y w.objects in
        let found : named y.slots (fold_case p) ≡ Some t = find-put_same nat_list_cmp_total (fold_case p) t x.slots in
        ap (apply (new_value o p v)) first
        ∙ in_slot (with_object w o y) o p v y t again found
        ∙ ap (λ (ss : List (Text × Slot)). with_object (with_object w o y) o (record x { slots = ss })) (put_again nat_list_cmp_total (fold_case p) t (record s { content = Some v }) x.slots)
        ∙ ap (λ (os : List (ℤ × Object)). record w { objects = os }) (put_again int_cmp_total o y (valued x p v s) w.objects)
        ∙ sym (in_slot w o p v x s is there)

    by_slot : (x : Object) → object_at w o ≡ Some x → (m : Option Slot) → named x.slots (fold_case p) ≡ m → apply (new_value o p v) (apply (new_value o p u) w) ≡ apply (new_value o p v) w
    by_slot x is None gone = ap (apply (new_value o p v)) (on_object w o p u x is ∙ ap (put_value w o p u) gone)
    by_slot x is (Some s) there = with_it x s is there

    by_object : (m : Option Object) → object_at w o ≡ m → apply (new_value o p v) (apply (new_value o p u) w) ≡ apply (new_value o p v) w
    by_object None is = ap (apply (new_value o p v)) (ap (λ (y : Option Object). put_value w o p u (slot_of y p)) is)
    by_object (Some x) is = by_slot x is (named x.slots (fold_case p)) refl

-- names count by their letters alone
pub value_folded : (w : World) (o : ℤ) (p q : Text) (v : Datum) → fold_case p ≡ fold_case q → apply (new_value o p v) w ≡ apply (new_value o q v) w
unfolding with_slot
value_folded w o p q v same = go (object_at w o) refl
  where
    by_key : Text → Option Object → Option Slot → World
    by_key k None s = w
    by_key k (Some x) None = w
    by_key k (Some x) (Some s) = with_object w o (record x { slots = with_name x.slots k (record s { content = Some v }) })

    keyed : Option Object → Text → World
    keyed None k = w
    keyed (Some x) k = by_key k (Some x) (named x.slots k)

    on_slot : (r : Text) (x : Object) → object_at w o ≡ Some x → (m : Option Slot) → put_value w o r v m ≡ by_key (fold_case r) (Some x) m
    on_slot r x is None = refl
    on_slot r x is (Some s) = ap (put_slot w o r (record s { content = Some v })) is

    is_keyed : (r : Text) (m : Option Object) → object_at w o ≡ m → apply (new_value o r v) w ≡ keyed m (fold_case r)
    is_keyed r None is = ap (λ (y : Option Object). put_value w o r v (slot_of y r)) is
    is_keyed r (Some x) is = on_object w o r v x is ∙ on_slot r x is (named x.slots (fold_case r))

    go : (m : Option Object) → object_at w o ≡ m → apply (new_value o p v) w ≡ apply (new_value o q v) w
    go m is = is_keyed p m is ∙ ap (keyed m) same ∙ sym (is_keyed q m is)

-- ---- changes

pub renews : (o : ℤ) (p : Text) (v : Datum) (c d : Change) → Gives o p c → ((q : ℤ) (r : Text) (u : Datum) → c ≡ new_value q r u → d ≡ new_value q r v) → IsRenewed o p v c d
renews o p v c d g becomes = record { spelled = g.spelled; before = g.value; same = g.same; was = g.is; is = becomes o g.spelled g.value g.is }

-- a renewed change does what it did and the new one
pub renewed : (o : ℤ) (p : Text) (v : Datum) (c d : Change) → IsRenewed o p v c d → (w : World) → apply d w ≡ apply (new_value o p v) (apply c w)
renewed o p v c d r w =
    ap (λ (k : Change). apply k w) r.is
    ∙ sym (value_again w o r.spelled r.before v)
    ∙ value_folded (apply (new_value o r.spelled r.before) w) o r.spelled p v r.same
    ∙ ap (λ (k : Change). apply (new_value o p v) (apply k w)) (sym r.was)

pub renewed_last : {X : Type 0} (f : X → Change) (o : ℤ) (p : Text) (v : Datum) (xs : List X) (n : ℕ) (x y : X) → length xs ≡ suc n → x ≡ get_or xs n x → IsRenewed o p v (f x) (f y)
    → GoesFurther o p v (map f xs) (map f (set xs n y))
renewed_last f o p v [] n x y count is r w = absurd (omega (arith, count))
renewed_last f o p v (z ∷ []) zero x y count is r w = renewed o p v (f x) (f y) r w ∙ ap (λ t. apply (new_value o p v) (apply (f t) w)) is
renewed_last f o p v (z ∷ []) (suc n) x y count is r w = absurd (omega (arith, count))
renewed_last f o p v (z ∷ u ∷ xs) zero x y count is r w = absurd (omega (arith, count))
renewed_last f o p v (z ∷ u ∷ xs) (suc n) x y count is r w = renewed_last f o p v (u ∷ xs) n x y (omega (arith, count)) is r (apply (f z) w)

-- where the last change is renewed, all of them go further
pub renewed_so : {X E : Type 0} (f : X → Change) (o : ℤ) (p : Text) (v : Datum) (olds : List Change) (xs : List X) (n : ℕ) (x y : X) (r : Result Bool E) → map f xs ≡ olds → length xs ≡ suc (n - 1)
    → x ≡ get_or xs (n - 1) x → IfOk r (λ b. b ≡ true → IsRenewed o p v (f x) (f y)) → IfOk r (λ b. b ≡ true → GoesFurther o p v olds (map f (set xs (n - 1) y)))
renewed_so f o p v olds xs n x y (Err e) are count is h = tt
renewed_so f o p v olds xs n x y (Ok b) are count is h = λ so.
    subst (λ (cs : List Change). GoesFurther o p v cs (map f (set xs (n - 1) y))) are (renewed_last f o p v xs (n - 1) x y count is (h so))

there_mapped : {X : Type 0} (f : X → Change) (xs : List X) (n : ℕ) (x : X) → n < length xs → x ≡ get_or xs n x → slice_get (map f xs) n ≡ Some (f x)
there_mapped f [] n x within is = absurd (omega (arith, within))
there_mapped f (y ∷ ys) zero x within is = ap (λ z. Some (f z)) (sym is)
there_mapped f (y ∷ ys) (suc n) x within is = there_mapped f ys n x (omega (arith, within)) is

-- where the change at a place gives its slot another value
pub revalued_so : {X : Type 0} (f : X → Change) (v : Datum) (olds : List Change) (xs : List X) (n : ℕ) (x y : X) → map f xs ≡ olds → n < length xs → x ≡ get_or xs n x → IsRevalued v (f x) (f y)
    → AreRevalued v n olds (map f (set xs n y))
revalued_so f v olds xs n x y are within is r =
    record {
      before = f x;
      after = f y;
      there = sym (ap (λ (cs : List Change). slice_get cs n) are) ∙ there_mapped f xs n x within is;
      revalued = r;
      is = map-set f xs n y ∙ ap (λ (cs : List Change). set cs n (f y)) are;
    }
