-- A whole part of an object that changes twice: the first change plays no part, also where others stand between.
use Rattle.std.proofs.Common.{◌≡◌, ◌≢◌, ◌∙◌, ℕ, zero, suc, ◌<◌, ℤ, Bool, true, false, not, ◌&&◌, ◌||◌, List, [], ◌∷◌, ◌++◌, map, length, drop, Option, Some, None, refl, sym, ap, arith, get_or, true≢false, ◌==◌, ◌+◌, if◌then◌else◌}
use Rattle.std.proofs.Math.ListN.{set}
use Rattle.std.specs.Ordering.{int_eq, ordering_reverse}
use Rattle.std.specs.declared.cmp.Ordering.{Ordering}
use Rattle.std.specs.declared.cmp.Ordering.TheVariants.{Less, Equal, Greater}
use Rattle.std.specs.Cmp.{int_cmp_total, IsTotalOrder}
use Rattle.std.specs.FinMap.{put, int_cmp-IsAntisymmetric}
use Rattle.std.specs.FinMap.Entries.{by_order}
use Rattle.std.proofs.lemmas.Bool.Decides.{Decides-int_eq}
use Rattle.std.proofs.lemmas.List.{drop_more, map-set}
use Rattle.spec_value.specs.Datum.{Datum, Text, fold_case}
use Rattle.spec_value.specs.Table.{Numbered, at, with, named, with_name}
use Rattle.spec_world.specs.World.{World, Object, Slot, object_at, with_object}
use Rattle.spec_world.specs.Inherit.{slot_of, put_slot, with_slot}
use Rattle.spec_world.specs.Families.{change_at, change_object}
use Rattle.spec_world.specs.Questions.{Part, put_part, Change, apply, apply_all, new_header, new_children, new_contents, new_defines, new_verbs, new_slot, new_part, new_value, new_object, new_task, new_link, new_greatest, new_ending, new_next, put_value, is_number}
use Rattle.spec_world.proofs.SlotChanges.{find-put_same, find-put_other, names_total, names_apart}
use Rattle.view.specs.Facets.{facet, is_of_facet, is_beside_facet, IsBesideValue, StandsBefore, DoesLast, TakesPlace}
use Rattle.view.specs.Writing.{Gives}
use Rattle.view.proofs.Again.{put_again, value_again, value_folded}

-- ---- tables

module _ {K : Type 0} {R : K → K → Ordering} (o : IsTotalOrder R) where
  turned : (k j : K) → R k j ≡ Less → R j k ≡ Greater
  turned k j e = o.antisymm j k ∙ ap ordering_reverse e

  back : (k j : K) → R k j ≡ Greater → R j k ≡ Less
  back k j e = o.antisymm j k ∙ ap ordering_reverse e

  below_tied : (k j e : K) → R k j ≡ Less → R j e ≡ Equal → R k e ≡ Less
  below_tied k j e less tied = o.antisymm k e ∙ ap ordering_reverse (sym (o.congr j e k tied) ∙ turned k j less)

module _ {K X : Type 0} {R : K → K → Ordering} (o : IsTotalOrder R) where
  -- two entries, the lesser one put last or first
  put_lesser : (k j : K) (x y : X) (es : List (K × X)) → R k j ≡ Less → put R k x (put R j y es) ≡ put R j y (put R k x es)
  put_lesser k j x y [] less =
      ap (λ r. by_order r ((k, x) ∷ (j, y) ∷ []) ((j, x) ∷ []) ((j, y) ∷ (k, x) ∷ [])) less
      ∙ sym (ap (λ r. by_order r ((j, y) ∷ (k, x) ∷ []) ((k, y) ∷ []) ((k, x) ∷ (j, y) ∷ [])) (turned o k j less))
  put_lesser k j x y (e ∷ es) less = go (put_lesser k j x y es less) (R j e.0) refl
    where
      -- the lesser one is put first of all
      first : R k e.0 ≡ Less → put R j y (put R k x (e ∷ es)) ≡ (k, x) ∷ put R j y (e ∷ es)
      first is =
          ap (λ r. put R j y (by_order r ((k, x) ∷ e ∷ es) ((e.0, x) ∷ es) (e ∷ put R k x es))) is
          ∙ ap (λ r. by_order r ((j, y) ∷ (k, x) ∷ e ∷ es) ((k, y) ∷ e ∷ es) ((k, x) ∷ put R j y (e ∷ es))) (turned o k j less)

      later : put R k x (put R j y es) ≡ put R j y (put R k x es) → R j e.0 ≡ Greater → (r : Ordering) → R k e.0 ≡ r
          → by_order r ((k, x) ∷ e ∷ put R j y es) ((e.0, x) ∷ put R j y es) (e ∷ put R k x (put R j y es)) ≡ put R j y (put R k x (e ∷ es))
      later rest more Less is = sym (first is ∙ ap (λ r. (k, x) ∷ by_order r ((j, y) ∷ e ∷ es) ((e.0, y) ∷ es) (e ∷ put R j y es)) more)
      later rest more Equal is =
          sym (ap (λ r. put R j y (by_order r ((k, x) ∷ e ∷ es) ((e.0, x) ∷ es) (e ∷ put R k x es))) is
          ∙ ap (λ r. by_order r ((j, y) ∷ (e.0, x) ∷ es) ((e.0, y) ∷ es) ((e.0, x) ∷ put R j y es)) more)
      later rest more Greater is =
          ap (λ fs. e ∷ fs) rest
          ∙ sym (ap (λ r. put R j y (by_order r ((k, x) ∷ e ∷ es) ((e.0, x) ∷ es) (e ∷ put R k x es))) is
          ∙ ap (λ r. by_order r ((j, y) ∷ e ∷ put R k x es) ((e.0, y) ∷ put R k x es) (e ∷ put R j y (put R k x es))) more)

      go : put R k x (put R j y es) ≡ put R j y (put R k x es) → (r : Ordering) → R j e.0 ≡ r
          → put R k x (by_order r ((j, y) ∷ e ∷ es) ((e.0, y) ∷ es) (e ∷ put R j y es)) ≡ put R j y (put R k x (e ∷ es))
      go rest Less is =
          ap (λ r. by_order r ((k, x) ∷ (j, y) ∷ e ∷ es) ((j, x) ∷ e ∷ es) ((j, y) ∷ put R k x (e ∷ es))) less
          ∙ sym (first (o.trans k j e.0 less is) ∙ ap (λ r. (k, x) ∷ by_order r ((j, y) ∷ e ∷ es) ((e.0, y) ∷ es) (e ∷ put R j y es)) is)
      go rest Equal is =
          ap (λ r. by_order r ((k, x) ∷ (e.0, y) ∷ es) ((e.0, x) ∷ es) ((e.0, y) ∷ put R k x es)) (below_tied o k j e.0 less is)
          ∙ sym (first (below_tied o k j e.0 less is) ∙ ap (λ r. (k, x) ∷ by_order r ((j, y) ∷ e ∷ es) ((e.0, y) ∷ es) (e ∷ put R j y es)) is)
      go rest Greater is = later rest is (R k e.0) refl

  -- entries of two keys, put in either order
  pub put_either : (k j : K) (x y : X) (es : List (K × X)) → (R k j ≢ Equal) → put R k x (put R j y es) ≡ put R j y (put R k x es)
  put_either k j x y es apart = go (R k j) refl
    where
      go : (r : Ordering) → R k j ≡ r → put R k x (put R j y es) ≡ put R j y (put R k x es)
      go Less is = put_lesser k j x y es is
      go Equal is = absurd (apart is)
      go Greater is = sym (put_lesser j k y x es (back o k j is))

-- ---- objects

-- two objects, put in either order
with_either : (w : World) (o q : ℤ) (x y : Object) → o ≢ q → with_object (with_object w o x) q y ≡ with_object (with_object w q y) o x
with_either w o q x y apart = ap (λ (os : List (ℤ × Object)). record w { objects = os }) (put_either int_cmp_total q o y x w.objects (λ e. apart (sym (int_cmp-IsAntisymmetric q o e))))

-- another object where one is put
other_at : (w : World) (o q : ℤ) (y : Object) → o ≢ q → object_at (with_object w q y) o ≡ object_at w o
other_at w o q y apart = find-put_other int_cmp_total int_cmp-IsAntisymmetric o q y w.objects apart

-- the change of an object and another object put
change_put : (w : World) (o q : ℤ) (f : Object → Object) (y : Object) → o ≢ q → change_object (with_object w q y) o f ≡ with_object (change_object w o f) q y
change_put w o q f y apart = ap (change_at (with_object w q y) o f) (other_at w o q y apart) ∙ go (object_at w o)
  where
    go : (m : Option Object) → change_at (with_object w q y) o f m ≡ with_object (change_at w o f m) q y
    go None = refl
    go (Some x) = sym (with_either w o q (f x) y apart)

-- what a change of another object leaves at a number
other_changed : (w : World) (o q : ℤ) (f : Object → Object) → o ≢ q → object_at (change_object w o f) q ≡ object_at w q
other_changed w o q f apart = go (object_at w o)
  where
    go : (m : Option Object) → object_at (change_at w o f m) q ≡ object_at w q
    go None = refl
    go (Some x) = other_at w q o (f x) (λ e. apart (sym e))

-- changes of two objects
change_either : (w : World) (o q : ℤ) (f g : Object → Object) → o ≢ q → change_object (change_object w o f) q g ≡ change_object (change_object w q g) o f
change_either w o q f g apart = ap (change_at (change_object w o f) q g) (other_changed w o q f apart) ∙ go (object_at w q) refl
  where
    go : (m : Option Object) → object_at w q ≡ m → change_at (change_object w o f) q g m ≡ change_object (change_object w q g) o f
    go None is = sym (ap (λ (n : Option Object). change_object (change_at w q g n) o f) is)
    go (Some y) is = sym (change_put w o q f (g y) apart) ∙ sym (ap (λ (n : Option Object). change_object (change_at w q g n) o f) is)

-- two changes of one object
change_twice : (w : World) (o : ℤ) (f g : Object → Object) → change_object (change_object w o f) o g ≡ change_object w o (λ x. g (f x))
change_twice w o f g = go (object_at w o) refl
  where
    go : (m : Option Object) → object_at w o ≡ m → change_object (change_at w o f m) o g ≡ change_at w o (λ x. g (f x)) m
    go None is = ap (change_at w o g) is
    go (Some x) is =
        ap (change_at (with_object w o (f x)) o g) (find-put_same int_cmp_total o (f x) w.objects)
        ∙ ap (λ (os : List (ℤ × Object)). record w { objects = os }) (put_again int_cmp_total o (f x) (g (f x)) w.objects)

-- alike changes of one object
change_alike : (w : World) (o : ℤ) (f g : Object → Object) → ((x : Object) → f x ≡ g x) → change_object w o f ≡ change_object w o g
change_alike w o f g same = go (object_at w o)
  where
    go : (m : Option Object) → change_at w o f m ≡ change_at w o g m
    go None = refl
    go (Some x) = ap (with_object w o) (same x)

-- ---- parts

-- the later one of two changes of the same whole part
later_part : (a b : Part) → (facet a == 5) ≡ false → (facet b == facet a) ≡ true → (x : Object) → put_part a (put_part b x) ≡ put_part a x
later_part (new_header h) (new_header g) whole e z = refl
later_part (new_header h) (new_children ps) whole e z = absurd (true≢false (sym e))
later_part (new_header h) (new_contents ps) whole e z = absurd (true≢false (sym e))
later_part (new_header h) (new_defines us) whole e z = absurd (true≢false (sym e))
later_part (new_header h) (new_verbs us) whole e z = absurd (true≢false (sym e))
later_part (new_header h) (new_slot r t) whole e z = absurd (true≢false (sym e))
later_part (new_children os) (new_header g) whole e z = absurd (true≢false (sym e))
later_part (new_children os) (new_children ps) whole e z = refl
later_part (new_children os) (new_contents ps) whole e z = absurd (true≢false (sym e))
later_part (new_children os) (new_defines us) whole e z = absurd (true≢false (sym e))
later_part (new_children os) (new_verbs us) whole e z = absurd (true≢false (sym e))
later_part (new_children os) (new_slot r t) whole e z = absurd (true≢false (sym e))
later_part (new_contents os) (new_header g) whole e z = absurd (true≢false (sym e))
later_part (new_contents os) (new_children ps) whole e z = absurd (true≢false (sym e))
later_part (new_contents os) (new_contents ps) whole e z = refl
later_part (new_contents os) (new_defines us) whole e z = absurd (true≢false (sym e))
later_part (new_contents os) (new_verbs us) whole e z = absurd (true≢false (sym e))
later_part (new_contents os) (new_slot r t) whole e z = absurd (true≢false (sym e))
later_part (new_defines ts) (new_header g) whole e z = absurd (true≢false (sym e))
later_part (new_defines ts) (new_children ps) whole e z = absurd (true≢false (sym e))
later_part (new_defines ts) (new_contents ps) whole e z = absurd (true≢false (sym e))
later_part (new_defines ts) (new_defines us) whole e z = refl
later_part (new_defines ts) (new_verbs us) whole e z = absurd (true≢false (sym e))
later_part (new_defines ts) (new_slot r t) whole e z = absurd (true≢false (sym e))
later_part (new_verbs vs) (new_header g) whole e z = absurd (true≢false (sym e))
later_part (new_verbs vs) (new_children ps) whole e z = absurd (true≢false (sym e))
later_part (new_verbs vs) (new_contents ps) whole e z = absurd (true≢false (sym e))
later_part (new_verbs vs) (new_defines us) whole e z = absurd (true≢false (sym e))
later_part (new_verbs vs) (new_verbs us) whole e z = refl
later_part (new_verbs vs) (new_slot r t) whole e z = absurd (true≢false (sym e))
later_part (new_slot p s) b whole e z = absurd (true≢false whole)

-- changes of two parts
either_part : (a b : Part) → (facet a == 5) ≡ false → (facet b == facet a) ≡ false → (x : Object) → put_part b (put_part a x) ≡ put_part a (put_part b x)
either_part (new_header h) (new_header g) whole e z = absurd (true≢false e)
either_part (new_header h) (new_children ps) whole e z = refl
either_part (new_header h) (new_contents ps) whole e z = refl
either_part (new_header h) (new_defines us) whole e z = refl
either_part (new_header h) (new_verbs us) whole e z = refl
either_part (new_header h) (new_slot r t) whole e z = refl
either_part (new_children os) (new_header g) whole e z = refl
either_part (new_children os) (new_children ps) whole e z = absurd (true≢false e)
either_part (new_children os) (new_contents ps) whole e z = refl
either_part (new_children os) (new_defines us) whole e z = refl
either_part (new_children os) (new_verbs us) whole e z = refl
either_part (new_children os) (new_slot r t) whole e z = refl
either_part (new_contents os) (new_header g) whole e z = refl
either_part (new_contents os) (new_children ps) whole e z = refl
either_part (new_contents os) (new_contents ps) whole e z = absurd (true≢false e)
either_part (new_contents os) (new_defines us) whole e z = refl
either_part (new_contents os) (new_verbs us) whole e z = refl
either_part (new_contents os) (new_slot r t) whole e z = refl
either_part (new_defines ts) (new_header g) whole e z = refl
either_part (new_defines ts) (new_children ps) whole e z = refl
either_part (new_defines ts) (new_contents ps) whole e z = refl
either_part (new_defines ts) (new_defines us) whole e z = absurd (true≢false e)
either_part (new_defines ts) (new_verbs us) whole e z = refl
either_part (new_defines ts) (new_slot r t) whole e z = refl
either_part (new_verbs vs) (new_header g) whole e z = refl
either_part (new_verbs vs) (new_children ps) whole e z = refl
either_part (new_verbs vs) (new_contents ps) whole e z = refl
either_part (new_verbs vs) (new_defines us) whole e z = refl
either_part (new_verbs vs) (new_verbs us) whole e z = absurd (true≢false e)
either_part (new_verbs vs) (new_slot r t) whole e z = refl
either_part (new_slot p s) b whole e z = absurd (true≢false whole)

-- ---- slots

abbrev valued : Object → Text → Datum → Slot → Object
valued x p v s = record x { slots = with_name x.slots (fold_case p) (record s { content = Some v }) }

abbrev by_slot : World → ℤ → Text → Datum → Object → Option Slot → World
by_slot w q p v x None = w
by_slot w q p v x (Some s) = with_object w q (valued x p v s)

abbrev by_found : World → ℤ → Text → Datum → Option Object → World
by_found w q p v None = w
by_found w q p v (Some x) = by_slot w q p v x (named x.slots (fold_case p))

-- a slot's change, by the object that was found
value_by : (w : World) (q : ℤ) (p : Text) (v : Datum) (m : Option Object) → object_at w q ≡ m → apply (new_value q p v) w ≡ by_found w q p v m
unfolding with_slot
value_by w q p v None is = ap (λ (y : Option Object). put_value w q p v (slot_of y p)) is
value_by w q p v (Some x) is = ap (λ (y : Option Object). put_value w q p v (slot_of y p)) is ∙ on_slot (named x.slots (fold_case p))
  where
    on_slot : (m : Option Slot) → put_value w q p v m ≡ by_slot w q p v x m
    on_slot None = refl
    on_slot (Some s) = ap (put_slot w q p (record s { content = Some v })) is

-- a whole part and a slot
slots_stay : (a : Part) → (facet a == 5) ≡ false → (x : Object) → (put_part a x).slots ≡ x.slots
slots_stay (new_header h) whole z = refl
slots_stay (new_children os) whole z = refl
slots_stay (new_contents os) whole z = refl
slots_stay (new_defines ts) whole z = refl
slots_stay (new_verbs vs) whole z = refl
slots_stay (new_slot p s) whole z = absurd (true≢false whole)

part_valued : (a : Part) → (facet a == 5) ≡ false → (x : Object) (p : Text) (v : Datum) (s : Slot) → put_part a (valued x p v s) ≡ valued (put_part a x) p v s
part_valued (new_header h) whole z q v s = refl
part_valued (new_children os) whole z q v s = refl
part_valued (new_contents os) whole z q v s = refl
part_valued (new_defines ts) whole z q v s = refl
part_valued (new_verbs vs) whole z q v s = refl
part_valued (new_slot p s) whole z q v t = absurd (true≢false whole)

other_value : (w : World) (o q : ℤ) (f : Object → Object) (p : Text) (v : Datum) → o ≢ q → apply (new_value q p v) (change_object w o f) ≡ change_object (apply (new_value q p v) w) o f
other_value w o q f p v apart = go (object_at w q) refl
  where
    with_it : (x : Object) (m : Option Slot) → by_slot (change_object w o f) q p v x m ≡ change_object (by_slot w q p v x m) o f
    with_it x None = refl
    with_it x (Some s) = sym (change_put w o q f (valued x p v s) apart)

    found : (m : Option Object) → by_found (change_object w o f) q p v m ≡ change_object (by_found w q p v m) o f
    found None = refl
    found (Some x) = with_it x (named x.slots (fold_case p))

    go : (m : Option Object) → object_at w q ≡ m → apply (new_value q p v) (change_object w o f) ≡ change_object (apply (new_value q p v) w) o f
    go m is =
        value_by (change_object w o f) q p v m (other_changed w o q f apart ∙ is)
        ∙ found m
        ∙ sym (ap (λ (u : World). change_object u o f) (value_by w q p v m is))

same_value : (w : World) (o : ℤ) (a : Part) (p : Text) (v : Datum) → (facet a == 5) ≡ false
    → apply (new_value o p v) (change_object w o (put_part a)) ≡ change_object (apply (new_value o p v) w) o (put_part a)
same_value w o a p v whole = go (object_at w o) refl
  where
    with_it : (x : Object) → object_at w o ≡ Some x → (m : Option Slot) → by_slot (with_object w o (put_part a x)) o p v (put_part a x) m ≡ change_object (by_slot w o p v x m) o (put_part a)
    with_it x is None = sym (ap (change_at w o (put_part a)) is)
    with_it x is (Some s) =
        ap (λ (os : List (ℤ × Object)). record w { objects = os }) (put_again int_cmp_total o (put_part a x) (valued (put_part a x) p v s) w.objects)
        ∙ ap (with_object w o) (sym (part_valued a whole x p v s))
        ∙ sym (ap (λ (os : List (ℤ × Object)). record w { objects = os }) (put_again int_cmp_total o (valued x p v s) (put_part a (valued x p v s)) w.objects))
        ∙ sym (ap (change_at (with_object w o (valued x p v s)) o (put_part a)) (find-put_same int_cmp_total o (valued x p v s) w.objects))

    go : (m : Option Object) → object_at w o ≡ m → apply (new_value o p v) (change_object w o (put_part a)) ≡ change_object (apply (new_value o p v) w) o (put_part a)
    go None is =
        let stays : change_object w o (put_part a) ≡ w = ap (change_at w o (put_part a)) is in
        ap (apply (new_value o p v)) stays ∙ value_by w o p v None is ∙ sym (ap (λ (u : World). change_object u o (put_part a)) (value_by w o p v None is) ∙ stays)
    go (Some x) is =
        let there : change_object w o (put_part a) ≡ with_object w o (put_part a x) = ap (change_at w o (put_part a)) is in
        ap (apply (new_value o p v)) there
        ∙ value_by (with_object w o (put_part a x)) o p v (Some (put_part a x)) (find-put_same int_cmp_total o (put_part a x) w.objects)
        ∙ ap (λ ss. by_slot (with_object w o (put_part a x)) o p v (put_part a x) (named ss (fold_case p))) (slots_stay a whole x)
        ∙ with_it x is (named x.slots (fold_case p))
        ∙ sym (ap (λ (u : World). change_object u o (put_part a)) (value_by w o p v (Some x) is))

-- ---- changes

-- the later one of two changes of the same whole part of an object
pub later_change : (o : ℤ) (a : Part) → (facet a == 5) ≡ false → (c : Change) → is_of_facet o (facet a) c ≡ true → (w : World) → apply (new_part o a) (apply c w) ≡ apply (new_part o a) w
later_change o a whole (new_part q b) e w = go (int_eq q o) refl (facet b == facet a) refl e
  where
    go : (s : Bool) → int_eq q o ≡ s → (t : Bool) → (facet b == facet a) ≡ t → (s && t) ≡ true → apply (new_part o a) (apply (new_part q b) w) ≡ apply (new_part o a) w
    go true same true alike is =
        ap (λ (n : ℤ). apply (new_part o a) (apply (new_part n b) w)) ((Decides-int_eq q o).0 same)
        ∙ change_twice w o (put_part b) (put_part a)
        ∙ change_alike w o (λ x. put_part a (put_part b x)) (put_part a) (later_part a b whole alike)
    go true same false alike is = absurd (true≢false (sym is))
    go false same t alike is = absurd (true≢false (sym is))
later_change o a whole (new_value q p v) e w = absurd (true≢false (sym e))
later_change o a whole (new_object q x) e w = absurd (true≢false (sym e))
later_change o a whole (new_task i t) e w = absurd (true≢false (sym e))
later_change o a whole (new_link c k) e w = absurd (true≢false (sym e))
later_change o a whole (new_greatest q) e w = absurd (true≢false (sym e))
later_change o a whole (new_ending b) e w = absurd (true≢false (sym e))
later_change o a whole (new_next n) e w = absurd (true≢false (sym e))

-- a number that is another one
another : (q o : ℤ) → int_eq q o ≡ false → o ≢ q
another q o e is = true≢false (sym ((Decides-int_eq q o).1 (sym is)) ∙ e)

-- what does not touch the objects
aside : (o : ℤ) (f : Object → Object) (g : World → World) → ((w : World) → (g w).objects ≡ w.objects) → ((w : World) (y : Object) → g (with_object w o y) ≡ with_object (g w) o y)
    → (w : World) → g (change_object w o f) ≡ change_object (g w) o f
aside o f g stays puts w = go (object_at w o) ∙ sym (ap (λ (os : Numbered Object). change_at (g w) o f (at os o)) (stays w))
  where
    go : (m : Option Object) → g (change_at w o f m) ≡ change_at (g w) o f m
    go None = refl
    go (Some x) = puts w (f x)

made_beside : (w : World) (o q : ℤ) (f : Object → Object) (y : Object) → o ≢ q → apply (new_object q (Some y)) (change_object w o f) ≡ change_object (apply (new_object q (Some y)) w) o f
made_beside w o q f y apart = go (is_number q)
  where
    made : World → Bool → World
    made u b = record u { objects = if b then with u.objects q y else u.objects }

    go : (b : Bool) → made (change_object w o f) b ≡ change_object (made w b) o f
    go true = sym (change_put w o q f y apart)
    go false = refl

-- a whole part of an object and a change beside it can be made in either order
pub beside : (o : ℤ) (a : Part) → (facet a == 5) ≡ false → (c : Change) → is_beside_facet o (facet a) c ≡ true → (w : World)
    → apply c (apply (new_part o a) w) ≡ apply (new_part o a) (apply c w)
beside o a whole (new_part q b) e w = go (int_eq q o) refl (facet b == facet a) refl e
  where
    go : (s : Bool) → int_eq q o ≡ s → (t : Bool) → (facet b == facet a) ≡ t → (not s || not t) ≡ true → apply (new_part q b) (apply (new_part o a) w) ≡ apply (new_part o a) (apply (new_part q b) w)
    go true same true alike is = absurd (true≢false (sym is))
    go true same false alike is =
        ap (λ (n : ℤ). apply (new_part n b) (apply (new_part o a) w)) ((Decides-int_eq q o).0 same)
        ∙ change_twice w o (put_part a) (put_part b)
        ∙ change_alike w o (λ x. put_part b (put_part a x)) (λ x. put_part a (put_part b x)) (either_part a b whole alike)
        ∙ sym (change_twice w o (put_part b) (put_part a))
        ∙ sym (ap (λ (n : ℤ). apply (new_part o a) (apply (new_part n b) w)) ((Decides-int_eq q o).0 same))
    go false same t alike is = change_either w o q (put_part a) (put_part b) (another q o same)
beside o a whole (new_value q p v) e w = go (int_eq q o) refl
  where
    go : (s : Bool) → int_eq q o ≡ s → apply (new_value q p v) (apply (new_part o a) w) ≡ apply (new_part o a) (apply (new_value q p v) w)
    go true same =
        ap (λ (n : ℤ). apply (new_value n p v) (apply (new_part o a) w)) ((Decides-int_eq q o).0 same)
        ∙ same_value w o a p v whole
        ∙ sym (ap (λ (n : ℤ). apply (new_part o a) (apply (new_value n p v) w)) ((Decides-int_eq q o).0 same))
    go false same = other_value w o q (put_part a) p v (another q o same)
beside o a whole (new_object q None) e w = go (int_eq q o) e
  where
    go : (s : Bool) → (not s && false) ≡ true → apply (new_object q None) (apply (new_part o a) w) ≡ apply (new_part o a) (apply (new_object q None) w)
    go true is = absurd (true≢false (sym is))
    go false is = absurd (true≢false (sym is))
beside o a whole (new_object q (Some y)) e w = go (int_eq q o) refl e
  where
    go : (s : Bool) → int_eq q o ≡ s → (not s && true) ≡ true → apply (new_object q (Some y)) (apply (new_part o a) w) ≡ apply (new_part o a) (apply (new_object q (Some y)) w)
    go true same is = absurd (true≢false (sym is))
    go false same is = made_beside w o q (put_part a) y (another q o same)
beside o a whole (new_task i t) e w = aside o (put_part a) (apply (new_task i t)) (λ u. refl) (λ u y. refl) w
beside o a whole (new_link c k) e w = aside o (put_part a) (apply (new_link c k)) (λ u. refl) (λ u y. refl) w
beside o a whole (new_greatest q) e w = aside o (put_part a) (apply (new_greatest q)) (λ u. refl) (λ u y. refl) w
beside o a whole (new_ending b) e w = aside o (put_part a) (apply (new_ending b)) (λ u. refl) (λ u y. refl) w
beside o a whole (new_next n) e w = aside o (put_part a) (apply (new_next n)) (λ u. refl) (λ u y. refl) w

-- ---- values

-- what leaves an object where it was and may be done before or after it is put can be done before or after a slot of it gets a value
past : (o : ℤ) (p : Text) (v : Datum) (g : World → World) → ((w : World) → object_at (g w) o ≡ object_at w o) → ((w : World) (y : Object) → g (with_object w o y) ≡ with_object (g w) o y)
    → (w : World) → g (apply (new_value o p v) w) ≡ apply (new_value o p v) (g w)
past o p v g finds puts w = go (object_at w o) refl
  where
    with_it : (x : Object) (m : Option Slot) → g (by_slot w o p v x m) ≡ by_slot (g w) o p v x m
    with_it x None = refl
    with_it x (Some s) = puts w (valued x p v s)

    found : (m : Option Object) → g (by_found w o p v m) ≡ by_found (g w) o p v m
    found None = refl
    found (Some x) = with_it x (named x.slots (fold_case p))

    go : (m : Option Object) → object_at w o ≡ m → g (apply (new_value o p v) w) ≡ apply (new_value o p v) (g w)
    go m is = ap g (value_by w o p v m is) ∙ found m ∙ sym (value_by (g w) o p v m (finds w ∙ is))

-- values in slots of two objects
value_found : (w : World) (o q : ℤ) (r : Text) (u : Datum) → o ≢ q → object_at (apply (new_value q r u) w) o ≡ object_at w o
value_found w o q r u apart = ap (λ (v : World). object_at v o) (value_by w q r u (object_at w q) refl) ∙ found (object_at w q)
  where
    with_it : (x : Object) (m : Option Slot) → object_at (by_slot w q r u x m) o ≡ object_at w o
    with_it x None = refl
    with_it x (Some s) = other_at w o q (valued x r u s) apart

    found : (m : Option Object) → object_at (by_found w q r u m) o ≡ object_at w o
    found None = refl
    found (Some x) = with_it x (named x.slots (fold_case r))

value_put : (o q : ℤ) (r : Text) (u : Datum) → o ≢ q → (w : World) (y : Object) → apply (new_value q r u) (with_object w o y) ≡ with_object (apply (new_value q r u) w) o y
value_put o q r u apart w y = sym (past q r u (λ (v : World). with_object v o y) (λ v. other_at v q o y (λ e. apart (sym e))) (λ v z. with_either v q o z y (λ e. apart (sym e))) w)

two_objects : (o q : ℤ) (p r : Text) (v u : Datum) → o ≢ q → (w : World) → apply (new_value q r u) (apply (new_value o p v) w) ≡ apply (new_value o p v) (apply (new_value q r u) w)
two_objects o q p r v u apart w = past o p v (apply (new_value q r u)) (λ x. value_found x o q r u apart) (value_put o q r u apart) w

-- values in two slots of one object
module _ (w : World) (o : ℤ) (x : Object) (is : object_at w o ≡ Some x) where
  stepped : (p r : Text) (v u : Datum) (s : Slot) (m : Option Slot) → fold_case r ≢ fold_case p → named x.slots (fold_case p) ≡ Some s → named x.slots (fold_case r) ≡ m
      → apply (new_value o r u) (apply (new_value o p v) w) ≡ by_slot (with_object w o (valued x p v s)) o r u (valued x p v s) m
  stepped p r v u s m apart there that =
      ap (apply (new_value o r u)) (value_by w o p v (Some x) is ∙ ap (by_slot w o p v x) there)
      ∙ value_by (with_object w o (valued x p v s)) o r u (Some (valued x p v s)) (find-put_same int_cmp_total o (valued x p v s) w.objects)
      ∙ ap (by_slot (with_object w o (valued x p v s)) o r u (valued x p v s)) (find-put_other names_total names_apart (fold_case r) (fold_case p) (record s { content = Some v }) x.slots apart ∙ that)

  -- a slot that is not there plays no part
  nothing : (p r : Text) (v u : Datum) (m : Option Slot) → fold_case r ≢ fold_case p → named x.slots (fold_case r) ≡ None → named x.slots (fold_case p) ≡ m
      → apply (new_value o r u) (apply (new_value o p v) w) ≡ apply (new_value o p v) (apply (new_value o r u) w)
  nothing p r v u (Some s) apart gone there =
      stepped p r v u s None apart there gone
      ∙ sym (value_by w o p v (Some x) is ∙ ap (by_slot w o p v x) there)
      ∙ sym (ap (apply (new_value o p v)) (value_by w o r u (Some x) is ∙ ap (by_slot w o r u x) gone))
  nothing p r v u None apart gone there =
      let first : apply (new_value o p v) w ≡ w = value_by w o p v (Some x) is ∙ ap (by_slot w o p v x) there in
      let second : apply (new_value o r u) w ≡ w = value_by w o r u (Some x) is ∙ ap (by_slot w o r u x) gone in
      ap (apply (new_value o r u)) first ∙ second ∙ sym (ap (apply (new_value o p v)) second ∙ first)

  both_there : (p r : Text) (v u : Datum) (s t : Slot) → fold_case r ≢ fold_case p → named x.slots (fold_case p) ≡ Some s → named x.slots (fold_case r) ≡ Some t
      → apply (new_value o r u) (apply (new_value o p v) w) ≡ apply (new_value o p v) (apply (new_value o r u) w)
  both_there p r v u s t apart there that =
      stepped p r v u s (Some t) apart there that
      ∙ ap (λ (os : List (ℤ × Object)). record w { objects = os }) (put_again int_cmp_total o (valued x p v s) (valued (valued x p v s) r u t) w.objects)
      ∙ ap (λ (ss : List (Text × Slot)). with_object w o (record x { slots = ss }))
      (put_either names_total (fold_case r) (fold_case p) (record t { content = Some u }) (record s { content = Some v }) x.slots (λ e. apart (names_apart (fold_case r) (fold_case p) e)))
      ∙ sym (ap (λ (os : List (ℤ × Object)). record w { objects = os }) (put_again int_cmp_total o (valued x r u t) (valued (valued x r u t) p v s) w.objects))
      ∙ sym (stepped r p u v t (Some s) (λ e. apart (sym e)) that there)

  two_names : (p r : Text) (v u : Datum) → fold_case r ≢ fold_case p → apply (new_value o r u) (apply (new_value o p v) w) ≡ apply (new_value o p v) (apply (new_value o r u) w)
  two_names p r v u apart = go (named x.slots (fold_case p)) refl (named x.slots (fold_case r)) refl
    where
      go : (m : Option Slot) → named x.slots (fold_case p) ≡ m → (n : Option Slot) → named x.slots (fold_case r) ≡ n
          → apply (new_value o r u) (apply (new_value o p v) w) ≡ apply (new_value o p v) (apply (new_value o r u) w)
      go m there None gone = nothing p r v u m apart gone there
      go None gone (Some t) that = sym (nothing r p u v (Some t) (λ e. apart (sym e)) gone that)
      go (Some s) there (Some t) that = both_there p r v u s t apart there that

two_slots : (o : ℤ) (p r : Text) (v u : Datum) → fold_case r ≢ fold_case p → (w : World) → apply (new_value o r u) (apply (new_value o p v) w) ≡ apply (new_value o p v) (apply (new_value o r u) w)
two_slots o p r v u apart w = go (object_at w o) refl
  where
    go : (m : Option Object) → object_at w o ≡ m → apply (new_value o r u) (apply (new_value o p v) w) ≡ apply (new_value o p v) (apply (new_value o r u) w)
    go None is =
        let first : apply (new_value o p v) w ≡ w = value_by w o p v None is in
        let second : apply (new_value o r u) w ≡ w = value_by w o r u None is in
        ap (apply (new_value o r u)) first ∙ second ∙ sym (ap (apply (new_value o p v)) second ∙ first)
    go (Some x) is = two_names w o x is p r v u apart

-- the later one of two values of one slot
pub later_value : (o : ℤ) (p : Text) (c : Change) → Gives o p c → (v : Datum) (w : World) → apply (new_value o p v) (apply c w) ≡ apply (new_value o p v) w
later_value o p c g v w =
    ap (λ (k : Change). apply (new_value o p v) (apply k w)) g.is
    ∙ sym (value_folded (apply (new_value o g.spelled g.value) w) o g.spelled p v g.same)
    ∙ value_again w o g.spelled g.value v
    ∙ value_folded w o g.spelled p v g.same

made_put : (o q : ℤ) (y : Object) → o ≢ q → (w : World) (z : Object) → apply (new_object q (Some y)) (with_object w o z) ≡ with_object (apply (new_object q (Some y)) w) o z
made_put o q y apart w z = go (is_number q)
  where
    made : World → Bool → World
    made u b = record u { objects = if b then with u.objects q y else u.objects }

    go : (b : Bool) → made (with_object w o z) b ≡ with_object (made w b) o z
    go true = with_either w o q z y apart
    go false = refl

made_found : (o q : ℤ) (y : Object) → o ≢ q → (w : World) → object_at (apply (new_object q (Some y)) w) o ≡ object_at w o
made_found o q y apart w = go (is_number q)
  where
    go : (b : Bool) → at (if b then with w.objects q y else w.objects) o ≡ object_at w o
    go true = other_at w o q y apart
    go false = refl

-- a value of a slot and a change beside it can be made in either order
pub beside_value : (o : ℤ) (p : Text) (v : Datum) (c : Change) → IsBesideValue o p c → (w : World) → apply c (apply (new_value o p v) w) ≡ apply (new_value o p v) (apply c w)
beside_value o p v (new_part q a) h w = go (int_eq q o) refl
  where
    go : (b : Bool) → int_eq q o ≡ b → apply (new_part q a) (apply (new_value o p v) w) ≡ apply (new_value o p v) (apply (new_part q a) w)
    go true same =
        let number : q ≡ o = (Decides-int_eq q o).0 same in
        ap (λ (n : ℤ). apply (new_part n a) (apply (new_value o p v) w)) number
        ∙ sym (same_value w o a p v (h number))
        ∙ sym (ap (λ (n : ℤ). apply (new_value o p v) (apply (new_part n a) w)) number)
    go false same = sym (other_value w q o (put_part a) p v (λ e. another q o same (sym e)))
beside_value o p v (new_value q r u) h w = go (int_eq q o) refl
  where
    go : (b : Bool) → int_eq q o ≡ b → apply (new_value q r u) (apply (new_value o p v) w) ≡ apply (new_value o p v) (apply (new_value q r u) w)
    go true same =
        let number : q ≡ o = (Decides-int_eq q o).0 same in
        ap (λ (n : ℤ). apply (new_value n r u) (apply (new_value o p v) w)) number
        ∙ two_slots o p r v u (h number) w
        ∙ sym (ap (λ (n : ℤ). apply (new_value o p v) (apply (new_value n r u) w)) number)
    go false same = two_objects o q p r v u (another q o same) w
beside_value o p v (new_object q None) h w = absurd (true≢false (sym h.1))
beside_value o p v (new_object q (Some y)) h w =
    past o p v (apply (new_object q (Some y))) (made_found o q y (λ e. h.0 (sym e))) (made_put o q y (λ e. h.0 (sym e))) w
beside_value o p v (new_task i t) h w = past o p v (apply (new_task i t)) (λ u. refl) (λ u y. refl) w
beside_value o p v (new_link c k) h w = past o p v (apply (new_link c k)) (λ u. refl) (λ u y. refl) w
beside_value o p v (new_greatest q) h w = past o p v (apply (new_greatest q)) (λ u. refl) (λ u y. refl) w
beside_value o p v (new_ending b) h w = past o p v (apply (new_ending b)) (λ u. refl) (λ u y. refl) w
beside_value o p v (new_next n) h w = past o p v (apply (new_next n)) (λ u. refl) (λ u y. refl) w

-- ---- lists of changes

-- one change more that it may stand before
pub before_more : {X : Type 0} (f : X → Change) (c : Change) (xs : List X) (n : ℕ) (x : X) → n < length xs → x ≡ get_or xs n x
    → ((w : World) → apply (f x) (apply c w) ≡ apply c (apply (f x) w)) → StandsBefore c (map f (drop (n + 1) xs)) → StandsBefore c (map f (drop n xs))
before_more f c xs n x within is crosses rest w =
    let more : drop n xs ≡ x ∷ drop (n + 1) xs = drop_more xs n x within ∙ ap (λ y. y ∷ drop (n + 1) xs) (sym is) in
    ap (λ ys. apply_all (map f ys) (apply c w)) more
    ∙ ap (apply_all (map f (drop (n + 1) xs))) (crosses w)
    ∙ rest (apply (f x) w)
    ∙ sym (ap (λ ys. apply c (apply_all (map f ys) w)) more)

-- the place of one that it makes vain
pub takes_place : {X : Type 0} (f : X → Change) (c : Change) (xs : List X) (n : ℕ) (x : X) → n < length xs → x ≡ get_or xs n x
    → ((w : World) → apply c (apply (f x) w) ≡ apply c w) → StandsBefore c (map f (drop (suc n) xs)) → TakesPlace c n (map f xs)
takes_place f c [] n x within is vain rest w = absurd (omega (arith, within))
takes_place f c (y ∷ ys) zero x within is vain rest w =
    ap (apply_all (map f ys)) (sym (vain w))
    ∙ rest (apply (f x) w)
    ∙ ap (λ z. apply c (apply_all (map f ys) (apply (f z) w))) is
takes_place f c (y ∷ ys) (suc n) x within is vain rest w = takes_place f c ys n x (omega (arith, within)) is vain rest (apply (f y) w)

pub pushed_last : (c : Change) (cs : List Change) → DoesLast c cs (cs ++ c ∷ [])
pushed_last c [] w = refl
pushed_last c (d ∷ cs) w = pushed_last c cs (apply d w)

pub placed_last : {X : Type 0} (f : X → Change) (c : Change) (xs : List X) (n : ℕ) (y : X) → f y ≡ c → TakesPlace c n (map f xs) → DoesLast c (map f xs) (map f (set xs n y))
placed_last f c xs n y is takes w = ap (λ (cs : List Change). apply_all cs w) (map-set f xs n y ∙ ap (set (map f xs) n) is) ∙ takes w
