-- Slots that come and go with a property, and whether one below an object defines it.
use Rattle.std.proofs.Common.{◌≡◌, ℤ, false, not, ◌||◌, List, [], ◌∷◌, ◌++◌, filter, Option, Some, None, refl, sym, ap, ◌∙◌, cond, Result, Ok, Err, OnOk, nat_cmp, Ordering, Less, Equal, Greater}
use Rattle.std.specs.Prelude.{option_map}
use Rattle.std.specs.Ordering.{int_eq}
use Rattle.std.specs.Cmp.{tied_itself}
use Rattle.std.specs.Cmp.Lexicographic.{slice_cmp}
use Rattle.std.specs.FinMap.Entries.{by_order}
use Rattle.spec_value.specs.Datum.{Text, fold_case, same_text}
use Rattle.spec_value.specs.Table.{Named, with_name}
use Rattle.spec_value.proofs.Same.{integer_itself}
use Rattle.spec_world.specs.World.{World, Header, Object, Slot, object_at, with_object}
use Rattle.spec_world.specs.Inherit.{with_slot, put_slot}
use Rattle.spec_world.specs.WellFormed.{passes}
use Rattle.spec_world.specs.Agreeing.{ObjectsAgree}
use Rattle.spec_world.specs.Families.{change_at, change_object, heir_slot}
use Rattle.spec_world.specs.Members.{property_added, property_deleted, with_own_slot}
use Rattle.spec_world.specs.Questions.{header_at, defines_at}
use Rattle.spec_world.proofs.SlotChanges.{names_total}
use Rattle.spec_world.proofs.Trees.{some_same}
use Rattle.spec_moo.specs.Natives.Properties.{defines_it, defined_below}
use Rattle.view.specs.Law.{Goes, Tells}
use Rattle.rules.specs.Below.{IsFamily}
use Rattle.rules.proofs.Anyone.{any_of, any_is}
use Rattle.rules.specs.Losing.{losing}
use Rattle.builtins_view.specs.Slots.{slot_for, getting, among_names, any_defines}
use Rattle.builtins_view.proofs.OneChange.{family_changed}

-- ---- to lose a slot, or to get one, twice

put_twice : (k : Text) (s : Slot) (es : Named Slot) → with_name (with_name es k s) k s ≡ with_name es k s
put_twice k s [] = ap (λ r. by_order r ((k, s) ∷ (k, s) ∷ []) ((k, s) ∷ []) ((k, s) ∷ with_name [] k s)) (tied_itself names_total k)
put_twice k s (e ∷ es) = go (put_twice k s es) (slice_cmp nat_cmp k e.0) refl
  where
    go : with_name (with_name es k s) k s ≡ with_name es k s → (r : Ordering) → slice_cmp nat_cmp k e.0 ≡ r
        → with_name (by_order r ((k, s) ∷ e ∷ es) ((e.0, s) ∷ es) (e ∷ with_name es k s)) k s ≡ by_order r ((k, s) ∷ e ∷ es) ((e.0, s) ∷ es) (e ∷ with_name es k s)
    go rest Less is = ap (λ r. by_order r ((k, s) ∷ (k, s) ∷ e ∷ es) ((k, s) ∷ e ∷ es) ((k, s) ∷ with_name (e ∷ es) k s)) (tied_itself names_total k)
    go rest Equal is = ap (λ r. by_order r ((k, s) ∷ (e.0, s) ∷ es) ((e.0, s) ∷ es) ((e.0, s) ∷ with_name es k s)) is
    go rest Greater is =
        ap (λ r. by_order r ((k, s) ∷ e ∷ with_name es k s) ((e.0, s) ∷ with_name es k s) (e ∷ with_name (with_name es k s) k s)) is ∙ ap (λ fs. e ∷ fs) rest

pub getting_again : (o : ℤ) (p : Text) (s : Slot) (d : ℤ) (x : Object) → getting o p s d (getting o p s d x) ≡ getting o p s d x
getting_again o p s d x = ap (λ ss. record x { slots = ss }) (put_twice (fold_case p) (slot_for o s d x.header.owner) x.slots)

-- ---- what the definitions say

pub deleted_is : (w : World) (o : ℤ) (p : Text)
    → family_changed w o (filter (λ q. not (same_text (fold_case p) (fold_case q)))) (losing p o) (losing p) ≡ property_deleted w o p
unfolding property_deleted
deleted_is w o p = refl

abbrev pub own : Text → Slot → Object → Object
own p s x = with_own_slot x p s

abbrev pub heir : Text → Slot → ℤ → Object → Object
heir p s d x = with_own_slot x p (heir_slot x.header.owner s)

pub added_is : (w : World) (o : ℤ) (p : Text) (s : Slot) → family_changed w o (λ ts. ts ++ p ∷ []) (own p s) (heir p s) ≡ property_added w o p s
unfolding property_added
added_is w o p s = refl

pub own_first : (o : ℤ) (p : Text) (s : Slot) (x : Object) → getting o p s o x ≡ own p s x
own_first o p s x = ap (λ b. with_own_slot x p (cond b s (heir_slot x.header.owner s))) (integer_itself o)

pub heirs_else : (o : ℤ) (p : Text) (s : Slot) (d : ℤ) (x : Object) → int_eq d o ≡ false → getting o p s d x ≡ heir p s d x
heirs_else o p s d x e = ap (λ b. with_own_slot x p (cond b s (heir_slot x.header.owner s))) e

-- ---- one object, over a view

got_slot : (w : World) (o : ℤ) (p : Text) (s : Slot) (d : ℤ) (h : Header) → header_at w d ≡ Some h → with_slot w d p (slot_for o s d h.owner) ≡ change_object w d (getting o p s d)
unfolding with_slot
got_slot w o p s d h = go (object_at w d)
  where
    go : (m : Option Object) → option_map (λ x. x.header) m ≡ Some h → put_slot w d p (slot_for o s d h.owner) m ≡ change_at w d (getting o p s d) m
    go None e = cc
    go (Some x) e = ap (λ (k : Header). with_object w d (with_own_slot x p (slot_for o s d k.owner))) (sym (some_same e))

pub got_told : {V A E : Type 0} (holds : V → World → Type 0) (now : V → World → World) (a b c : V) (r : Result A E) (o : ℤ) (p : Text) (s : Slot) (d : ℤ) (h : Header)
    → Tells holds now a b (λ w. header_at w d ≡ Some h) → OnOk r (Goes holds now b c (λ before after. after ≡ with_slot before d p (slot_for o s d h.owner)))
    → OnOk r (Goes holds now a c (λ before after. after ≡ change_object before d (getting o p s d)))
got_told holds now a b c (Err e) o p s d h asked told = tt
got_told holds now a b c (Ok x) o p s d h asked told = λ w left.
    let t = told w left in
    let u = asked w t.0 in
    (u.0, t.1 ∙ ap (λ v. with_slot v d p (slot_for o s d h.owner)) u.1.0 ∙ got_slot (now a w) o p s d h u.1.1)

pub nothing_there : (w : World) (f : Object → Object) (d : ℤ) → header_at w d ≡ None → w ≡ change_object w d f
nothing_there w f d = go (object_at w d)
  where
    go : (m : Option Object) → option_map (λ x. x.header) m ≡ None → w ≡ change_at w d f m
    go None e = refl
    go (Some x) e = cc

-- ---- definers below an object

any_defines_is : (w : World) (p : Text) (ds : List ℤ) → any_defines w p ds ≡ any_of w (λ x. defines_it x p) ds
any_defines_is w p [] = refl
any_defines_is w p (d ∷ ds) = λ i. go (object_at w d) i || any_defines_is w p ds i
  where
    go : (m : Option Object) → among_names (option_map (λ x. x.defines) m) p ≡ passes m (λ x. defines_it x p)
    go None = refl
    go (Some x) = refl

pub defined_is : (w : World) → ObjectsAgree w → (o : ℤ) (p : Text) (ds : List ℤ) → IsFamily w o ds → any_defines w p ds ≡ defined_below w o p
defined_is w sound o p ds all = any_defines_is w p ds ∙ any_is w sound o ds all (λ x. defines_it x p)

-- ---- the whole change, over a view

module _ {V A E : Type 0} (holds : V → World → Type 0) (now : V → World → World) (old new : V) where
  as_meant : (r : Result A E) (o : ℤ) (ds : List ℤ) (ts : List Text) (f g : World → World) → ((w : World) → f w ≡ g w)
      → OnOk r (Goes holds now old new (λ before after. ObjectsAgree before → IsFamily before o ds → defines_at before o ≡ Some ts → after ≡ f before))
      → OnOk r (Goes holds now old new (λ before after. ObjectsAgree before → IsFamily before o ds → defines_at before o ≡ Some ts → after ≡ g before))
  as_meant (Err e) o ds ts f g same told = tt
  as_meant (Ok x) o ds ts f g same told = λ w left. let t = told w left in (t.0, λ sound family is. t.1 sound family is ∙ same (now old w))

  pub deleted_told : (r : Result A E) (o : ℤ) (ds : List ℤ) (ts : List Text) (p : Text)
      → OnOk r (Goes holds now old new (λ before after. ObjectsAgree before → IsFamily before o ds → defines_at before o ≡ Some ts
      → after ≡ family_changed before o (filter (λ q. not (same_text (fold_case p) (fold_case q)))) (losing p o) (losing p)))
      → OnOk r (Goes holds now old new (λ before after. ObjectsAgree before → IsFamily before o ds → defines_at before o ≡ Some ts → after ≡ property_deleted before o p))
  deleted_told r o ds ts p told = as_meant r o ds ts _ (λ w. property_deleted w o p) (λ w. deleted_is w o p) told

  pub added_told : (r : Result A E) (o : ℤ) (ds : List ℤ) (ts : List Text) (p : Text) (s : Slot)
      → OnOk r (Goes holds now old new (λ before after. ObjectsAgree before → IsFamily before o ds → defines_at before o ≡ Some ts → after ≡ family_changed before o (λ us. us ++ p ∷ []) (own p s) (heir p s)))
      → OnOk r (Goes holds now old new (λ before after. ObjectsAgree before → IsFamily before o ds → defines_at before o ≡ Some ts → after ≡ property_added before o p s))
  added_told r o ds ts p s told = as_meant r o ds ts _ (λ w. property_added w o p s) (λ w. added_is w o p s) told
