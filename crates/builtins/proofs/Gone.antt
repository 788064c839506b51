-- An object goes, call by call.
use Rattle.std.proofs.Common.{◌≡◌, ℕ, suc, ◌+◌, ◌<◌, ℤ, pos, List, ◌∷◌, length, get_or, drop, Option, Some, None, Result, Ok, Err, OnOk, refl, sym, ap, ◌∙◌, subst, arith}
use Rattle.std.proofs.Math.Seq.{drop-cons}
use Rattle.std.specs.Prelude.{option_map}
use Rattle.std.specs.Ordering.{int_eq}
use Rattle.spec_value.proofs.Same.{integer_itself}
use Rattle.spec_world.specs.World.{World, Header, Object, object_at}
use Rattle.spec_world.specs.Families.{parent_of, reparented, reparented_each, to_nowhere, lose_child, out_of_place, recycled_object, recycled}
use Rattle.spec_world.proofs.WorldsKept.{IsNobodys, reparented_rest, reparented_players}
use Rattle.spec_world.proofs.Trees.{some_same, first_of}
use Rattle.spec_world.proofs.WorldTrees.{object_there}
use Rattle.spec_world.proofs.Households.{Household, household, objects_agree}
use Rattle.spec_world.proofs.Recycling.{child_household, fewer_children}
use Rattle.spec_world.specs.Questions.{header_at, children_at, contents_at, apply, new_object}
use Rattle.rules.specs.Lines.{AreAgreeing}
use Rattle.rules.specs.Standing.{IsStanding}
use Rattle.rules.proofs.InheritStanding.{objects_stand}
use Rattle.rules.proofs.ObjectsStand.{recycled_stands}
use Rattle.rules.specs.Below.{IsFamily}
use Rattle.view.specs.Law.{Goes, Tells}
use Rattle.builtins.specs.Going.{HasChildren, forgotten}

-- ---- one child goes

module _ (w : World) (sound : IsStanding w) (o p c : ℤ) (cs : List ℤ) (has : HasChildren w o p (c ∷ cs)) where
  house : Household w
  house = household w sound.objects

  pub child_of : parent_of (object_at w c) ≡ o
  child_of =
      let y = house.family.below o (p, c ∷ cs) c has (first_of (int_eq c c) _ (integer_itself c)) in
      let x = object_there (λ z. z.header.parent) (λ z. z.children) w c y.0 y.1 in
      ap parent_of x.1 ∙ sym (ap (λ (n : ℤ × List ℤ). n.0) x.2) ∙ y.2

  pub raised_well : IsStanding (reparented w c p)
  raised_well = objects_stand w (reparented w c p) sound (objects_agree (reparented w c p) (child_household w o p c cs house has)) (reparented_rest w c p) (reparented_players w c p)

  pub raised_has : HasChildren (reparented w c p) o p cs
  raised_has = fewer_children w o p c cs house has

-- ---- what was read of it

has_all : (m : Option Object) (h : Header) (cs ds : List ℤ) → option_map (λ x. x.header) m ≡ Some h → option_map (λ x. x.children) m ≡ Some cs → option_map (λ x. x.contents) m ≡ Some ds
    → (x : Object) × (m ≡ Some x) × (x.header ≡ h) × (x.children ≡ cs) × (x.contents ≡ ds)
has_all None h cs ds a b c = cc
has_all (Some x) h cs ds a b c = (x, refl, some_same a, some_same b, some_same c)

module _ {V : Type 0} (holds : V → World → Type 0) (now : V → World → World) (o : ℤ) (h : Header) (cs : List ℤ) (a b c : V) where
  -- it has these children
  pub known_children : Tells holds now a b (λ w. header_at w o ≡ Some h) → Tells holds now b c (λ w. children_at w o ≡ Some cs) → (d : V) (P : World → Type 0) → Tells holds now c d P
      → (w : World) → holds d w → HasChildren (now d w) o h.parent cs
  known_children first second d P third w left =
      let t = third w left in
      let u = second w t.0 in
      let v = first w u.0 in
      subst (λ y. HasChildren y o h.parent cs) (sym (t.1.0 ∙ u.1.0 ∙ v.1.0)) (go (object_at (now a w) o) v.1.1 (subst (λ y. children_at y o ≡ Some cs) v.1.0 u.1.1))
    where
      go : (m : Option Object) → option_map (λ x. x.header) m ≡ Some h → option_map (λ x. x.children) m ≡ Some cs → option_map {U = ℤ × List ℤ} (λ x. (x.header.parent, x.children)) m ≡ Some (h.parent, cs)
      go None e f = cc
      go (Some x) e f = λ i. Some ((some_same e i).parent, some_same f i)

  pub gone_told : {A E : Type 0} (d e f g : V) (r : Result A E) (ds : List ℤ) → Tells holds now a b (λ w. header_at w o ≡ Some h) → Tells holds now b c (λ w. children_at w o ≡ Some cs)
      → Tells holds now c d (λ w. contents_at w o ≡ Some ds) → Goes holds now d e (λ was is. is ≡ reparented_each was cs h.parent) → Goes holds now e f (λ was is. is ≡ to_nowhere was ds)
      → OnOk r (Goes holds now f g (λ was is. is ≡ forgotten was o h.parent h.location)) → OnOk r (Goes holds now a g (λ was is. is ≡ recycled was o))
  unfolding recycled
  gone_told d e f g (Err x) ds first second third raised emptied forgot = tt
  gone_told d e f g (Ok x) ds first second third raised emptied forgot = λ w left.
      let q = forgot w left in
      let r = emptied w q.0 in
      let s = raised w r.0 in
      let t = third w s.0 in
      let u = second w t.0 in
      let v = first w u.0 in
      let all : now d w ≡ now a w = t.1.0 ∙ u.1.0 ∙ v.1.0 in
      let m = has_all (object_at (now a w) o) h cs ds v.1.1 (subst (λ y. children_at y o ≡ Some cs) v.1.0 u.1.1) (subst (λ y. contents_at y o ≡ Some ds) (u.1.0 ∙ v.1.0) t.1.1) in (
        v.0,
        q.1 ∙ ap (λ y. forgotten y o h.parent h.location) (r.1 ∙ ap (λ y. to_nowhere y ds) (s.1 ∙ ap (λ y. reparented_each y cs h.parent) all))
            ∙ (λ i. forgotten (to_nowhere (reparented_each (now a w) (sym m.3 i) (sym m.2 i).parent) (sym m.4 i)) o (sym m.2 i).parent (sym m.2 i).location)
            ∙ ap (recycled_object (now a w) o) (sym m.1),
      )

-- it is not there
pub absent_told : {X V : Type 0} (get : Object → X) (holds : V → World → Type 0) (now : V → World → World) (a b : V) (o : ℤ) → Tells holds now a b (λ w. option_map get (object_at w o) ≡ None)
    → Goes holds now a b (λ was is. is ≡ recycled was o)
unfolding recycled
absent_told get holds now a b o told w left = let t = told w left in (t.0, t.1.0 ∙ go (object_at (now a w) o) t.1.1)
  where
    go : (m : Option Object) → option_map get m ≡ None → now a w ≡ recycled_object (now a w) o m
    go None e = refl
    go (Some x) e = cc

-- it is there, and so are its children and its contents
pub never_told : {X V : Type 0} (get : Object → X) (holds : V → World → Type 0) (now : V → World → World) (a b c : V) (o : ℤ) (h : Header) → Tells holds now a b (λ w. header_at w o ≡ Some h)
    → Tells holds now b c (λ w. option_map get (object_at w o) ≡ None) → Goes holds now a c (λ was is. is ≡ recycled was o)
never_told get holds now a b c o h first second w left =
    let u = second w left in
    let t = first w u.0 in
    absurd (go (object_at (now a w) o) t.1.1 (subst (λ y. option_map get (object_at y o) ≡ None) t.1.0 u.1.1))
  where
    go : (m : Option Object) → option_map (λ x. x.header) m ≡ Some h → option_map get m ≡ None → ⊥
    go None e f = cc
    go (Some x) e f = cc

-- its parent and its place forget it, and it is gone
pub forgot_told : {V A E : Type 0} (holds : V → World → Type 0) (now : V → World → World) (a b c d : V) (r : Result A E) (o parent place : ℤ)
    → Goes holds now a b (λ was is. is ≡ lose_child was parent o) → Goes holds now b c (λ was is. is ≡ out_of_place was place o)
    → OnOk r (Goes holds now c d (λ was is. is ≡ apply (new_object o None) was)) → OnOk r (Goes holds now a d (λ was is. is ≡ forgotten was o parent place))
forgot_told holds now a b c d (Err x) o parent place first second third = tt
forgot_told holds now a b c d (Ok x) o parent place first second third = λ w left.
    let t = third w left in
    let u = second w t.0 in
    let v = first w u.0 in
    (v.0, t.1 ∙ ap (apply (new_object o None)) (u.1 ∙ ap (λ y. out_of_place y place o) v.1))

-- those that are left agree, if it was no link's person
pub gone_well : {V A E : Type 0} (holds : V → World → Type 0) (now : V → World → World) (a b : V) (r : Result A E) (o : ℤ) → OnOk r (Goes holds now a b (λ was is. is ≡ recycled was o))
    → AreAgreeing holds now a → ((w : World) → holds a w → IsNobodys (now a w) o) → OnOk r (AreAgreeing holds now b)
gone_well holds now a b (Err x) o told known free = tt
gone_well holds now a b (Ok x) o told known free = λ w left. let t = told w left in subst IsStanding (sym t.1) (recycled_stands (now a w) o (known w t.0) (free w t.0))

-- ---- the children that are left

next : (cs : List ℤ) (i : ℕ) → i < length cs → drop i cs ≡ get_or cs i (pos 0) ∷ drop (i + 1) cs
next cs i h = let e : suc i ≡ i + 1 = omega arith in drop-cons cs i (pos 0) h ∙ ap (λ j. get_or cs i (pos 0) ∷ drop j cs) e

pub has_next : {V : Type 0} (holds : V → World → Type 0) (now : V → World → World) (a : V) (o p : ℤ) (cs : List ℤ) (i : ℕ) → i < length cs
    → ((w : World) → holds a w → HasChildren (now a w) o p (drop i cs)) → (w : World) → holds a w → HasChildren (now a w) o p (get_or cs i (pos 0) ∷ drop (i + 1) cs)
has_next holds now a o p cs i h has w left = subst (HasChildren (now a w) o p) (next cs i h) (has w left)

pub each_next : {V : Type 0} (holds : V → World → Type 0) (now : V → World → World) (start a : V) (p : ℤ) (cs : List ℤ) (i : ℕ) → i < length cs
    → Goes holds now start a (λ was is. reparented_each is (drop i cs) p ≡ reparented_each was cs p)
    → Goes holds now start a (λ was is. reparented_each is (get_or cs i (pos 0) ∷ drop (i + 1) cs) p ≡ reparented_each was cs p)
each_next holds now start a p cs i h before w left = let t = before w left in (t.0, ap (λ ds. reparented_each (now a w) ds p) (sym (next cs i h)) ∙ t.1)

-- ---- over a view, child by child

pub raise_told : {V A E : Type 0} (holds : V → World → Type 0) (now : V → World → World) (a b c : V) (r : Result A E) (o child p : ℤ) (ds : List ℤ)
    → Tells holds now a b (λ w. IsFamily w child ds)
    → OnOk r (Goes holds now b c (λ was is. IsFamily was child ds → parent_of (object_at was child) ≡ o → is ≡ reparented was child p))
    → OnOk r (Goes holds now a c (λ was is. parent_of (object_at was child) ≡ o → is ≡ reparented was child p))
raise_told holds now a b c (Err x) o child p ds family told = tt
raise_told holds now a b c (Ok x) o child p ds family told = λ w left.
    let t = told w left in
    let u = family w t.0 in
    (u.0, λ e. t.1 (subst (λ y. IsFamily y child ds) (sym u.1.0) u.1.1) (ap (λ y. parent_of (object_at y child)) u.1.0 ∙ e) ∙ ap (λ y. reparented y child p) u.1.0)

module _ {V : Type 0} (holds : V → World → Type 0) (now : V → World → World) (a b : V) (o p c : ℤ) (cs : List ℤ) (known : AreAgreeing holds now a)
    (has : (w : World) → holds a w → HasChildren (now a w) o p (c ∷ cs)) (told : Goes holds now a b (λ was is. parent_of (object_at was c) ≡ o → is ≡ reparented was c p)) where
  pub after_one : (w : World) → holds b w → now b w ≡ reparented (now a w) c p
  after_one w left = let t = told w left in t.1 (child_of (now a w) (known w t.0) o p c cs (has w t.0))

  pub well_after : AreAgreeing holds now b
  well_after w left = let t = told w left in subst IsStanding (sym (after_one w left)) (raised_well (now a w) (known w t.0) o p c cs (has w t.0))

  pub has_after : (w : World) → holds b w → HasChildren (now b w) o p cs
  has_after w left = let t = told w left in subst (λ y. HasChildren y o p cs) (sym (after_one w left)) (raised_has (now a w) (known w t.0) o p c cs (has w t.0))

  -- and those that are still to go
  pub each_after : (start : V) (all : List ℤ) → Goes holds now start a (λ was is. reparented_each is (c ∷ cs) p ≡ reparented_each was all p)
      → Goes holds now start b (λ was is. reparented_each is cs p ≡ reparented_each was all p)
  each_after start all before w left =
      let t = told w left in
      let u = before w t.0 in
      (u.0, ap (λ y. reparented_each y cs p) (after_one w left) ∙ u.1)
