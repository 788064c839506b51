-- An object that is recycled: its children hang below its parent, its contents are nowhere, and all else stays.
use Rattle.std.proofs.Common.{◌≡◌, ◌⊎◌, inl, inr, ℤ, Bool, true, false, List, [], ◌∷◌, Option, Some, None, refl, sym, ap, ◌∙◌, subst, cond, IsTrue}
use Rattle.std.specs.Ordering.{int_eq}
use Rattle.spec_value.specs.Table.{without}
use Rattle.spec_value.proofs.Same.{same_integer, integer_itself}
use Rattle.spec_world.specs.World.{World, Object, object_at}
use Rattle.spec_world.specs.WellFormed.{lists}
use Rattle.spec_world.specs.Agreeing.{ObjectsAgree}
use Rattle.spec_world.specs.Families.{nowhere, is_below, reparented, reparented_each, to_nowhere, lose_child, out_of_place, recycled_object, recycled}
use Rattle.spec_world.proofs.Trees.{some_same, first_of, second_of}
use Rattle.spec_world.proofs.Households.{at_without}
use Rattle.spec_rights.specs.Permitted.{Taken, IsRecycled, ObjectKept, Made, Permitted}
use Rattle.spec_rights.specs.Chains.{SameObjects}
use Rattle.spec_rights.proofs.Rearranging.{EachRearranged, Arranged, nothing_arranged, arranged_twice, one_arranged, reparented_arranged, nowhere_arranged, parent_at, child_hangs, content_is_there, below_child}
use Rattle.spec_rights.proofs.Changes.{nothing_changed, rearranged_kept}

module _ (begun : ℤ → Type 0) (w : World) (who r : ℤ) (h : ObjectsAgree w) (taken : Taken begun w who r) where
  module _ (x : Object) (is : object_at w r ≡ Some x) where
    abbrev hung : ℤ → ℤ → Type 0
    hung q z = IsTrue (lists x.children q)

    abbrev placed : ℤ → ℤ → Type 0
    placed q z = IsTrue (lists x.contents q) × (z ≡ nowhere)

    abbrev heir : ℤ → Type 0
    heir q = is_below w r q ≡ true

    abbrev Then : World → Type 0
    Then u = Arranged hung placed heir w u

    parents_then : (u : World) → Then u → (q : ℤ)
        → (parent_at (object_at u q) ≡ parent_at (object_at w q)) ⊎ ((y : Object) × (object_at w q ≡ Some y) × IsTrue (lists x.children q))
    parents_then u a q = go (object_at w q) (object_at u q) refl (a.objects q)
      where
        go : (l m : Option Object) → object_at w q ≡ l → EachRearranged hung placed heir q l m
            → (parent_at m ≡ parent_at l) ⊎ ((y : Object) × (object_at w q ≡ Some y) × IsTrue (lists x.children q))
        go None None e k = inl refl
        go None (Some z) e k = absurd k
        go (Some y) None e k = absurd k
        go (Some y) (Some z) e k = by k.parent
          where
            by : (z.header.parent ≡ y.header.parent) ⊎ hung q z.header.parent
                → (parent_at (Some z) ≡ parent_at (Some y)) ⊎ ((y : Object) × (object_at w q ≡ Some y) × IsTrue (lists x.children q))
            by (inl s) = inl (ap Some s)
            by (inr s) = inr (y, e, s)

    each_hung : (cs : List ℤ) (p : ℤ) → ((c : ℤ) → IsTrue (lists cs c) → IsTrue (lists x.children c)) → (u : World) → Then u → Then (reparented_each u cs p)
    each_hung [] p there u a = a
    each_hung (c ∷ cs) p there u a =
        let mine : IsTrue (lists x.children c) = there c (first_of (int_eq c c) _ (integer_itself c)) in
        each_hung cs p (λ d l. there d (second_of (int_eq d c) _ l)) (reparented u c p)
        (arranged_twice hung placed heir w u (reparented u c p) a
        (reparented_arranged hung placed heir u c p mine (λ q k. below_child w h r x is u (parents_then u a) a.greatest c q mine k)))

    let_go : (v : World) → SameObjects w v
        → Then (out_of_place (lose_child (to_nowhere (reparented_each v x.children x.header.parent) x.contents) x.header.parent r) x.header.location r)
    let_go v (same, greatest, ending) =
        let a : Then (reparented_each v x.children x.header.parent) = each_hung x.children x.header.parent (λ c l. l) v (nothing_arranged hung placed heir w v same greatest ending) in
        let b : Then (to_nowhere (reparented_each v x.children x.header.parent) x.contents) = arranged_twice hung placed heir w _ _ a (nowhere_arranged hung placed heir (reparented_each v x.children x.header.parent) x.contents (λ c l. (l, refl))) in
        arranged_twice hung placed heir w _ _
        (arranged_twice hung placed heir w _ _ b
        (one_arranged hung placed heir (to_nowhere (reparented_each v x.children x.header.parent) x.contents) x.header.parent _ (λ y e. record { rest = refl; parent = inl refl; location = inl refl; slots = inl refl })))
        (one_arranged hung placed heir (lose_child (to_nowhere (reparented_each v x.children x.header.parent) x.contents) x.header.parent r) x.header.location _ (λ y e. record { rest = refl; parent = inl refl; location = inl refl; slots = inl refl }))

    without_it : (u : World) → Then u → Permitted begun w who (record u { objects = without u.objects r })
    without_it u a = record { kept = keeps; gone = stays; new = none; greatest = inl a.greatest; ending = inl a.ending }
      where
        v : World
        v = record u { objects = without u.objects r }

        there : (q : ℤ) → object_at v q ≡ cond (int_eq q r) None (object_at u q)
        there q = at_without u.objects r q

        gone_now : (q : ℤ) → q ≡ r → object_at v q ≡ None
        gone_now q e = there q ∙ ap (λ b. cond b None (object_at u q)) (subst (λ z. IsTrue (int_eq q z)) e (integer_itself q))

        recycled_now : (q : ℤ) → q ≡ r → IsRecycled begun w who (record u { objects = without u.objects r }) q
        recycled_now q e = (x, ap (object_at w) e ∙ is, gone_now q e, subst (Taken begun w who) (sym e) taken)

        keeps : (o : ℤ) (y z : Object) → object_at w o ≡ Some y → object_at v o ≡ Some z → ObjectKept begun w who v o y z
        keeps o y z e d = go (int_eq o r) (sym (there o) ∙ d)
          where
            go : (b : Bool) → cond b None (object_at u o) ≡ Some z → ObjectKept begun w who v o y z
            go true k = cc
            go false k =
                rearranged_kept begun w who hung placed heir v o y z
                (subst (λ m. EachRearranged hung placed heir o (Some y) m) k (subst (λ m. EachRearranged hung placed heir o m (object_at u o)) e (a.objects o)))
                (λ l. let f = child_hangs w h r x is o l in let up : y.header.parent ≡ r = ap (λ (m : Object). m.header.parent) (some_same (sym e ∙ f.1)) ∙ f.2 in
                inr (recycled_now y.header.parent up))
                (λ l. let f = content_is_there w h r x is o l.0 in let at : y.header.location ≡ r = ap (λ (m : Object). m.header.location) (some_same (sym e ∙ f.1)) ∙ f.2 in
                inr (l.1, recycled_now y.header.location at))
                (λ l. (r, l, inr taken))

        stays : (o : ℤ) (y : Object) → object_at w o ≡ Some y → object_at v o ≡ None → Taken begun w who o
        stays o y e d = go (int_eq o r) refl (sym (there o) ∙ d)
          where
            go : (b : Bool) → int_eq o r ≡ b → cond b None (object_at u o) ≡ None → Taken begun w who o
            go true s k = subst (Taken begun w who) (sym (same_integer o r s)) taken
            go false s k = absurd (subst (λ m. EachRearranged hung placed heir o (Some y) m) k (subst (λ m. EachRearranged hung placed heir o m (object_at u o)) e (a.objects o)))

        none : (o : ℤ) (y : Object) → object_at w o ≡ None → object_at v o ≡ Some y → Made w who o y
        none o y e d = go (int_eq o r) (sym (there o) ∙ d)
          where
            go : (b : Bool) → cond b None (object_at u o) ≡ Some y → Made w who o y
            go true k = cc
            go false k = absurd (subst (λ m. EachRearranged hung placed heir o None m) k (subst (λ m. EachRearranged hung placed heir o m (object_at u o)) e (a.objects o)))

  -- in a world with the same objects
  pub object_recycled : (v : World) → SameObjects w v → Permitted begun w who (recycled v r)
  unfolding recycled
  object_recycled v same = go (object_at v r) refl
    where
      go : (m : Option Object) → object_at v r ≡ m → Permitted begun w who (recycled_object v r m)
      go None e = nothing_changed begun w who v same.0 same.1 (inl same.2)
      go (Some x) e =
          let is : object_at w r ≡ Some x = sym (ap (λ es. object_at (record w { objects = es }) r) same.0) ∙ e in
          without_it x is (out_of_place (lose_child (to_nowhere (reparented_each v x.children x.header.parent) x.contents) x.header.parent r) x.header.location r) (let_go x is v same)
