-- How a walk from parents to children goes.
use Rattle.std.proofs.Common.{◌≡◌, ◌⊎◌, inl, inr, ℕ, zero, suc, ◌+◌, ◌<◌, ◌≤◌, ℤ, pos, true, false, ◌||◌, List, [], ◌∷◌, ◌++◌, length, get_or, take, Option, Some, None, refl, sym, ap, ◌∙◌, subst, IsTrue, is_some, is_none, arith}
use Rattle.std.specs.Prelude.{option_map}
use Rattle.std.specs.Ordering.{int_eq}
use Rattle.std.proofs.lemmas.List.Folds.{list_any-append}
use Rattle.spec_value.proofs.Same.{integer_itself}
use Rattle.spec_world.specs.World.{World, Header, Object, object_at}
use Rattle.spec_world.specs.WellFormed.{lists}
use Rattle.spec_world.specs.Agreeing.{ObjectsAgree}
use Rattle.spec_world.specs.Families.{nowhere, is_below}
use Rattle.spec_world.specs.Questions.{header_at, children_at}
use Rattle.spec_world.proofs.Trees.{Node, Path, IsTree, same_or_not, some_same, path_from, on_path, either, first_of, second_of, listed_alone}
use Rattle.spec_world.proofs.WorldTrees.{parents, node_there, object_there}
use Rattle.spec_world.proofs.Households.{household, same_tests}
use Rattle.spec_world.proofs.PropertyChanges.{below_is}
use Rattle.rules.specs.Below.{among, IsFamily, Walked}

-- ---- lists

in_both : (xs ys : List ℤ) (c : ℤ) → lists (xs ++ ys) c ≡ (lists xs c || lists ys c)
in_both xs ys c = list_any-append (int_eq c) xs ys

in_first : (xs ys : List ℤ) (c : ℤ) → IsTrue (lists xs c) → IsTrue (lists (xs ++ ys) c)
in_first xs ys c h = in_both xs ys c ∙ first_of (lists xs c) (lists ys c) h

in_second : (xs ys : List ℤ) (c : ℤ) → IsTrue (lists ys c) → IsTrue (lists (xs ++ ys) c)
in_second xs ys c h = in_both xs ys c ∙ second_of (lists xs c) (lists ys c) h

in_either : (xs ys : List ℤ) (c : ℤ) → IsTrue (lists (xs ++ ys) c) → IsTrue (lists xs c) ⊎ IsTrue (lists ys c)
in_either xs ys c h = either (lists xs c) (lists ys c) (sym (in_both xs ys c) ∙ h)

one_further : (ds es : List ℤ) (n : ℕ) (at : ℤ) → n < length ds → at ≡ get_or ds n (pos 0) → take (n + 1) (ds ++ es) ≡ take n ds ++ at ∷ []
one_further [] es n at h is = absurd (omega (arith, h))
one_further (d ∷ ds) es zero at h is = ap (λ x. x ∷ []) (sym is)
one_further (d ∷ ds) es (suc n) at h is =
    let e : suc n + 1 ≡ suc (n + 1) = omega arith in ap (λ m. take m (d ∷ (ds ++ es))) e ∙ ap (λ xs. d ∷ xs) (one_further ds es n at (omega (arith, h)) is)

all_taken : (ds : List ℤ) (n : ℕ) → length ds ≤ n → take n ds ≡ ds
all_taken [] zero h = refl
all_taken [] (suc n) h = refl
all_taken (d ∷ ds) zero h = absurd (omega (arith, h))
all_taken (d ∷ ds) (suc n) h = ap (λ xs. d ∷ xs) (all_taken ds n (omega (arith, h)))

-- ---- what is below

module _ (w : World) (sound : ObjectsAgree w) (o : ℤ) where
  tree : IsTree (parents w)
  tree = (household w sound).family

  along : (d : ℤ) (ps : List ℤ) → Path (parents w) d ps → is_below w o d ≡ lists ps o
  along d ps way = below_is w o d ps sound.numbers way

  with_children : (d : ℤ) (cs : List ℤ) → children_at w d ≡ Some cs → (x : Object) × (object_at w d ≡ Some x) × (x.children ≡ cs)
  with_children d cs is = go (object_at w d) refl
    where
      go : (y : Option Object) → object_at w d ≡ y → (x : Object) × (object_at w d ≡ Some x) × (x.children ≡ cs)
      go None e = let clash : None ≡ Some cs = sym (ap (option_map (λ z. z.children)) e) ∙ is in absurd (cc clash)
      go (Some x) e = (x, e, some_same (sym (ap (option_map (λ z. z.children)) e) ∙ is))

  pub below_itself : IsTrue (is_some (object_at w o)) → IsTrue (is_below w o o)
  below_itself there = go (object_at w o) refl there
    where
      by : (x : Object) → object_at w o ≡ Some x → (ps : List ℤ) → Path (parents w) o ps → IsTrue (lists ps o)
      by x e [] way = let clash : None ≡ Some (x.header.parent, x.children) = sym way ∙ node_there (λ y. y.header.parent) (λ y. y.children) w o x e in absurd (cc clash)
      by x e (p ∷ ps) way = first_of (int_eq o p) (lists ps o) (subst (λ z. IsTrue (int_eq o z)) (sym way.0) (integer_itself o))

      go : (y : Option Object) → object_at w o ≡ y → IsTrue (is_some y) → IsTrue (is_below w o o)
      go None e h = cc
      go (Some x) e h = let way = path_from (parents w) tree o in along o way.0 way.1 ∙ by x e way.0 way.1

  child_below : (d c : ℤ) (x : Object) → object_at w d ≡ Some x → IsTrue (is_below w o d) → IsTrue (lists x.children c) → IsTrue (is_below w o c)
  child_below d c x e under l =
      let way = path_from (parents w) tree d in
      let down = tree.below d (x.header.parent, x.children) c (node_there (λ y. y.header.parent) (λ y. y.children) w d x e) l in
      let longer : Path (parents w) c (c ∷ way.0) = (refl, (down.0, down.1, subst (λ z. Path (parents w) z way.0) (sym down.2) way.1)) in
      along c (c ∷ way.0) longer ∙ second_of (int_eq o c) (lists way.0 o) (sym (along d way.0 way.1) ∙ under)

  -- ---- a walk

  pub walk_begins : IsTrue (is_some (object_at w o)) → Walked w o 0 (o ∷ [])
  walk_begins there = record {
    begins = first_of (int_eq o o) false (integer_itself o);
    below = λ d l. subst (λ z. IsTrue (is_below w o z)) (sym (listed_alone d o l)) (below_itself there);
    closed = λ d cs l is c k. absurd (cc l);
  }

  pub walk_goes_on : (n : ℕ) (ds es : List ℤ) (at : ℤ) → n < length ds → at ≡ get_or ds n (pos 0) → Walked w o n ds → es ≡ ds ++ among (children_at w at) → Walked w o (n + 1) es
  walk_goes_on n ds es at within is walked grown = subst (Walked w o (n + 1)) (sym grown) (record { begins = in_first ds more o walked.begins; below = below; closed = closed })
    where
      more : List ℤ
      more = among (children_at w at)

      at_listed : (ds : List ℤ) (n : ℕ) → n < length ds → at ≡ get_or ds n (pos 0) → IsTrue (lists ds at)
      at_listed [] n h e = absurd (omega (arith, h))
      at_listed (d ∷ ds) zero h e = first_of (int_eq at d) (lists ds at) (subst (λ z. IsTrue (int_eq at z)) e (integer_itself at))
      at_listed (d ∷ ds) (suc n) h e = second_of (int_eq at d) (lists ds at) (at_listed ds n (omega (arith, h)) e)

      new : (y : Option (List ℤ)) → children_at w at ≡ y → (d : ℤ) → IsTrue (lists (among y) d) → IsTrue (is_below w o d)
      new None e d l = cc
      new (Some cs) e d l = let x = with_children at cs e in
          child_below at d x.0 x.1 (walked.below at (at_listed ds n within is)) (subst (λ zs. IsTrue (lists zs d)) (sym x.2) l)

      below : (d : ℤ) → IsTrue (lists (ds ++ more) d) → IsTrue (is_below w o d)
      below d l = go (in_either ds more d l)
        where
          go : IsTrue (lists ds d) ⊎ IsTrue (lists more d) → IsTrue (is_below w o d)
          go (inl k) = walked.below d k
          go (inr k) = new (children_at w at) refl d k

      closed : (d : ℤ) (cs : List ℤ) → IsTrue (lists (take (n + 1) (ds ++ more)) d) → children_at w d ≡ Some cs → (c : ℤ) → IsTrue (lists cs c) → IsTrue (lists (ds ++ more) c)
      closed d cs l has c k = go (in_either (take n ds) (at ∷ []) d (subst (λ zs. IsTrue (lists zs d)) (one_further ds more n at within is) l))
        where
          go : IsTrue (lists (take n ds) d) ⊎ IsTrue (lists (at ∷ []) d) → IsTrue (lists (ds ++ more) c)
          go (inl m) = in_first ds more c (walked.closed d cs m has c k)
          go (inr m) =
              let same : children_at w at ≡ Some cs = ap (children_at w) (sym (listed_alone d at m)) ∙ has in
              in_second ds more c (subst (λ y. IsTrue (lists (among y) c)) (sym same) k)

  -- where the children of each are among them, all are
  pub walk_ends : (n : ℕ) (ds : List ℤ) → length ds ≤ n → Walked w o n ds → IsFamily w o ds
  walk_ends n ds done walked d = same_tests (lists ds d) (is_below w o d) (walked.below d) (λ under. let way = path_from (parents w) tree d in reach d way.0 way.1 (sym (along d way.0 way.1) ∙ under))
    where
      closed : (d : ℤ) (cs : List ℤ) → IsTrue (lists ds d) → children_at w d ≡ Some cs → (c : ℤ) → IsTrue (lists cs c) → IsTrue (lists ds c)
      closed d cs l is = walked.closed d cs (subst (λ zs. IsTrue (lists zs d)) (sym (all_taken ds n done)) l) is

      reach : (d : ℤ) (ps : List ℤ) → Path (parents w) d ps → IsTrue (lists ps o) → IsTrue (lists ds d)
      reach d [] way l = absurd (cc l)
      reach d (p ∷ ps) way l = go (same_or_not o p) (reach way.1.0.0 ps way.1.2)
        where
          further : IsTrue (lists ps o) → IsTrue (lists ds way.1.0.0) → (way.1.0.0 ≡ nowhere) ⊎ ((y : Node) × (parents w way.1.0.0 ≡ Some y) × IsTrue (lists y.1 d)) → IsTrue (lists ds d)
          further m up (inl e) = ended ps (subst (λ z. Path (parents w) z ps) e way.1.2) m
            where
              ended : (qs : List ℤ) → Path (parents w) nowhere qs → IsTrue (lists qs o) → IsTrue (lists ds d)
              ended [] h k = absurd (cc k)
              ended (q ∷ qs) h k = let clash : None ≡ Some h.1.0 = sym tree.nobody ∙ h.1.1 in absurd (cc clash)
          further m up (inr y) =
              let x = object_there (λ z. z.header.parent) (λ z. z.children) w way.1.0.0 y.0 y.1 in
              closed way.1.0.0 (x.0).children up (ap (option_map (λ z. z.children)) x.1) d (subst (λ (z : Node). IsTrue (lists z.1 d)) x.2 y.2)

          go : (o ≡ p) ⊎ (int_eq o p ≡ false) → (IsTrue (lists ps o) → IsTrue (lists ds way.1.0.0)) → IsTrue (lists ds d)
          go (inl e) later = subst (λ z. IsTrue (lists ds z)) (e ∙ way.0) walked.begins
          go (inr e) later = let m : IsTrue (lists ps o) = ap (λ b. b || lists ps o) (sym e) ∙ l in further m (later m) (tree.above d way.1.0 way.1.1)

  -- of an object that is not there
  pub no_family : (h : Option Header) → header_at w o ≡ h → is_none h ≡ true → IsFamily w o []
  no_family (Some h) is none d = absurd (cc none)
  no_family None gone none d = same_tests false (is_below w o d) (λ l. absurd (cc l)) (λ under. let way = path_from (parents w) tree d in never (on_path (parents w) o d way.0 way.1 (sym (along d way.0 way.1) ∙ under)))
    where
      never : (x : Node) × (parents w o ≡ Some x) → IsTrue false
      never n =
          let x = object_there (λ z. z.header.parent) (λ z. z.children) w o n.0 n.1 in
          let clash : None ≡ Some (x.0).header = sym gone ∙ ap (option_map (λ z. z.header)) x.1 in absurd (cc clash)

pub shown_there : (w : World) (o : ℤ) (h : Option Header) → header_at w o ≡ h → is_none h ≡ false → IsTrue (is_some (object_at w o))
shown_there w o h is some = go (object_at w o) h is some
  where
    go : (m : Option Object) (h : Option Header) → option_map (λ x. x.header) m ≡ h → is_none h ≡ false → IsTrue (is_some m)
    go None None e k = absurd (cc k)
    go None (Some i) e k = absurd (cc e)
    go (Some x) h e k = refl
