-- The objects of a world as trees: along parent and along location.
use Rattle.std.proofs.Common.{◌≡◌, ◌⊎◌, inl, inr, ℕ, zero, suc, ◌≤◌, ◌<◌, ℤ, pos, negsuc, Bool, true, false, ◌&&◌, ◌||◌, List, [], ◌∷◌, map, length, Option, Some, None, refl, sym, ap, ◌∙◌, subst, arith, IsTrue, is_none, leb-true}
use Rattle.std.specs.Prelude.{option_map, int_le, nat_abs, ◌+ℤ◌, eqb}
use Rattle.std.specs.Ordering.{int_eq}
use Rattle.std.specs.List.{list_all, list_any, IsDistinct, AllByRecursion}
use Rattle.std.proofs.lemmas.Map.Steps.{length-le_from_distinct_below}
use Rattle.std.proofs.lemmas.Bool.{eqb-true}
use Rattle.spec_world.specs.World.{World, Object, object_at}
use Rattle.spec_world.specs.Inherit.{line_onto, line, line_bound, ancestors}
use Rattle.spec_world.specs.WellFormed.{OfEachObject, lists, once, passes, on_object, is_nowhere, number_fits, comes_out, ends_above}
use Rattle.spec_world.specs.Families.{nowhere}
use Rattle.spec_value.proofs.Entries.{first_holds, second_holds, both_hold}
use Rattle.spec_value.proofs.Same.{same_integer, integer_itself}
use Rattle.spec_world.proofs.Trees.{other, some_same, either, first_of, second_of, Node, Nodes, Path, IsTree, on_path, never_again}

-- ---- lists

pub all_listed : (f : ℤ → Bool) (xs : List ℤ) → ((c : ℤ) → IsTrue (lists xs c) → IsTrue (f c)) → IsTrue (list_all f xs)
all_listed f [] each = refl
all_listed f (x ∷ xs) each =
    both_hold (f x) (list_all f xs) (each x (first_of (int_eq x x) _ (integer_itself x))) (all_listed f xs (λ c h. each c (second_of (int_eq c x) _ h)))

pub of_all : (f : ℤ → Bool) (xs : List ℤ) → IsTrue (list_all f xs) → (c : ℤ) → IsTrue (lists xs c) → IsTrue (f c)
of_all f [] h c k = cc
of_all f (x ∷ xs) h c k = go (of_all f xs (second_holds (f x) _ h) c) (either (int_eq c x) _ k)
  where
    go : (IsTrue (lists xs c) → IsTrue (f c)) → IsTrue (int_eq c x) ⊎ IsTrue (lists xs c) → IsTrue (f c)
    go later (inl e) = subst (λ z. IsTrue (f z)) (sym (same_integer c x e)) (first_holds (f x) _ h)
    go later (inr e) = later e

-- ---- distinct numbers

positive_apart : (m n : ℤ) → IsTrue (int_le (pos 0) m) → IsTrue (int_le (pos 0) n) → int_eq m n ≡ false → eqb (nat_abs m) (nat_abs n) ≡ false
positive_apart (pos m) (pos n) h k e = go (eqb m n) refl
  where
    go : (b : Bool) → eqb m n ≡ b → eqb m n ≡ false
    go false s = s
    go true s = absurd (other (pos m) (pos n) e (ap pos (eqb-true m n s)))
positive_apart (negsuc m) n h k e = cc
positive_apart (pos m) (negsuc n) h k e = cc

all_apart : (o : ℤ) (os : List ℤ) → IsTrue (int_le (pos 0) o) → lists os o ≡ false → ((p : ℤ) → IsTrue (lists os p) → IsTrue (int_le (pos 0) p))
    → AllByRecursion (λ y. eqb (nat_abs o) y ≡ false) (map nat_abs os)
all_apart o [] h k each = tt
all_apart o (p ∷ os) h k each = (
  positive_apart o p h (each p (first_of (int_eq p p) _ (integer_itself p))) (first_false (int_eq o p) _ k),
  all_apart o os h (second_false (int_eq o p) _ k) (λ q l. each q (second_of (int_eq q p) _ l)),
)
  where
    first_false : (a b : Bool) → (a || b) ≡ false → a ≡ false
    first_false true b e = cc
    first_false false b e = refl

    second_false : (a b : Bool) → (a || b) ≡ false → b ≡ false
    second_false true b e = cc
    second_false false b e = e

number_back : (q : ℕ) (ps : List ℤ) → list_any (eqb q) (map nat_abs ps) ≡ true → (p : ℤ) × (IsTrue (lists ps p)) × (nat_abs p ≡ q)
number_back q [] h = cc
number_back q (p ∷ ps) h = go (number_back q ps) (either (eqb q (nat_abs p)) _ h)
  where
    go : (list_any (eqb q) (map nat_abs ps) ≡ true → (p : ℤ) × (IsTrue (lists ps p)) × (nat_abs p ≡ q))
        → IsTrue (eqb q (nat_abs p)) ⊎ IsTrue (list_any (eqb q) (map nat_abs ps))
        → (r : ℤ) × (IsTrue (lists (p ∷ ps) r)) × (nat_abs r ≡ q)
    go later (inl e) = (p, first_of (int_eq p p) _ (integer_itself p), sym (eqb-true q (nat_abs p) e))
    go later (inr e) = let r = later e in (r.0, second_of (int_eq r.0 p) _ r.1, r.2)

within : (p g : ℤ) → IsTrue (int_le (pos 0) p && int_le p g) → nat_abs p < nat_abs (g +ℤ pos 1)
within (pos p) (pos g) h = let le : p ≤ g = leb-true p g (second_holds (int_le (pos 0) (pos p)) _ h) in omega arith
within (pos p) (negsuc g) h = absurd (cc (second_holds (int_le (pos 0) (pos p)) _ h))
within (negsuc p) g h = absurd (cc (h))

-- ---- a tree of a world

module _ (up : Object → ℤ) (down : Object → List ℤ) (w : World) where
  abbrev pub node : Object → Node
  node x = (up x, down x)

  abbrev pub nodes : Nodes
  nodes q = option_map node (object_at w q)

  pub object_there : (q : ℤ) (y : Node) → nodes q ≡ Some y → (x : Object) × (object_at w q ≡ Some x) × (y ≡ node x)
  object_there q y e = go (object_at w q) refl
    where
      go : (o : Option Object) → object_at w q ≡ o → (x : Object) × (object_at w q ≡ Some x) × (y ≡ node x)
      go None k = let clash : None ≡ Some y = sym (ap (option_map node) k) ∙ e in absurd (cc (clash))
      go (Some x) k = (x, k, some_same (sym e ∙ ap (option_map node) k))

  pub node_there : (q : ℤ) (x : Object) → object_at w q ≡ Some x → nodes q ≡ Some (node x)
  node_there q x e = ap (option_map node) e

  pub object_none : (q : ℤ) → nodes q ≡ None → object_at w q ≡ None
  object_none q e = go (object_at w q) refl
    where
      go : (o : Option Object) → object_at w q ≡ o → object_at w q ≡ None
      go None k = k
      go (Some x) k = let clash : None ≡ Some (node x) = sym e ∙ node_there q x k in absurd (cc (clash))

  pub path_of : (n : ℕ) (q : ℤ) → IsTrue (comes_out up n w q) → (ps : List ℤ) × Path nodes q ps
  unfolding comes_out
  path_of zero q h = go (object_at w q) refl h
    where
      go : (o : Option Object) → object_at w q ≡ o → IsTrue (is_none o) → (ps : List ℤ) × Path nodes q ps
      go None e k = ([], ap (option_map node) e)
      go (Some x) e k = cc
  path_of (suc n) q h = go (path_of n) (object_at w q) refl h
    where
      go : ((p : ℤ) → IsTrue (comes_out up n w p) → (ps : List ℤ) × Path nodes p ps) → (o : Option Object) → object_at w q ≡ o
          → IsTrue (ends_above (comes_out up n w) up o)
          → (ps : List ℤ) × Path nodes q ps
      go above None e k = ([], ap (option_map node) e)
      go above (Some x) e k = let r = above (up x) k in (q ∷ r.0, (refl, (node x, node_there q x e, r.1)))

  pub path_ends : (n : ℕ) (q : ℤ) (ps : List ℤ) → Path nodes q ps → length ps ≤ n → IsTrue (comes_out up n w q)
  unfolding comes_out
  path_ends zero q [] h le = ap is_none (object_none q h)
  path_ends zero q (p ∷ ps) h le = absurd (omega (arith, le))
  path_ends (suc n) q [] h le = ap (ends_above (comes_out up n w) up) (object_none q h)
  path_ends (suc n) q (p ∷ ps) h le =
      let x = object_there q h.1.0 h.1.1 in
      ap (ends_above (comes_out up n w) up) x.1 ∙ path_ends n (up x.0) ps (subst (λ (y : Node). Path nodes y.0 ps) x.2 h.1.2) (omega (arith, le))

  -- an object's number is in range, so no path is longer than there are numbers
  module _ (numbers : OfEachObject w number_fits) where
    positive : (p q : ℤ) (ps : List ℤ) → Path nodes q ps → IsTrue (lists ps p) → IsTrue (int_le (pos 0) p && int_le p w.greatest)
    positive p q ps h l = let y = on_path nodes p q ps h l in let x = object_there p y.0 y.1 in numbers p x.0 x.1

    distinct : (q : ℤ) (ps : List ℤ) → Path nodes q ps → IsDistinct eqb (map nat_abs ps)
    unfolding IsDistinct
    distinct q [] h = tt
    distinct q (p ∷ ps) h = (
      all_apart p ps (first_holds (int_le (pos 0) p) _ (positive p q (p ∷ ps) h (first_of (int_eq p p) _ (integer_itself p))))
          (subst (λ z. lists ps z ≡ false) (sym h.0) (never_again nodes q p ps h))
          (λ r l. first_holds (int_le (pos 0) r) _ (positive r q (p ∷ ps) h (second_of (int_eq r p) _ l))),
      distinct h.1.0.0 ps h.1.2,
    )

    pub short : (q : ℤ) (ps : List ℤ) → Path nodes q ps → length ps ≤ line_bound w
    short q ps h =
        let le : length (map nat_abs ps) ≤ line_bound w =
        length-le_from_distinct_below (map nat_abs ps) (line_bound w) (distinct q ps h)
        (λ n l. let p = number_back n ps l in subst (λ m. m < line_bound w) p.2 (within p.0 w.greatest (positive p.0 q ps h p.1))) in
        subst (λ n. n ≤ line_bound w) (same_length ps) le
      where
        same_length : (xs : List ℤ) → length (map nat_abs xs) ≡ length xs
        same_length [] = refl
        same_length (x ∷ xs) = ap suc (same_length xs)

  -- ---- to a tree, and back

  abbrev pub down_agrees : World → ℤ → Object → Bool
  down_agrees v o x = once (down x) && list_all (λ c. on_object v c (λ y. int_eq (up y) o)) (down x)

  abbrev pub up_agrees : World → ℤ → Object → Bool
  up_agrees v o x = is_nowhere (up x) || on_object v (up x) (λ y. lists (down y) o)

  passed : (q : ℤ) (f : Object → Bool) → IsTrue (on_object w q f) → (x : Object) × (object_at w q ≡ Some x) × IsTrue (f x)
  passed q f h = go (object_at w q) refl h
    where
      go : (o : Option Object) → object_at w q ≡ o → IsTrue (passes o f) → (x : Object) × (object_at w q ≡ Some x) × IsTrue (f x)
      go None e k = cc
      go (Some x) e k = (x, e, k)

  pub tree_of : OfEachObject w number_fits → OfEachObject w (λ v o x. comes_out up (line_bound v) v o) → OfEachObject w down_agrees
      → OfEachObject w up_agrees → IsTree nodes
  tree_of numbers ends downs ups =
      record { ends = ends_in; single = single_in; below = below_in; above = above_in; nobody = nobody_in }
    where
      ends_in : (o : ℤ) (y : Node) → nodes o ≡ Some y → (ps : List ℤ) × Path nodes o ps
      ends_in o y e = let x = object_there o y e in path_of (line_bound w) o (ends o x.0 x.1)

      single_in : (o : ℤ) (y : Node) → nodes o ≡ Some y → IsTrue (once y.1)
      single_in o y e = let x = object_there o y e in subst (λ (n : Node). IsTrue (once n.1)) (sym x.2) (first_holds (once (down x.0)) _ (downs o x.0 x.1))

      below_in : (o : ℤ) (y : Node) (c : ℤ) → nodes o ≡ Some y → IsTrue (lists y.1 c) → (z : Node) × (nodes c ≡ Some z) × (z.0 ≡ o)
      below_in o y c e l =
          let x = object_there o y e in
          let z = passed c (λ v. int_eq (up v) o) (of_all (λ d. on_object w d (λ v. int_eq (up v) o)) (down x.0) (second_holds (once (down x.0)) _ (downs o x.0 x.1)) c (subst (λ (n : Node). IsTrue (lists n.1 c)) x.2 l)) in
          (node z.0, node_there c z.0 z.1, same_integer (up z.0) o z.2)

      above_in : (o : ℤ) (y : Node) → nodes o ≡ Some y → (y.0 ≡ nowhere) ⊎ ((z : Node) × (nodes y.0 ≡ Some z) × IsTrue (lists z.1 o))
      above_in o y e = let x = object_there o y e in subst (λ (n : Node). (n.0 ≡ nowhere) ⊎ ((z : Node) × (nodes n.0 ≡ Some z) × IsTrue (lists z.1 o))) (sym x.2) (go x.0 (either (is_nowhere (up x.0)) _ (ups o x.0 x.1)))
        where
          go : (x : Object) → IsTrue (is_nowhere (up x)) ⊎ IsTrue (on_object w (up x) (λ v. lists (down v) o))
              → (up x ≡ nowhere) ⊎ ((z : Node) × (nodes (up x) ≡ Some z) × IsTrue (lists z.1 o))
          go x (inl s) = inl (same_integer (up x) nowhere s)
          go x (inr s) = let z = passed (up x) (λ v. lists (down v) o) s in inr (node z.0, node_there (up x) z.0 z.1, z.2)

      nobody_in : nodes nowhere ≡ None
      nobody_in = go (object_at w nowhere) refl
        where
          go : (o : Option Object) → object_at w nowhere ≡ o → nodes nowhere ≡ None
          go None e = ap (option_map node) e
          go (Some x) e = absurd (cc (numbers nowhere x e))

  pub ends_of : IsTree nodes → OfEachObject w number_fits → OfEachObject w (λ v o x. comes_out up (line_bound v) v o)
  ends_of tree numbers o x e = let r = tree.ends o (node x) (node_there o x e) in path_ends (line_bound w) o r.0 r.1 (short numbers o r.0 r.1)

  pub downs_of : IsTree nodes → OfEachObject w down_agrees
  downs_of tree o x e =
      both_hold (once (down x)) _ (tree.single o (node x) (node_there o x e)) (all_listed (λ c. on_object w c (λ y. int_eq (up y) o)) (down x) each)
    where
      each : (c : ℤ) → IsTrue (lists (down x) c) → IsTrue (on_object w c (λ y. int_eq (up y) o))
      each c l =
          let z = tree.below o (node x) c (node_there o x e) l in let y = object_there c z.0 z.1 in
          ap (λ v. passes v (λ d. int_eq (up d) o)) y.1 ∙ subst (λ d. IsTrue (int_eq (up y.0) d)) (sym (ap (λ (n : Node). n.0) y.2) ∙ z.2) (integer_itself (up y.0))

  pub ups_of : IsTree nodes → OfEachObject w up_agrees
  ups_of tree o x e = go (tree.above o (node x) (node_there o x e))
    where
      go : (up x ≡ nowhere) ⊎ ((z : Node) × (nodes (up x) ≡ Some z) × IsTrue (lists z.1 o)) → IsTrue (up_agrees w o x)
      go (inl s) = first_of (is_nowhere (up x)) _ (subst (λ d. IsTrue (int_eq d nowhere)) (sym s) (integer_itself nowhere))
      go (inr z) =
          let y = object_there (up x) z.0 z.1 in
          second_of (is_nowhere (up x)) _ (ap (λ v. passes v (λ d. lists (down d) o)) y.1 ∙ subst (λ (n : Node). IsTrue (lists n.1 o)) y.2 z.2)

-- ---- the line of an object

abbrev pub parents : World → Nodes
parents = nodes (λ x. x.header.parent) (λ x. x.children)

abbrev pub places : World → Nodes
places = nodes (λ x. x.header.location) (λ x. x.contents)

pub line_of : (w : World) (n : ℕ) (q : ℤ) (ps : List ℤ) → Path (parents w) q ps → length ps ≤ n → line n w q ≡ ps
unfolding line
line_of w zero q [] h le = refl
line_of w zero q (p ∷ ps) h le = absurd (omega (arith, le))
line_of w (suc n) q [] h le = ap (line_onto (line n w) q) (object_none (λ x. x.header.parent) (λ x. x.children) w q h)
line_of w (suc n) q (p ∷ ps) h le =
    let x = object_there (λ y. y.header.parent) (λ y. y.children) w q h.1.0 h.1.1 in
    ap (line_onto (line n w) q) x.1
    ∙ (λ i. sym h.0 i ∷ line_of w n x.0.header.parent ps (subst (λ (y : Node). Path (parents w) y.0 ps) x.2 h.1.2) (omega (arith, le)) i)

pub ancestors_of : (w : World) (q : ℤ) (ps : List ℤ) → OfEachObject w number_fits → Path (parents w) q ps → ancestors w q ≡ ps
unfolding ancestors
ancestors_of w q ps numbers h = line_of w (line_bound w) q ps h (short (λ x. x.header.parent) (λ x. x.children) w numbers q ps h)
