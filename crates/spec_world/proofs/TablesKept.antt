-- What entries of a table hold, once each, when one is put there or some go.
use Rattle.std.proofs.Common.{◌≡◌, ◌⊎◌, inl, inr, ℤ, Bool, true, false, not, ◌||◌, List, [], ◌∷◌, ◌++◌, Some, None, refl, sym, ap, ◌∙◌, subst, cond, IsTrue, is_eq, int_cmp, Ordering, Less, Equal, Greater}
use Rattle.std.specs.Ordering.{int_eq, is_lt}
use Rattle.std.specs.List.{filter}
use Rattle.std.specs.Cmp.{int_cmp_total}
use Rattle.std.specs.FinMap.Entries.{by_order, below_all, find-put}
use Rattle.std.proofs.lemmas.List.Folds.{list_any-append}
use Rattle.spec_value.specs.Table.{Numbered, at, with, is_numbered}
use Rattle.spec_world.specs.WellFormed.{lists, once}
use Rattle.spec_value.proofs.Entries.{first_holds, second_holds, both_hold}
use Rattle.spec_value.proofs.Same.{same_integer, integer_itself}
use Rattle.spec_world.proofs.Trees.{same_or_not, some_same, either, first_of, second_of}
use Rattle.spec_world.proofs.Recycling.{below_none}

-- ---- lists without a repetition

denied : (a : Bool) → IsTrue (not a) → a ≡ false
denied true h = cc
denied false h = refl

deny : (a : Bool) → a ≡ false → IsTrue (not a)
deny true h = cc
deny false h = refl

pub last_no : (a b : Bool) → (a || b) ≡ false → b ≡ false
last_no true b h = cc
last_no false b h = h

pub first_no : (a b : Bool) → (a || b) ≡ false → a ≡ false
first_no true b h = cc
first_no false b h = refl

pub neither : (a b : Bool) → a ≡ false → b ≡ false → (a || b) ≡ false
neither true b h k = cc
neither false b h k = k

pub lists_both : (xs ys : List ℤ) (c : ℤ) → lists (xs ++ ys) c ≡ (lists xs c || lists ys c)
lists_both xs ys c = list_any-append (int_eq c) xs ys

abbrev Disjoint : List ℤ → List ℤ → Type 0
Disjoint xs ys = (c : ℤ) → IsTrue (lists xs c) → lists ys c ≡ false

pub join_once : (xs ys : List ℤ) → IsTrue (once xs) → IsTrue (once ys) → Disjoint xs ys → IsTrue (once (xs ++ ys))
unfolding once
join_once [] ys h k apart = k
join_once (x ∷ xs) ys h k apart =
    both_hold _ _ (deny _ (lists_both xs ys x ∙ neither _ _ (denied _ (first_holds _ _ h)) (apart x (first_of (int_eq x x) _ (integer_itself x)))))
    (join_once xs ys (second_holds _ _ h) k (λ c l. apart c (second_of (int_eq c x) _ l)))

first_once : (xs ys : List ℤ) → IsTrue (once (xs ++ ys)) → IsTrue (once xs)
unfolding once
first_once [] ys h = refl
first_once (x ∷ xs) ys h = both_hold _ _ (deny _ (first_no (lists xs x) (lists ys x) (sym (lists_both xs ys x) ∙ denied _ (first_holds _ _ h)))) (first_once xs ys (second_holds _ _ h))

second_once : (xs ys : List ℤ) → IsTrue (once (xs ++ ys)) → IsTrue (once ys)
unfolding once
second_once [] ys h = h
second_once (x ∷ xs) ys h = second_once xs ys (second_holds _ _ h)

once_disjoint : (xs ys : List ℤ) → IsTrue (once (xs ++ ys)) → Disjoint xs ys
unfolding once
once_disjoint [] ys h c l = cc
once_disjoint (x ∷ xs) ys h c l = go (once_disjoint xs ys (second_holds _ _ h) c) (either (int_eq c x) _ l)
  where
    go : (IsTrue (lists xs c) → lists ys c ≡ false) → IsTrue (int_eq c x) ⊎ IsTrue (lists xs c) → lists ys c ≡ false
    go later (inl e) = subst (λ z. lists ys z ≡ false) (sym (same_integer c x e)) (last_no (lists xs x) (lists ys x) (sym (lists_both xs ys x) ∙ denied _ (first_holds _ _ h)))
    go later (inr e) = later e

-- ---- what all entries hold

module _ {X : Type 0} (f : X → List ℤ) where
  unfoldable pub held_by : Numbered X → List ℤ
  held_by [] = []
  held_by (e ∷ es) = f e.1 ++ held_by es

  held_put : (i : ℤ) (x : X) (es : Numbered X) (c : ℤ) → IsTrue (lists (held_by (with es i x)) c) → IsTrue (lists (f x) c) ⊎ IsTrue (lists (held_by es) c)
  unfolding held_by
  held_put i x [] c l = either (lists (f x) c) false (sym (lists_both (f x) [] c) ∙ l)
  held_put i x (e ∷ es) c l = go (held_put i x es c) (int_cmp i e.0) l
    where
      go : (IsTrue (lists (held_by (with es i x)) c) → IsTrue (lists (f x) c) ⊎ IsTrue (lists (held_by es) c)) → (r : Ordering)
          → IsTrue (lists (held_by (by_order r ((i, x) ∷ e ∷ es) ((e.0, x) ∷ es) (e ∷ with es i x))) c)
          → IsTrue (lists (f x) c) ⊎ IsTrue (lists (f e.1 ++ held_by es) c)
      go later Less l = either (lists (f x) c) _ (sym (lists_both (f x) (f e.1 ++ held_by es) c) ∙ l)
      go later Equal l = by (either (lists (f x) c) _ (sym (lists_both (f x) (held_by es) c) ∙ l))
        where
          by : IsTrue (lists (f x) c) ⊎ IsTrue (lists (held_by es) c) → IsTrue (lists (f x) c) ⊎ IsTrue (lists (f e.1 ++ held_by es) c)
          by (inl k) = inl k
          by (inr k) = inr (lists_both (f e.1) (held_by es) c ∙ second_of (lists (f e.1) c) _ k)
      go later Greater l = by (either (lists (f e.1) c) _ (sym (lists_both (f e.1) (held_by (with es i x)) c) ∙ l))
        where
          on : IsTrue (lists (f x) c) ⊎ IsTrue (lists (held_by es) c) → IsTrue (lists (f x) c) ⊎ IsTrue (lists (f e.1 ++ held_by es) c)
          on (inl k) = inl k
          on (inr k) = inr (lists_both (f e.1) (held_by es) c ∙ second_of (lists (f e.1) c) _ k)

          by : IsTrue (lists (f e.1) c) ⊎ IsTrue (lists (held_by (with es i x)) c) → IsTrue (lists (f x) c) ⊎ IsTrue (lists (f e.1 ++ held_by es) c)
          by (inl k) = inr (lists_both (f e.1) (held_by es) c ∙ first_of (lists (f e.1) c) _ k)
          by (inr k) = on (later k)

  -- an entry that holds what no other one holds
  pub held_once : (i : ℤ) (x : X) (es : Numbered X) → IsTrue (once (f x)) → Disjoint (f x) (held_by es) → IsTrue (once (held_by es))
      → IsTrue (once (held_by (with es i x)))
  unfolding held_by
  held_once i x [] h apart k = join_once (f x) [] h k apart
  held_once i x (e ∷ es) h apart k =
      go (held_once i x es h (λ c l. last_no (lists (f e.1) c) _ (sym (lists_both (f e.1) (held_by es) c) ∙ apart c l)) (second_once (f e.1) (held_by es) k)) (int_cmp i e.0)
    where
      go : IsTrue (once (held_by (with es i x))) → (r : Ordering) → IsTrue (once (held_by (by_order r ((i, x) ∷ e ∷ es) ((e.0, x) ∷ es) (e ∷ with es i x))))
      go later Less = join_once (f x) (f e.1 ++ held_by es) h k apart
      go later Equal = join_once (f x) (held_by es) h (second_once (f e.1) (held_by es) k) (λ c l. last_no (lists (f e.1) c) _ (sym (lists_both (f e.1) (held_by es) c) ∙ apart c l))
      go later Greater = join_once (f e.1) (held_by (with es i x)) (first_once (f e.1) (held_by es) k) later far
        where
          far : (c : ℤ) → IsTrue (lists (f e.1) c) → lists (held_by (with es i x)) c ≡ false
          far c l = by (lists (held_by (with es i x)) c) refl
            where
              on : IsTrue (lists (f x) c) ⊎ IsTrue (lists (held_by es) c) → lists (held_by (with es i x)) c ≡ false
              on (inl m) = let clash : lists (f e.1) c ≡ false = first_no (lists (f e.1) c) _ (sym (lists_both (f e.1) (held_by es) c) ∙ apart c m) in absurd (cc (clash, l))
              on (inr m) = let clash : lists (held_by es) c ≡ false = once_disjoint (f e.1) (held_by es) k c l in absurd (cc (clash, m))

              by : (b : Bool) → lists (held_by (with es i x)) c ≡ b → lists (held_by (with es i x)) c ≡ false
              by false m = m
              by true m = on (held_put i x es c m)

  -- some entries go
  held_left : (p : ℤ × X → Bool) (es : Numbered X) (c : ℤ) → IsTrue (lists (held_by (filter p es)) c) → IsTrue (lists (held_by es) c)
  unfolding held_by
  held_left p [] c l = l
  held_left p (e ∷ es) c l = go (held_left p es c) (p e) l
    where
      go : (IsTrue (lists (held_by (filter p es)) c) → IsTrue (lists (held_by es) c)) → (b : Bool)
          → IsTrue (lists (held_by (cond b (e ∷ filter p es) (filter p es))) c) → IsTrue (lists (f e.1 ++ held_by es) c)
      go later false l = lists_both (f e.1) (held_by es) c ∙ second_of (lists (f e.1) c) _ (later l)
      go later true l = lists_both (f e.1) (held_by es) c ∙ by (either (lists (f e.1) c) _ (sym (lists_both (f e.1) (held_by (filter p es)) c) ∙ l))
        where
          by : IsTrue (lists (f e.1) c) ⊎ IsTrue (lists (held_by (filter p es)) c) → IsTrue (lists (f e.1) c || lists (held_by es) c)
          by (inl k) = first_of (lists (f e.1) c) _ k
          by (inr k) = second_of (lists (f e.1) c) _ (later k)

  pub left_once : (p : ℤ × X → Bool) (es : Numbered X) → IsTrue (once (held_by es)) → IsTrue (once (held_by (filter p es)))
  unfolding held_by
  left_once p [] h = h
  left_once p (e ∷ es) h = go (left_once p es (second_once (f e.1) (held_by es) h)) (p e)
    where
      go : IsTrue (once (held_by (filter p es))) → (b : Bool) → IsTrue (once (held_by (cond b (e ∷ filter p es) (filter p es))))
      go later false = later
      go later true = join_once (f e.1) (held_by (filter p es)) (first_once (f e.1) (held_by es) h) later far
        where
          far : (c : ℤ) → IsTrue (lists (f e.1) c) → lists (held_by (filter p es)) c ≡ false
          far c l = by (lists (held_by (filter p es)) c) refl
            where
              by : (b : Bool) → lists (held_by (filter p es)) c ≡ b → lists (held_by (filter p es)) c ≡ false
              by false m = m
              by true m = let clash : lists (held_by es) c ≡ false = once_disjoint (f e.1) (held_by es) h c l in absurd (cc (clash, held_left p es c m))

  -- an entry that holds the same as the one before it
  pub same_held : (i : ℤ) (x y : X) (es : Numbered X) → IsTrue (is_numbered es) → at es i ≡ Some y → f x ≡ f y → held_by (with es i x) ≡ held_by es
  unfolding held_by
  same_held i x y [] h is e = cc
  same_held i x y (d ∷ es) h is e = go (same_held i x y es (second_holds _ _ h)) (int_cmp i d.0) refl is
    where
      further : (k : ℤ) (gs : Numbered X) → int_cmp i k ≡ Less → IsTrue (below_all int_cmp k gs) → IsTrue (below_all int_cmp i gs)
      further k [] l b = refl
      further k (g ∷ gs) l b = both_hold _ _ (ap is_lt (int_cmp_total.trans i k g.0 l (is_less (int_cmp k g.0) (first_holds _ _ b)))) (further k gs l (second_holds _ _ b))
        where
          is_less : (r : Ordering) → IsTrue (is_lt r) → r ≡ Less
          is_less Less m = refl
          is_less Equal m = cc
          is_less Greater m = cc

      go : (at es i ≡ Some y → f x ≡ f y → held_by (with es i x) ≡ held_by es) → (r : Ordering) → int_cmp i d.0 ≡ r
          → cond (is_eq r) (Some d.1) (at es i) ≡ Some y
          → held_by (by_order r ((i, x) ∷ d ∷ es) ((d.0, x) ∷ es) (d ∷ with es i x)) ≡ f d.1 ++ held_by es
      go later Less l m = let clash : None ≡ Some y = sym (below_none i es (further d.0 es l (first_holds _ _ h))) ∙ m in absurd (cc (clash))
      go later Equal l m = ap (λ z. z ++ held_by es) (e ∙ ap f (sym (some_same m)))
      go later Greater l m = ap (λ z. f d.1 ++ z) (later m e)

module _ {X : Type 0} where
  pub at_with : (es : Numbered X) (i q : ℤ) (x : X) → at (with es i x) q ≡ cond (int_eq q i) (Some x) (at es q)
  at_with es i q x = find-put int_cmp int_cmp_total q i x es

  -- an entry that is found there is one of those that stay
  pub at_left : (p : ℤ × X → Bool) (es : Numbered X) → IsTrue (is_numbered es) → (i : ℤ) (x : X) → at (filter p es) i ≡ Some x
      → (at es i ≡ Some x) × IsTrue (p (i, x))
  at_left p [] h i x e = cc
  at_left p (d ∷ es) h i x e = go (at_left p es (second_holds _ _ h) i x) (same_or_not i d.0) (p d) refl e
    where
      go : (at (filter p es) i ≡ Some x → (at es i ≡ Some x) × IsTrue (p (i, x))) → (i ≡ d.0) ⊎ (int_eq i d.0 ≡ false) → (b : Bool) → p d ≡ b
          → at (cond b (d ∷ filter p es) (filter p es)) i ≡ Some x → (cond (int_eq i d.0) (Some d.1) (at es i) ≡ Some x) × IsTrue (p (i, x))
      go later (inl s) true k m =
          let hit : int_eq i d.0 ≡ true = subst (λ z. int_eq i z ≡ true) s (integer_itself i) in
          let same : d.1 ≡ x = some_same (sym (ap (λ b. cond b (Some d.1) (at (filter p es) i)) hit) ∙ m) in
          (ap (λ b. cond b (Some d.1) (at es i)) hit ∙ ap Some same, (λ j. p (s j, sym same j)) ∙ k)
      go later (inl s) false k m =
          let r = later m in let clash : None ≡ Some x = sym (ap (at es) s ∙ below_none d.0 es (first_holds _ _ h)) ∙ r.0 in absurd (cc (clash))
      go later (inr s) true k m =
          let r = later (sym (ap (λ b. cond b (Some d.1) (at (filter p es) i)) s) ∙ m) in (ap (λ b. cond b (Some d.1) (at es i)) s ∙ r.0, r.1)
      go later (inr s) false k m = let r = later m in (ap (λ b. cond b (Some d.1) (at es i)) s ∙ r.0, r.1)

  below_left : (p : ℤ × X → Bool) (k : ℤ) (es : Numbered X) → IsTrue (below_all int_cmp k es) → IsTrue (below_all int_cmp k (filter p es))
  below_left p k [] h = refl
  below_left p k (e ∷ es) h = go (below_left p k es (second_holds _ _ h)) (p e)
    where
      go : IsTrue (below_all int_cmp k (filter p es)) → (b : Bool) → IsTrue (below_all int_cmp k (cond b (e ∷ filter p es) (filter p es)))
      go later true = both_hold _ _ (first_holds _ _ h) later
      go later false = later

  pub left_numbered : (p : ℤ × X → Bool) (es : Numbered X) → IsTrue (is_numbered es) → IsTrue (is_numbered (filter p es))
  left_numbered p [] h = refl
  left_numbered p (e ∷ es) h = go (left_numbered p es (second_holds _ _ h)) (p e)
    where
      go : IsTrue (is_numbered (filter p es)) → (b : Bool) → IsTrue (is_numbered (cond b (e ∷ filter p es) (filter p es)))
      go later true = both_hold _ _ (below_left p e.0 es (first_holds _ _ h)) later
      go later false = later
