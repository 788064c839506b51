-- What is picked of a table in which a record comes or goes.
use Rattle.std.proofs.Common.{◌≡◌, Bool, true, false, not, List, [], ◌∷◌, Option, Some, None, cond, is_eq, IfSome, IsTrue, refl, sym, ◌∙◌, ap, subst, Ordering, Less, Equal, Greater}
use Rattle.std.specs.List.{AllByRecursion}
use Rattle.std.specs.Ordering.{eq_by_cmp, is_lt}
use Rattle.std.specs.Cmp.{IsTotalOrder}
use Rattle.std.specs.FinMap.{put, is_sorted, IsAntisymmetric}
use Rattle.std.specs.FinMap.Entries.{by_order, where_key, below_all, is_sorted-where_key}
use Rattle.spec_value.proofs.Entries.{first_holds, second_holds, both_hold}
use Rattle.spec_value.proofs.Keys.{as_type, as_test, still_sorted}
use Rattle.world.specs.Picked.{pick, picked, changed}

-- what is less is neither equal nor greater
pub less_is : (r : Ordering) → IsTrue (is_lt r) → r ≡ Less
less_is Less h = refl
less_is Equal h = cc
less_is Greater h = cc

module _ {K : Type 0} {R : K → K → Ordering} (o : IsTotalOrder R) (exact : IsAntisymmetric R) where
  -- ---- a key below all others

  pub below_less : {X : Type 0} (j k : K) (es : List (K × X)) → R j k ≡ Less → IsTrue (below_all R k es) → IsTrue (below_all R j es)
  below_less j k [] e h = refl
  below_less j k (d ∷ es) e h =
      both_hold (is_lt (R j d.0)) (below_all R j es) (ap is_lt (o.trans j k d.0 e (less_is (R k d.0) (first_holds _ _ h)))) (below_less j k es e (second_holds _ _ h))

  put_first : {X : Type 0} (k : K) (x : X) (es : List (K × X)) → IsTrue (below_all R k es) → put R k x es ≡ (k, x) ∷ es
  put_first k x [] h = refl
  put_first k x (e ∷ es) h = ap (λ r. by_order r ((k, x) ∷ e ∷ es) ((e.0, x) ∷ es) (e ∷ put R k x es)) (less_is (R k e.0) (first_holds _ _ h))

  abbrev removed : {X : Type 0} → K → List (K × X) → List (K × X)
  removed k es = where_key R (λ j. not (eq_by_cmp R k j)) es

  none_removed : {X : Type 0} (k : K) (es : List (K × X)) → IsTrue (below_all R k es) → removed k es ≡ es
  none_removed k [] h = refl
  none_removed k (e ∷ es) h =
      (λ i. cond (not (is_eq (less_is (R k e.0) (first_holds _ _ h) i))) (e ∷ removed k es) (removed k es)) ∙ ap (λ ds. e ∷ ds) (none_removed k es (second_holds _ _ h))

  pub changed_first : {X : Type 0} (k : K) (x : Option X) (es : List (K × X)) → IsTrue (below_all R k es) → changed R k x es ≡ pick k x es
  changed_first k None es h = none_removed k es h
  changed_first k (Some x) es h = put_first k x es h

  -- ---- behind a first entry

  pub changed_behind : {X : Type 0} (k j : K) (x y : Option X) (es : List (K × X)) → R k j ≡ Greater → changed R k x (pick j y es) ≡ pick j y (changed R k x es)
  changed_behind k j x None es e = refl
  changed_behind k j None (Some y) es e = ap (λ r. cond (not (is_eq r)) ((j, y) ∷ removed k es) (removed k es)) e
  changed_behind k j (Some x) (Some y) es e = ap (λ r. by_order r ((k, x) ∷ (j, y) ∷ es) ((j, x) ∷ es) ((j, y) ∷ put R k x es)) e

  pub changed_there : {X : Type 0} (k j : K) (x y : Option X) (es : List (K × X)) → R k j ≡ Equal → IsTrue (below_all R j es) → changed R k x (pick j y es) ≡ pick j x es
  changed_there k j x None es e h =
      subst (λ i. changed R k x es ≡ pick i x es) (exact k j e) (changed_first k x es (subst (λ i. IsTrue (below_all R i es)) (sym (exact k j e)) h))
  changed_there k j None (Some y) es e h =
      ap (λ r. cond (not (is_eq r)) ((j, y) ∷ removed k es) (removed k es)) e ∙ none_removed k es (subst (λ i. IsTrue (below_all R i es)) (sym (exact k j e)) h)
  changed_there k j (Some x) (Some y) es e h = ap (λ r. by_order r ((k, x) ∷ (j, y) ∷ es) ((j, x) ∷ es) ((j, y) ∷ put R k x es)) e

  pub sorted_changed : {X : Type 0} (k : K) (x : Option X) (es : List (K × X)) → IsTrue (is_sorted R es) → IsTrue (is_sorted R (changed R k x es))
  sorted_changed k None es h = as_test _ (is_sorted-where_key R (λ j. not (eq_by_cmp R k j)) es (as_type _ h))
  sorted_changed k (Some x) es h = still_sorted o k x es h

  -- what all entries have, they have behind a change
  pub all_changed : {X : Type 0} (P : K × X → Type 0) (k : K) (x : Option X) (es : List (K × X)) → IfSome x (λ y. P (k, y)) → AllByRecursion P es → AllByRecursion P (changed R k x es)
  all_changed P k None [] own h = tt
  all_changed P k None (e ∷ es) own h = go (not (eq_by_cmp R k e.0)) (all_changed P k None es own h.1)
    where
      go : (b : Bool) → AllByRecursion P (removed k es) → AllByRecursion P (cond b (e ∷ removed k es) (removed k es))
      go true rest = (h.0, rest)
      go false rest = rest
  all_changed P k (Some x) [] own h = (own, tt)
  all_changed P k (Some x) (e ∷ es) own h = go (R k e.0) refl (all_changed P k (Some x) es own h.1)
    where
      go : (r : Ordering) → R k e.0 ≡ r → AllByRecursion P (put R k x es) → AllByRecursion P (by_order r ((k, x) ∷ e ∷ es) ((e.0, x) ∷ es) (e ∷ put R k x es))
      go Less t rest = (own, h)
      go Equal t rest = (subst (λ i. P (i, x)) (exact k e.0 t) own, h.1)
      go Greater t rest = (h.0, rest)

  -- ---- what is picked

  below_picked : {X Y : Type 0} (f : X → Option Y) (k : K) (es : List (K × X)) → IsTrue (below_all R k es) → IsTrue (below_all R k (picked f es))
  below_picked f k [] h = refl
  below_picked {Y = Y} f k (e ∷ es) h = go (below_picked f k es (second_holds _ _ h)) (f e.1)
    where
      go : IsTrue (below_all R k (picked f es)) → (y : Option Y) → IsTrue (below_all R k (pick e.0 y (picked f es)))
      go rest None = rest
      go rest (Some y) = both_hold (is_lt (R k e.0)) (below_all R k (picked f es)) (first_holds _ _ h) rest

  pub picked_put : {X Y : Type 0} (f : X → Option Y) (k : K) (x : X) (es : List (K × X)) → IsTrue (is_sorted R es) → picked f (put R k x es) ≡ changed R k (f x) (picked f es)
  picked_put {Y = Y} f k x [] h = go (f x)
    where
      go : (y : Option Y) → pick k y [] ≡ changed R k y []
      go None = refl
      go (Some y) = refl
  picked_put {Y = Y} f k x (e ∷ es) h = go (R k e.0) refl (picked_put f k x es (second_holds _ _ h))
    where
      above : IsTrue (below_all R e.0 es)
      above = first_holds _ _ h

      go : (r : Ordering) → R k e.0 ≡ r → picked f (put R k x es) ≡ changed R k (f x) (picked f es)
          → picked f (by_order r ((k, x) ∷ e ∷ es) ((e.0, x) ∷ es) (e ∷ put R k x es)) ≡ changed R k (f x) (pick e.0 (f e.1) (picked f es))
      go Less t later =
          sym (changed_first k (f x) (picked f (e ∷ es)) (below_picked f k (e ∷ es) (both_hold (is_lt (R k e.0)) (below_all R k es) (ap is_lt t) (below_less k e.0 es t above))))
      go Equal t later = sym (changed_there k e.0 (f x) (f e.1) (picked f es) t (below_picked f e.0 es above))
      go Greater t later = ap (pick e.0 (f e.1)) later ∙ sym (changed_behind k e.0 (f x) (f e.1) (picked f es) t)

  pub picked_removed : {X Y : Type 0} (f : X → Option Y) (k : K) (es : List (K × X)) → picked f (removed k es) ≡ removed k (picked f es)
  picked_removed f k [] = refl
  picked_removed {Y = Y} f k (e ∷ es) = go (picked_removed f k es) (not (eq_by_cmp R k e.0)) refl
    where
      kept : (y : Option Y) (ds : List (K × Y)) → not (eq_by_cmp R k e.0) ≡ true → removed k (pick e.0 y ds) ≡ pick e.0 y (removed k ds)
      kept None ds t = refl
      kept (Some y) ds t = ap (λ b. cond b ((e.0, y) ∷ removed k ds) (removed k ds)) t

      gone : (y : Option Y) (ds : List (K × Y)) → not (eq_by_cmp R k e.0) ≡ false → removed k (pick e.0 y ds) ≡ removed k ds
      gone None ds t = refl
      gone (Some y) ds t = ap (λ b. cond b ((e.0, y) ∷ removed k ds) (removed k ds)) t

      go : picked f (removed k es) ≡ removed k (picked f es) → (b : Bool) → not (eq_by_cmp R k e.0) ≡ b
          → picked f (cond b (e ∷ removed k es) (removed k es)) ≡ removed k (pick e.0 (f e.1) (picked f es))
      go later true t = ap (pick e.0 (f e.1)) later ∙ sym (kept (f e.1) (picked f es) t)
      go later false t = later ∙ sym (gone (f e.1) (picked f es) t)
