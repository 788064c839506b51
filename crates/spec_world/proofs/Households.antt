-- What the objects of a well-formed world agree on, by paths and by what is found: the form in which changes are shown to keep it.
use Rattle.std.proofs.Common.{◌≡◌, ◌⊎◌, inl, inr, ℤ, pos, Bool, true, false, not, ◌&&◌, List, [], ◌∷◌, ◌++◌, map, Option, Some, None, refl, sym, ap, ◌∙◌, subst, cond, IsTrue, is_some, int_cmp}
use Rattle.std.specs.Prelude.{neg_ℤ, option_map, int_le}
use Rattle.std.specs.Ordering.{int_eq}
use Rattle.std.specs.List.{list_all}
use Rattle.std.specs.Cmp.{int_cmp_total}
use Rattle.std.specs.FinMap.Entries.{find-put, below_all, is_sorted-where_key}
use Rattle.spec_value.specs.Datum.{Text, same_text, fold_case}
use Rattle.spec_value.specs.Table.{Numbered, at, named, is_named, is_numbered, without}
use Rattle.spec_world.specs.World.{World, Object, object_at, with_object}
use Rattle.spec_world.specs.Inherit.{ancestors, slot_of, slot_at, content_of}
use Rattle.spec_world.specs.WellFormed.{OfEachObject, number_fits, folded_names, defined_on, has_name, names_once, slot_names, slots_agree, lists, IsWellFormed}
use Rattle.spec_world.specs.Agreeing.{ObjectsAgree}
use Rattle.spec_world.specs.Families.{change_at, change_object, changed_each, change_each}
use Rattle.spec_value.proofs.Entries.{first_holds, second_holds, both_hold}
use Rattle.spec_value.proofs.Same.{same_texts, text_itself, integer_itself}
use Rattle.spec_value.proofs.Keys.{as_type, as_test, still_sorted}
use Rattle.spec_world.proofs.Trees.{same_or_not, turned, either, first_of, second_of, Nodes, Path, IsTree, path_from}
use Rattle.spec_world.proofs.WorldTrees.{parents, places, tree_of, ends_of, downs_of, ups_of, ancestors_of}
use Rattle.spec_world.proofs.SlotTables.{key_there}

-- ---- tests of texts

pub all_named : (f : Text → Bool) (ts : List Text) → ((t : Text) → IsTrue (has_name ts t) → IsTrue (f t)) → IsTrue (list_all f ts)
all_named f [] each = refl
all_named f (t ∷ ts) each =
    both_hold (f t) _ (each t (first_of (same_text t t) _ (text_itself t))) (all_named f ts (λ u h. each u (second_of (same_text u t) _ h)))

pub of_named : (f : Text → Bool) (ts : List Text) → IsTrue (list_all f ts) → (t : Text) → IsTrue (has_name ts t) → IsTrue (f t)
of_named f [] h t k = cc
of_named f (s ∷ ts) h t k = go (of_named f ts (second_holds (f s) _ h) t) (either (same_text t s) _ k)
  where
    go : (IsTrue (has_name ts t) → IsTrue (f t)) → IsTrue (same_text t s) ⊎ IsTrue (has_name ts t) → IsTrue (f t)
    go later (inl e) = subst (λ z. IsTrue (f z)) (sym (same_texts t s e)) (first_holds (f s) _ h)
    go later (inr e) = later e

pub same_tests : (a b : Bool) → (IsTrue a → IsTrue b) → (IsTrue b → IsTrue a) → a ≡ b
same_tests true b f g = sym (f refl)
same_tests false true f g = g refl
same_tests false false f g = refl

-- where a folded name of these is
folded_back : (f : Text → Bool) (ts : List Text) → IsTrue (list_all (λ t. f (fold_case t)) ts) → (t : Text) → IsTrue (has_name (map fold_case ts) t)
    → IsTrue (f t)
folded_back f [] h t k = cc
folded_back f (s ∷ ts) h t k = go (folded_back f ts (second_holds (f (fold_case s)) _ h) t) (either (same_text t (fold_case s)) _ k)
  where
    go : (IsTrue (has_name (map fold_case ts) t) → IsTrue (f t)) → IsTrue (same_text t (fold_case s)) ⊎ IsTrue (has_name (map fold_case ts) t) → IsTrue (f t)
    go later (inl e) = subst (λ z. IsTrue (f z)) (sym (same_texts t (fold_case s) e)) (first_holds (f (fold_case s)) _ h)
    go later (inr e) = later e

folded_there : (f : Text → Bool) (ts : List Text) → ((t : Text) → IsTrue (has_name (map fold_case ts) t) → IsTrue (f t))
    → IsTrue (list_all (λ t. f (fold_case t)) ts)
folded_there f [] each = refl
folded_there f (s ∷ ts) each =
    both_hold (f (fold_case s)) _ (each (fold_case s) (first_of (same_text (fold_case s) (fold_case s)) _ (text_itself (fold_case s))))
    (folded_there f ts (λ t h. each t (second_of (same_text t (fold_case s)) _ h)))

-- ---- one object, on whose line these are

pub record Own (w : World) (x : Object) (ps : List ℤ) : Type 0 where
  pub sorted : IsTrue (is_named x.slots)
  pub once : IsTrue (names_once (defined_on w ps))
  pub slots : (t : Text) → is_some (named x.slots t) ≡ has_name (defined_on w ps) t
  pub filled : (t : Text) → IsTrue (has_name (map fold_case x.defines) t) → IsTrue (is_some (content_of (named x.slots t)))

pub record Household (w : World) : Type 0 where
  pub order : IsTrue (is_numbered w.objects)
  pub range : IsTrue (int_le (neg_ℤ (pos 1)) w.greatest && int_le w.greatest (pos 999999))
  pub numbers : OfEachObject w number_fits
  pub family : IsTree (parents w)
  pub whereabouts : IsTree (places w)
  pub own : (o : ℤ) (x : Object) (ps : List ℤ) → object_at w o ≡ Some x → Path (parents w) o ps → Own w x ps

slot_key : (w : World) (o : ℤ) (x : Object) → object_at w o ≡ Some x → (t : Text) → named x.slots (fold_case t) ≡ slot_at w o t
slot_key w o x e t = sym (ap (λ y. slot_of y t) e)

pub household : (w : World) → ObjectsAgree w → Household w
household w h =
    record {
      order = h.objects_in_order;
      range = h.greatest_in_range;
      numbers = h.numbers;
      family = tree_of (λ x. x.header.parent) (λ x. x.children) w h.numbers h.parents_end h.children h.parents;
      whereabouts = tree_of (λ x. x.header.location) (λ x. x.contents) w h.numbers h.locations_end h.contents h.locations;
      own = owns;
    }
  where
    owns : (o : ℤ) (x : Object) (ps : List ℤ) → object_at w o ≡ Some x → Path (parents w) o ps → Own w x ps
    owns o x ps e way =
        let line : ancestors w o ≡ ps = ancestors_of w o ps h.numbers way in
        let names = subst (λ qs. IsTrue (list_all (has_name (defined_on w qs)) (slot_names x) && list_all (has_name (slot_names x)) (defined_on w qs))) line (h.slots o x e) in
        record {
          sorted = h.slot_order o x e;
          once = subst (λ qs. IsTrue (names_once (defined_on w qs))) line (h.names_on_a_line o x e);
          slots = λ t. key_there x.slots t
              ∙ same_tests (has_name (slot_names x) t) (has_name (defined_on w ps) t)
              (of_named (has_name (defined_on w ps)) (slot_names x) (first_holds (list_all (has_name (defined_on w ps)) (slot_names x)) _ names) t)
              (of_named (has_name (slot_names x)) (defined_on w ps) (second_holds (list_all (has_name (defined_on w ps)) (slot_names x)) _ names) t);
          filled = folded_back (λ t. is_some (content_of (named x.slots t))) x.defines
              (subst (λ y. IsTrue (list_all (λ t. is_some (content_of (slot_of y t))) x.defines)) e (h.definers o x e));
        }

pub objects_agree : (w : World) → Household w → ObjectsAgree w
objects_agree w h =
    record {
      objects_in_order = h.order;
      greatest_in_range = h.range;
      numbers = h.numbers;
      parents_end = ends_of (λ x. x.header.parent) (λ x. x.children) w h.family h.numbers;
      locations_end = ends_of (λ x. x.header.location) (λ x. x.contents) w h.whereabouts h.numbers;
      children = downs_of (λ x. x.header.parent) (λ x. x.children) w h.family;
      parents = ups_of (λ x. x.header.parent) (λ x. x.children) w h.family;
      contents = downs_of (λ x. x.header.location) (λ x. x.contents) w h.whereabouts;
      locations = ups_of (λ x. x.header.location) (λ x. x.contents) w h.whereabouts;
      names_on_a_line = λ o x e. let r = way o in subst (λ qs. IsTrue (names_once (defined_on w qs))) (sym (line o r.0 r.1)) (h.own o x r.0 e r.1).once;
      slot_order = λ o x e. let r = way o in (h.own o x r.0 e r.1).sorted;
      slots = each_slot;
      definers = λ o x e. let r = way o in
          subst (λ y. IsTrue (list_all (λ t. is_some (content_of (slot_of y t))) x.defines)) (sym e)
          (folded_there (λ t. is_some (content_of (named x.slots t))) x.defines (h.own o x r.0 e r.1).filled);
    }
  where
    way : (o : ℤ) → (ps : List ℤ) × Path (parents w) o ps
    way o = path_from (parents w) h.family o

    line : (o : ℤ) (ps : List ℤ) → Path (parents w) o ps → ancestors w o ≡ ps
    line o ps = ancestors_of w o ps h.numbers

    each_slot : OfEachObject w slots_agree
    each_slot o x e =
        let r = way o in let own = h.own o x r.0 e r.1 in
        subst (λ qs. IsTrue (list_all (has_name (defined_on w qs)) (slot_names x) && list_all (has_name (slot_names x)) (defined_on w qs))) (sym (line o r.0 r.1))
        (both_hold (list_all (has_name (defined_on w r.0)) (slot_names x)) _
        (all_named (has_name (defined_on w r.0)) (slot_names x) (λ t k. sym (own.slots t) ∙ key_there x.slots t ∙ k))
        (all_named (has_name (slot_names x)) (defined_on w r.0) (λ t k. sym (key_there x.slots t) ∙ own.slots t ∙ k)))

pub objects_of : (w : World) → IsWellFormed w → ObjectsAgree w
objects_of w h =
    record {
      objects_in_order = h.objects_in_order;
      greatest_in_range = h.greatest_in_range;
      numbers = h.numbers;
      parents_end = h.parents_end;
      locations_end = h.locations_end;
      children = h.children;
      parents = h.parents;
      contents = h.contents;
      locations = h.locations;
      names_on_a_line = h.names_on_a_line;
      slot_order = h.slot_order;
      slots = h.slots;
      definers = h.definers;
    }

-- ---- what is found after a change

pub at_put : (w : World) (o q : ℤ) (x : Object) → object_at (with_object w o x) q ≡ cond (int_eq q o) (Some x) (object_at w q)
at_put w o q x = find-put int_cmp int_cmp_total q o x w.objects

pub at_changed : (w : World) (o q : ℤ) (f : Object → Object)
    → object_at (change_object w o f) q ≡ cond (int_eq q o) (option_map f (object_at w q)) (object_at w q)
at_changed w o q f = go (object_at w o) refl (same_or_not q o)
  where
    go : (y : Option Object) → object_at w o ≡ y → (q ≡ o) ⊎ (int_eq q o ≡ false)
        → object_at (change_at w o f y) q ≡ cond (int_eq q o) (option_map f (object_at w q)) (object_at w q)
    go None e (inl s) =
        let none : object_at w q ≡ None = ap (object_at w) s ∙ e in
        none ∙ sym (ap (λ b. cond b (option_map f (object_at w q)) (object_at w q)) (subst (λ z. int_eq q z ≡ true) s (integer_itself q)) ∙ ap (option_map f) none)
    go None e (inr s) = sym (ap (λ b. cond b (option_map f (object_at w q)) (object_at w q)) s)
    go (Some x) e (inl s) =
        let here : int_eq q o ≡ true = subst (λ z. int_eq q z ≡ true) s (integer_itself q) in
        at_put w o q (f x) ∙ ap (λ b. cond b (Some (f x)) (object_at w q)) here
        ∙ sym (ap (λ b. cond b (option_map f (object_at w q)) (object_at w q)) here ∙ ap (option_map f) (ap (object_at w) s ∙ e))
    go (Some x) e (inr s) =
        at_put w o q (f x) ∙ ap (λ b. cond b (Some (f x)) (object_at w q)) s ∙ sym (ap (λ b. cond b (option_map f (object_at w q)) (object_at w q)) s)

pub at_each : (w : World) (q : ℤ) (f : ℤ → Object → Object) → object_at (change_each w f) q ≡ option_map (f q) (object_at w q)
at_each w q f = go w.objects
  where
    go : (es : Numbered Object) → at (changed_each f es) q ≡ option_map (f q) (at es q)
    go [] = refl
    go (e ∷ es) = here (go es) (same_or_not q e.0)
      where
        here : at (changed_each f es) q ≡ option_map (f q) (at es q) → (q ≡ e.0) ⊎ (int_eq q e.0 ≡ false)
            → cond (int_eq q e.0) (Some (f e.0 e.1)) (at (changed_each f es) q) ≡ option_map (f q) (cond (int_eq q e.0) (Some e.1) (at es q))
        here rest (inl s) =
            let key : int_eq q e.0 ≡ true = subst (λ z. int_eq q z ≡ true) s (integer_itself q) in
            ap (λ b. cond b (Some (f e.0 e.1)) (at (changed_each f es) q)) key ∙ ap (λ z. Some (f z e.1)) (sym s) ∙ sym (ap (λ b. option_map (f q) (cond b (Some e.1) (at es q))) key)
        here rest (inr s) =
            ap (λ b. cond b (Some (f e.0 e.1)) (at (changed_each f es) q)) s ∙ rest ∙ sym (ap (λ b. option_map (f q) (cond b (Some e.1) (at es q))) s)

pub at_without : {X : Type 0} (es : Numbered X) (k q : ℤ) → at (without es k) q ≡ cond (int_eq q k) None (at es q)
at_without {X = X} [] k q = go (int_eq q k) None refl
  where
    go : (b : Bool) (o : Option X) → o ≡ None → o ≡ cond b None o
    go true o e = e
    go false o e = refl
at_without {X = X} (e ∷ es) k q = here (at_without es k q) (same_or_not q e.0) (same_or_not k e.0)
  where
    here : at (without es k) q ≡ cond (int_eq q k) None (at es q) → (q ≡ e.0) ⊎ (int_eq q e.0 ≡ false) → (k ≡ e.0) ⊎ (int_eq k e.0 ≡ false)
        → at (cond (not (int_eq k e.0)) (e ∷ without es k) (without es k)) q ≡ cond (int_eq q k) None (cond (int_eq q e.0) (Some e.1) (at es q))
    here rest (inl s) (inl d) =
        let key : int_eq k e.0 ≡ true = subst (λ z. int_eq k z ≡ true) d (integer_itself k) in
        let hit : int_eq q k ≡ true = subst (λ z. int_eq q z ≡ true) (s ∙ sym d) (integer_itself q) in
        ap (λ b. at (cond (not b) (e ∷ without es k) (without es k)) q) key ∙ rest ∙ ap (λ b. cond b None (at es q)) hit
        ∙ sym (ap (λ b. cond b None (cond (int_eq q e.0) (Some e.1) (at es q))) hit)
    here rest (inl s) (inr d) =
        let hit : int_eq q k ≡ false = subst (λ z. int_eq z k ≡ false) (sym s) (turned k e.0 d) in
        let key : int_eq q e.0 ≡ true = subst (λ z. int_eq q z ≡ true) s (integer_itself q) in
        ap (λ b. at (cond (not b) (e ∷ without es k) (without es k)) q) d ∙ ap (λ b. cond b (Some e.1) (at (without es k) q)) key
        ∙ sym (ap (λ b. cond b None (cond (int_eq q e.0) (Some e.1) (at es q))) hit ∙ ap (λ b. cond b (Some e.1) (at es q)) key)
    here rest (inr s) (inl d) =
        let key : int_eq k e.0 ≡ true = subst (λ z. int_eq k z ≡ true) d (integer_itself k) in
        ap (λ b. at (cond (not b) (e ∷ without es k) (without es k)) q) key ∙ rest ∙ ap (λ b. cond (int_eq q k) None (cond b (Some e.1) (at es q))) (sym s)
    here rest (inr s) (inr d) =
        ap (λ b. at (cond (not b) (e ∷ without es k) (without es k)) q) d ∙ ap (λ b. cond b (Some e.1) (at (without es k) q)) s ∙ rest
        ∙ ap (λ b. cond (int_eq q k) None (cond b (Some e.1) (at es q))) (sym s)

pub without_numbered : {X : Type 0} (es : Numbered X) (k : ℤ) → IsTrue (is_numbered es) → IsTrue (is_numbered (without es k))
without_numbered es k h = as_test _ (is_sorted-where_key int_cmp (λ z. not (int_eq k z)) es (as_type _ h))

each_above : (f : ℤ → Object → Object) (k : ℤ) (es : Numbered Object) → IsTrue (below_all int_cmp k es) → IsTrue (below_all int_cmp k (changed_each f es))
each_above f k [] h = refl
each_above f k (e ∷ es) h = both_hold _ _ (first_holds _ _ h) (each_above f k es (second_holds _ _ h))

pub each_numbered : (f : ℤ → Object → Object) (es : Numbered Object) → IsTrue (is_numbered es) → IsTrue (is_numbered (changed_each f es))
each_numbered f [] h = refl
each_numbered f (e ∷ es) h = both_hold _ _ (each_above f e.0 es (first_holds _ _ h)) (each_numbered f es (second_holds _ _ h))

pub change_numbered : (w : World) (o : ℤ) (f : Object → Object) → IsTrue (is_numbered w.objects) → IsTrue (is_numbered (change_object w o f).objects)
change_numbered w o f h = go (object_at w o)
  where
    go : (y : Option Object) → IsTrue (is_numbered (change_at w o f y).objects)
    go None = h
    go (Some x) = still_sorted int_cmp_total o (f x) w.objects h

pub change_greatest : (w : World) (o : ℤ) (f : Object → Object) → (change_object w o f).greatest ≡ w.greatest
change_greatest w o f = go (object_at w o)
  where
    go : (y : Option Object) → (change_at w o f y).greatest ≡ w.greatest
    go None = refl
    go (Some x) = refl

-- ---- names along a line

pub names_same : (w u : World) (ps : List ℤ) → ((q : ℤ) → IsTrue (lists ps q) → folded_names (object_at u q) ≡ folded_names (object_at w q))
    → defined_on u ps ≡ defined_on w ps
unfolding defined_on
names_same w u [] each = refl
names_same w u (p ∷ ps) each =
    λ i. each p (first_of (int_eq p p) _ (integer_itself p)) i ++ names_same w u ps (λ q h. each q (second_of (int_eq q p) _ h)) i

pub names_along : (w : World) (ps qs : List ℤ) → defined_on w (ps ++ qs) ≡ defined_on w ps ++ defined_on w qs
unfolding defined_on
names_along w [] qs = refl
names_along w (p ∷ ps) qs = ap (λ ts. folded_names (object_at w p) ++ ts) (names_along w ps qs) ∙ sym (append_again (folded_names (object_at w p)) (defined_on w ps) (defined_on w qs))
  where
    append_again : (xs ys zs : List Text) → (xs ++ ys) ++ zs ≡ xs ++ (ys ++ zs)
    append_again [] ys zs = refl
    append_again (x ∷ xs) ys zs = ap (λ l. x ∷ l) (append_again xs ys zs)

-- a world whose nodes are the same has the same tree
pub same_tree : (t s : Nodes) → ((q : ℤ) → t q ≡ s q) → IsTree s → IsTree t
same_tree t s e h = subst IsTree (λ i q. sym (e q) i) h

pub same_path : (t s : Nodes) → ((q : ℤ) → t q ≡ s q) → (q : ℤ) (ps : List ℤ) → Path t q ps → Path s q ps
same_path t s e q ps h = subst (λ r. Path r q ps) (λ i z. e z i) h
