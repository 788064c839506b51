-- An object that goes: its children go to its parent one after another, its contents are nowhere, and then nothing knows of it.
use Rattle.std.proofs.Common.{◌≡◌, ◌⊎◌, inl, inr, ℤ, pos, Bool, true, false, not, ◌&&◌, ◌||◌, List, [], ◌∷◌, ◌++◌, map, Option, Some, None, refl, sym, ap, ◌∙◌, subst, cond, IsTrue, is_some, is_eq, int_cmp, Ordering, Less, Equal, Greater}
use Rattle.std.proofs.Common.{append-nil}
use Rattle.std.specs.Prelude.{neg_ℤ, option_map, int_le}
use Rattle.std.specs.Ordering.{is_lt}
use Rattle.std.specs.Ordering.{int_eq}
use Rattle.std.specs.List.{list_any}
use Rattle.std.specs.FinMap.Entries.{below_all}
use Rattle.spec_value.specs.Datum.{Text, same_text, fold_case}
use Rattle.spec_value.specs.Table.{Numbered, at, named, is_named, is_numbered, without}
use Rattle.spec_world.specs.World.{World, Object, object_at}
use Rattle.spec_world.specs.Inherit.{ancestors, content_of}
use Rattle.spec_world.specs.WellFormed.{folded_names, defined_on, has_name, names_once, lists, once}
use Rattle.spec_world.specs.Families.{nowhere, change_object, leave_out, is_below, lose_child, reparented, reparented_each, to_nowhere, out_of_place, recycled_object, recycled, shares_name, clashes}
use Rattle.spec_value.proofs.Entries.{first_holds, second_holds}
use Rattle.spec_value.proofs.Same.{text_itself, integer_itself}
use Rattle.spec_world.proofs.Trees.{same_or_not, turned, other, some_same, either, first_of, second_of, nothing_left, Node, Nodes, Path, path_from, one_path, never_again, hung_under, gone, gone_tree, path_without}
use Rattle.spec_world.proofs.WorldTrees.{parents, places, node_there, object_there, ancestors_of}
use Rattle.spec_world.proofs.SlotTables.{has_both, once_apart}
use Rattle.spec_world.proofs.Households.{Own, Household, at_without, without_numbered, change_numbered, change_greatest, names_same, same_tree, same_path}
use Rattle.spec_world.proofs.ObjectChanges.{kin, spot, at_change}
use Rattle.spec_world.proofs.PropertyChanges.{below_is}
use Rattle.spec_world.proofs.Reparenting.{name_of_member, reparented_household, reparented_parents, reparented_places}

-- ---- entries and what is found

pub below_none : {X : Type 0} (k : ℤ) (es : Numbered X) → IsTrue (below_all int_cmp k es) → at es k ≡ None
below_none k [] h = refl
below_none k (e ∷ es) h = go (below_none k es (second_holds _ _ h)) (int_cmp k e.0) (first_holds _ _ h)
  where
    go : at es k ≡ None → (r : Ordering) → IsTrue (is_lt r) → cond (is_eq r) (Some e.1) (at es k) ≡ None
    go later Less i = later
    go later Equal i = cc
    go later Greater i = later

-- no entry passes a test that nothing that is found passes
pub none_found : (test : ℤ → Object → Bool) (es : Numbered Object) → IsTrue (is_numbered es)
    → ((q : ℤ) (x : Object) → at es q ≡ Some x → test q x ≡ false) → list_any (λ e. test e.0 e.1) es ≡ false
none_found test [] h each = refl
none_found test (e ∷ es) h each =
    (λ i. each e.0 e.1 (ap (λ b. cond b (Some e.1) (at es e.0)) (integer_itself e.0)) i || none_found test es (second_holds _ _ h) (λ q x k. each q x (behind q x k)) i)
  where
    behind : (q : ℤ) (x : Object) → at es q ≡ Some x → cond (int_eq q e.0) (Some e.1) (at es q) ≡ Some x
    behind q x k = go (same_or_not q e.0)
      where
        go : (q ≡ e.0) ⊎ (int_eq q e.0 ≡ false) → cond (int_eq q e.0) (Some e.1) (at es q) ≡ Some x
        go (inl s) = let clash : None ≡ Some x = sym (below_none e.0 es (first_holds _ _ h)) ∙ ap (at es) (sym s) ∙ k in absurd (cc (clash))
        go (inr s) = ap (λ b. cond b (Some e.1) (at es q)) s ∙ k

-- ---- names

names_within : (w : World) (us rest : List ℤ) → ((r : ℤ) → IsTrue (lists us r) → IsTrue (lists rest r)) → (t : Text)
    → IsTrue (has_name (defined_on w us) t) → IsTrue (has_name (defined_on w rest) t)
unfolding defined_on
names_within w [] rest each t k = cc
names_within w (u ∷ us) rest each t k =
    go (names_within w us rest (λ r l. each r (second_of (int_eq r u) _ l)) t) (either (has_name (folded_names (object_at w u)) t) _ (sym (has_both (folded_names (object_at w u)) (defined_on w us) t) ∙ k))
  where
    go : (IsTrue (has_name (defined_on w us) t) → IsTrue (has_name (defined_on w rest) t))
        → IsTrue (has_name (folded_names (object_at w u)) t) ⊎ IsTrue (has_name (defined_on w us) t) → IsTrue (has_name (defined_on w rest) t)
    go later (inl i) = name_of_member w rest u t (each u (first_of (int_eq u u) _ (integer_itself u))) i
    go later (inr i) = later i

none_shared : (ts us : List Text) → ((t : Text) → IsTrue (has_name ts t) → has_name us t ≡ false) → shares_name ts us ≡ false
none_shared [] us each = refl
none_shared (s ∷ ts) us each =
    λ i. each s (first_of (same_text s s) _ (text_itself s)) i || none_shared ts us (λ t k. each t (second_of (same_text t s) _ k)) i

-- what stands above a member of a path stands on the path
upper_members : (t : Nodes) (c : ℤ) (us : List ℤ) → Path t c (c ∷ us) → (q r0 : ℤ) (rest : List ℤ) → Path t q (r0 ∷ rest)
    → IsTrue (lists (r0 ∷ rest) c) → (r : ℤ) → IsTrue (lists us r) → IsTrue (lists rest r)
upper_members t c us way q r0 [] h l r k = go (same_or_not c r0)
  where
    go : (c ≡ r0) ⊎ (int_eq c r0 ≡ false) → IsTrue (lists [] r)
    go (inl e) = let same : c ∷ us ≡ r0 ∷ [] = one_path t q (c ∷ us) (r0 ∷ []) (subst (λ z. Path t z (c ∷ us)) (e ∙ h.0) way) h in subst (λ l. IsTrue (lists l r)) (ap tail same) k
      where
        tail : List ℤ → List ℤ
        tail [] = []
        tail (z ∷ zs) = zs
    go (inr e) = let clash : false ≡ true = ap (λ b. b || false) (sym e) ∙ l in absurd (cc (clash))
upper_members t c us way q r0 (r1 ∷ rest) h l r k = go (same_or_not c r0) (upper_members t c us way h.1.0.0 r1 rest h.1.2)
  where
    go : (c ≡ r0) ⊎ (int_eq c r0 ≡ false) → (IsTrue (lists (r1 ∷ rest) c) → (r : ℤ) → IsTrue (lists us r) → IsTrue (lists rest r))
        → IsTrue (lists (r1 ∷ rest) r)
    go (inl e) later = let same : c ∷ us ≡ r0 ∷ r1 ∷ rest = one_path t q (c ∷ us) (r0 ∷ r1 ∷ rest) (subst (λ z. Path t z (c ∷ us)) (e ∙ h.0) way) h in subst (λ l. IsTrue (lists l r)) (ap tail same) k
      where
        tail : List ℤ → List ℤ
        tail [] = []
        tail (z ∷ zs) = zs
    go (inr e) later = second_of (int_eq r r1) _ (later (ap (λ b. b || lists (r1 ∷ rest) c) (sym e) ∙ l) r k)

-- ---- a child goes to its parent's parent

module _ (w : World) (o p c : ℤ) (cs : List ℤ) (h : Household w) (at_o : parents w o ≡ Some (p, c ∷ cs)) where
  child : (y : Node) × (parents w c ≡ Some y) × (y.0 ≡ o)
  child = h.family.below o (p, c ∷ cs) c at_o (first_of (int_eq c c) _ (integer_itself c))

  abbrev child_object : (x : Object) × (object_at w c ≡ Some x) × (child.0 ≡ kin x)
  child_object = object_there (λ z. z.header.parent) (λ z. z.children) w c child.0 child.1

  parent_way : (us : List ℤ) × Path (parents w) p us
  parent_way = path_from (parents w) h.family p

  own_way : Path (parents w) o (o ∷ parent_way.0)
  own_way = (refl, ((p, c ∷ cs), at_o, parent_way.1))

  child_way : Path (parents w) c (c ∷ o ∷ parent_way.0)
  child_way = (refl, (child.0, child.1, subst (λ z. Path (parents w) z (o ∷ parent_way.0)) (sym child.2) own_way))

  not_again : lists (o ∷ parent_way.0) c ≡ false
  not_again = never_again (parents w) c c (o ∷ parent_way.0) child_way

  last_false : (a b : Bool) → (a || b) ≡ false → b ≡ false
  last_false true b j = cc
  last_false false b j = j

  first_false : (a b : Bool) → (a || b) ≡ false → a ≡ false
  first_false true b j = cc
  first_false false b j = refl

  outside : is_below w c p ≡ false
  outside = below_is w c p parent_way.0 h.numbers parent_way.1 ∙ last_false (int_eq c o) _ not_again

  valid : (p ≡ nowhere) ⊎ IsTrue (is_some (object_at w p))
  valid = go (h.family.above o (p, c ∷ cs) at_o)
    where
      go : (p ≡ nowhere) ⊎ ((z : Node) × (parents w p ≡ Some z) × IsTrue (lists z.1 o)) → (p ≡ nowhere) ⊎ IsTrue (is_some (object_at w p))
      go (inl e) = inl e
      go (inr z) = let y = object_there (λ v. v.header.parent) (λ v. v.children) w p z.0 z.1 in inr (ap is_some y.1)

  clear : clashes w c p ≡ false
  unfolding clashes defined_on
  clear = none_found (λ q y. is_below w c q && shares_name (folded_names (Some y)) (defined_on w (ancestors w p))) w.objects h.order each
    where
      each : (q : ℤ) (y : Object) → object_at w q ≡ Some y → (is_below w c q && shares_name (folded_names (Some y)) (defined_on w (ancestors w p))) ≡ false
      each q y e = go (is_below w c q) refl
        where
          way : (ps : List ℤ) × Path (parents w) q ps
          way = path_from (parents w) h.family q

          apart : (ps : List ℤ) → Path (parents w) q ps → IsTrue (lists ps c) → IsTrue (names_once (defined_on w ps)) → (t : Text)
              → IsTrue (has_name (map fold_case y.defines) t) → has_name (defined_on w parent_way.0) t ≡ false
          apart [] qs l once t k = cc
          apart (r ∷ ps) qs l once t k = by (has_name (defined_on w parent_way.0) t) refl
            where
              by : (b : Bool) → has_name (defined_on w parent_way.0) t ≡ b → has_name (defined_on w parent_way.0) t ≡ false
              by false i = i
              by true i =
                  let far : has_name (defined_on w ps) t ≡ false =
                  once_apart (folded_names (object_at w r)) (defined_on w ps) once t (subst (λ m. IsTrue (has_name (folded_names m) t)) (sym (ap (object_at w) qs.0 ∙ e)) k) in
                  let known = names_within w parent_way.0 ps (λ z m. upper_members (parents w) c (o ∷ parent_way.0) child_way q r ps qs l z (second_of (int_eq z o) _ m)) t i in
                  absurd (cc (far, known))

          go : (b : Bool) → is_below w c q ≡ b → (b && shares_name (map fold_case y.defines) (defined_on w (ancestors w p))) ≡ false
          go false i = refl
          go true i =
              ap (λ l. shares_name (map fold_case y.defines) (defined_on w l)) (ancestors_of w p parent_way.0 h.numbers parent_way.1)
              ∙ none_shared (map fold_case y.defines) (defined_on w parent_way.0)
              (apart way.0 way.1 (sym (below_is w c q way.0 h.numbers way.1) ∙ i) (h.own q y way.0 e way.1).once)

  abbrev next : World
  next = reparented w c p

  pub child_household : Household next
  child_household = reparented_household w c p child_object.0 child_object.1 h valid outside clear

  -- the object has one child less
  pub fewer_children : parents next o ≡ Some (p, cs)
  unfolding once
  fewer_children =
      reparented_parents w c p child_object.0 child_object.1 h valid outside clear o
      ∙ ap (option_map (λ (n : Node). (cond (int_eq o c) p n.0, leave_out c n.1 ++ hung_under c p o))) at_o
      ∙ ap Some (λ i. (cond (turned c o (first_false (int_eq c o) _ not_again) i) p p, left i ++ cond (not_parent i) (c ∷ []) []))
      ∙ ap Some (λ i. (p, append-nil cs i))
    where
      denied : (a : Bool) → IsTrue (not a) → a ≡ false
      denied true e = cc
      denied false e = refl

      left : leave_out c (c ∷ cs) ≡ cs
      left =
          ap (λ b. cond (not b) (c ∷ leave_out c cs) (leave_out c cs)) (integer_itself c)
          ∙ nothing_left c cs (denied _ (first_holds _ _ (h.family.single o (p, c ∷ cs) at_o)))

      not_parent : int_eq o p ≡ false
      not_parent = go (same_or_not o p)
        where
          go : (o ≡ p) ⊎ (int_eq o p ≡ false) → int_eq o p ≡ false
          go (inl e) = by parent_way.0 parent_way.1 (never_again (parents w) o o parent_way.0 own_way)
            where
              by : (us : List ℤ) → Path (parents w) p us → lists us o ≡ false → int_eq o p ≡ false
              by [] way l = let clash : None ≡ Some (p, c ∷ cs) = sym (ap (parents w) e ∙ way) ∙ at_o in absurd (cc (clash))
              by (u ∷ us) way l = let clash : int_eq o u ≡ true = subst (λ z. int_eq o z ≡ true) (e ∙ sym way.0) (integer_itself o) in absurd (cc (clash, first_false (int_eq o u) _ l))
          go (inr e) = e

  pub same_spots : (q : ℤ) → places next q ≡ places w q
  same_spots = reparented_places w c p child_object.0 child_object.1 h valid outside clear

-- all of them
pub record Childless (w v : World) (o p : ℤ) : Type 0 where
  pub household : Household v
  pub at_object : parents v o ≡ Some (p, [])
  pub spots : (q : ℤ) → places v q ≡ places w q

pub childless : (w : World) (o p : ℤ) (cs : List ℤ) → Household w → parents w o ≡ Some (p, cs) → Childless w (reparented_each w cs p) o p
childless w o p [] h at_o = record { household = h; at_object = at_o; spots = λ q. refl }
childless w o p (c ∷ cs) h at_o =
    let r = childless (reparented w c p) o p cs (child_household w o p c cs h at_o) (fewer_children w o p c cs h at_o) in
    record { household = r.household; at_object = r.at_object; spots = λ q. r.spots q ∙ same_spots w o p c cs h at_o q }

-- ---- the contents are nowhere

abbrev put_nowhere : Object → Object
put_nowhere y = record y { header = record (y.header) { location = nowhere } }

emptied : (v : World) (cs : List ℤ) (q : ℤ) → object_at (to_nowhere v cs) q ≡ option_map (λ y. cond (lists cs q) (put_nowhere y) y) (object_at v q)
emptied v [] q = go (object_at v q)
  where
    go : (m : Option Object) → m ≡ option_map (λ y. y) m
    go None = refl
    go (Some y) = refl
emptied v (c ∷ cs) q =
    emptied (change_object v c put_nowhere) cs q ∙ ap (option_map (λ y. cond (lists cs q) (put_nowhere y) y)) (at_change v c q put_nowhere) ∙ go (object_at v q) (int_eq q c) (lists cs q)
  where
    go : (m : Option Object) (a b : Bool)
        → option_map (λ y. cond b (put_nowhere y) y) (option_map (λ y. cond a (put_nowhere y) y) m) ≡ option_map (λ y. cond (a || b) (put_nowhere y) y) m
    go None a b = refl
    go (Some y) true true = refl
    go (Some y) true false = refl
    go (Some y) false true = refl
    go (Some y) false false = refl

emptied_rest : (v : World) (cs : List ℤ)
    → (IsTrue (is_numbered v.objects) → IsTrue (is_numbered (to_nowhere v cs).objects)) × ((to_nowhere v cs).greatest ≡ v.greatest)
emptied_rest v [] = ((λ h. h), refl)
emptied_rest v (c ∷ cs) =
    let r = emptied_rest (change_object v c put_nowhere) cs in
    ((λ h. r.0 (change_numbered v c put_nowhere h)), r.1 ∙ change_greatest v c put_nowhere)

-- ---- nothing knows of it

module _ (v : World) (o p place : ℤ) (inside : List ℤ) (h : Household v) (at_o : parents v o ≡ Some (p, [])) (spot_o : places v o ≡ Some (place, inside)) where
  abbrev without_relatives : World
  without_relatives = out_of_place (lose_child (to_nowhere v inside) p o) place o

  abbrev forgotten : World
  forgotten = record without_relatives { objects = without without_relatives.objects o }

  abbrev changes : ℤ → Object → Object
  changes q y =
      let y1 : Object = cond (lists inside q) (put_nowhere y) y in
      let y2 : Object = cond (int_eq q p) (record y1 { children = leave_out o y1.children }) y1 in
      cond (int_eq q place) (record y2 { contents = leave_out o y2.contents }) y2

  there_without : (q : ℤ) → object_at without_relatives q ≡ option_map (changes q) (object_at v q)
  there_without q =
      at_change _ place q (λ z. record z { contents = leave_out o z.contents })
      ∙ ap (option_map (λ z. cond (int_eq q place) (record z { contents = leave_out o z.contents }) z))
      (at_change (to_nowhere v inside) p q (λ z. record z { children = leave_out o z.children }) ∙ ap (option_map (λ z. cond (int_eq q p) (record z { children = leave_out o z.children }) z)) (emptied v inside q))
      ∙ joined (object_at v q)
    where
      joined : (m : Option Object)
          → option_map (λ z. cond (int_eq q place) (record z { contents = leave_out o z.contents }) z)
          (option_map (λ z. cond (int_eq q p) (record z { children = leave_out o z.children }) z) (option_map (λ y. cond (lists inside q) (put_nowhere y) y) m))
          ≡ option_map (changes q) m
      joined None = refl
      joined (Some y) = refl

  there_then : (q : ℤ) → object_at forgotten q ≡ cond (int_eq q o) None (option_map (changes q) (object_at v q))
  there_then q = at_without without_relatives.objects o q ∙ ap (cond (int_eq q o) None) (there_without q)

  found : (q : ℤ) (z : Object) → object_at forgotten q ≡ Some z → (int_eq q o ≡ false) × ((y : Object) × (object_at v q ≡ Some y) × (z ≡ changes q y))
  found q z e = go (int_eq q o) refl (object_at v q) refl (sym (there_then q) ∙ e)
    where
      go : (b : Bool) → int_eq q o ≡ b → (m : Option Object) → object_at v q ≡ m → cond b None (option_map (changes q) m) ≡ Some z
          → (int_eq q o ≡ false) × ((y : Object) × (object_at v q ≡ Some y) × (z ≡ changes q y))
      go true s m k i = absurd (cc (i))
      go false s None k i = absurd (cc (i))
      go false s (Some y) k i = (s, (y, k, some_same (sym i)))

  parts : (y : Object) (a b c : Bool)
      → (let y1 : Object = cond a (put_nowhere y) y in
      let y2 : Object = cond b (record y1 { children = leave_out o y1.children }) y1 in
      let y3 : Object = cond c (record y2 { contents = leave_out o y2.contents }) y2 in
      (kin y3 ≡ (y.header.parent, cond b (leave_out o y.children) y.children)) × ((spot y3 ≡ (cond a nowhere y.header.location, cond c (leave_out o y.contents) y.contents)) × ((y3.slots ≡ y.slots) × (y3.defines ≡ y.defines))))
  parts y true true true = (refl, (refl, (refl, refl)))
  parts y true true false = (refl, (refl, (refl, refl)))
  parts y true false true = (refl, (refl, (refl, refl)))
  parts y true false false = (refl, (refl, (refl, refl)))
  parts y false true true = (refl, (refl, (refl, refl)))
  parts y false true false = (refl, (refl, (refl, refl)))
  parts y false false true = (refl, (refl, (refl, refl)))
  parts y false false false = (refl, (refl, (refl, refl)))

  part : (q : ℤ) (y : Object) → (kin (changes q y) ≡ (y.header.parent, cond (int_eq q p) (leave_out o y.children) y.children))
      × ((spot (changes q y) ≡ (cond (lists inside q) nowhere y.header.location, cond (int_eq q place) (leave_out o y.contents) y.contents)) × (((changes q y).slots ≡ y.slots) × ((changes q y).defines ≡ y.defines)))
  part q y = parts y (lists inside q) (int_eq q p) (int_eq q place)

  -- no object has it as its parent
  alone : (q : ℤ) (n : Node) → parents v q ≡ Some n → int_eq n.0 o ≡ false
  alone q n e = go (same_or_not n.0 o) (h.family.above q n e)
    where
      go : (n.0 ≡ o) ⊎ (int_eq n.0 o ≡ false) → (n.0 ≡ nowhere) ⊎ ((z : Node) × (parents v n.0 ≡ Some z) × IsTrue (lists z.1 q)) → int_eq n.0 o ≡ false
      go (inr s) up = s
      go (inl s) (inl i) = let clash : None ≡ Some (p, []) = sym (ap (parents v) (sym s ∙ i) ∙ h.family.nobody) ∙ at_o in absurd (cc (clash))
      go (inl s) (inr z) =
          let same : z.0 ≡ (p, []) = some_same (sym z.1 ∙ ap (parents v) s ∙ at_o) in
          let clash : false ≡ true = subst (λ (m : Node). IsTrue (lists m.1 q)) same z.2 in absurd (cc (clash))

  then_parents : (q : ℤ) → parents forgotten q ≡ gone (parents v) o q
  then_parents q = ap (option_map kin) (there_then q) ∙ go (same_or_not q o) (object_at v q) refl
    where
      go : (q ≡ o) ⊎ (int_eq q o ≡ false) → (m : Option Object) → object_at v q ≡ m
          → option_map kin (cond (int_eq q o) None (option_map (changes q) m)) ≡ cond (int_eq q o) None (option_map (λ (n : Node). (cond (int_eq n.0 o) nowhere n.0, leave_out o n.1)) (option_map kin m))
      go (inl s) m e = let hit : int_eq q o ≡ true = subst (λ z. int_eq q z ≡ true) s (integer_itself q) in ap (λ b. option_map kin (cond b None (option_map (changes q) m))) hit ∙ sym (ap (λ b. cond b None (option_map (λ (n : Node). (cond (int_eq n.0 o) nowhere n.0, leave_out o n.1)) (option_map kin m))) hit)
      go (inr s) None e = ap (λ b. option_map kin (cond b None None)) s ∙ sym (ap (λ b. cond b None None) s)
      go (inr s) (Some y) e =
          ap (λ b. option_map kin (cond b None (Some (changes q y)))) s ∙ ap Some (part q y).0
          ∙ (λ i. Some (cond (sym (alone q (kin y) (node_there (λ z. z.header.parent) (λ z. z.children) v q y e)) i) nowhere y.header.parent, listed (same_or_not q p) i))
          ∙ sym (ap (λ b. cond b None (Some (cond (int_eq y.header.parent o) nowhere y.header.parent, leave_out o y.children))) s)
        where
          listed : (q ≡ p) ⊎ (int_eq q p ≡ false) → cond (int_eq q p) (leave_out o y.children) y.children ≡ leave_out o y.children
          listed (inl i) = ap (λ b. cond b (leave_out o y.children) y.children) (subst (λ z. int_eq q z ≡ true) i (integer_itself q))
          listed (inr i) = ap (λ b. cond b (leave_out o y.children) y.children) i ∙ sym (nothing_left o y.children (by (lists y.children o) refl))
            where
              by : (b : Bool) → lists y.children o ≡ b → lists y.children o ≡ false
              by false k = k
              by true k =
                  let d = h.family.below q (kin y) o (node_there (λ z. z.header.parent) (λ z. z.children) v q y e) k in
                  let same : d.0 ≡ (p, []) = some_same (sym d.1 ∙ at_o) in absurd (other q p i (sym d.2 ∙ ap (λ (n : Node). n.0) same))

  then_places : (q : ℤ) → places forgotten q ≡ gone (places v) o q
  then_places q = ap (option_map spot) (there_then q) ∙ go (same_or_not q o) (object_at v q) refl
    where
      go : (q ≡ o) ⊎ (int_eq q o ≡ false) → (m : Option Object) → object_at v q ≡ m
          → option_map spot (cond (int_eq q o) None (option_map (changes q) m)) ≡ cond (int_eq q o) None (option_map (λ (n : Node). (cond (int_eq n.0 o) nowhere n.0, leave_out o n.1)) (option_map spot m))
      go (inl s) m e = let hit : int_eq q o ≡ true = subst (λ z. int_eq q z ≡ true) s (integer_itself q) in ap (λ b. option_map spot (cond b None (option_map (changes q) m))) hit ∙ sym (ap (λ b. cond b None (option_map (λ (n : Node). (cond (int_eq n.0 o) nowhere n.0, leave_out o n.1)) (option_map spot m))) hit)
      go (inr s) None e = ap (λ b. option_map spot (cond b None None)) s ∙ sym (ap (λ b. cond b None None) s)
      go (inr s) (Some y) e =
          ap (λ b. option_map spot (cond b None (Some (changes q y)))) s ∙ ap Some (part q y).1.0
          ∙ (λ i. Some (cond (is_inside i) nowhere y.header.location, listed (same_or_not q place) i))
          ∙ sym (ap (λ b. cond b None (Some (cond (int_eq y.header.location o) nowhere y.header.location, leave_out o y.contents))) s)
        where
          here : places v q ≡ Some (spot y)
          here = node_there (λ z. z.header.location) (λ z. z.contents) v q y e

          is_inside : lists inside q ≡ int_eq y.header.location o
          is_inside = by (lists inside q) refl (same_or_not y.header.location o)
            where
              by : (b : Bool) → lists inside q ≡ b → (y.header.location ≡ o) ⊎ (int_eq y.header.location o ≡ false)
                  → lists inside q ≡ int_eq y.header.location o
              by true k d =
                  let z = h.whereabouts.below o (place, inside) q spot_o k in
                  let same : z.0 ≡ spot y = some_same (sym z.1 ∙ here) in
                  k ∙ sym (subst (λ j. int_eq y.header.location j ≡ true) (sym (ap (λ (n : Node). n.0) same) ∙ z.2) (integer_itself y.header.location))
              by false k (inr d) = k ∙ sym d
              by false k (inl d) = on (h.whereabouts.above q (spot y) here)
                where
                  on : (y.header.location ≡ nowhere) ⊎ ((z : Node) × (places v y.header.location ≡ Some z) × IsTrue (lists z.1 q))
                      → lists inside q ≡ int_eq y.header.location o
                  on (inl i) = let clash : None ≡ Some (place, inside) = sym (ap (places v) (sym d ∙ i) ∙ h.whereabouts.nobody) ∙ spot_o in absurd (cc (clash))
                  on (inr z) =
                      let same : z.0 ≡ (place, inside) = some_same (sym z.1 ∙ ap (places v) d ∙ spot_o) in
                      let clash : IsTrue (lists inside q) = subst (λ (m : Node). IsTrue (lists m.1 q)) same z.2 in absurd (cc (clash, k))

          listed : (q ≡ place) ⊎ (int_eq q place ≡ false) → cond (int_eq q place) (leave_out o y.contents) y.contents ≡ leave_out o y.contents
          listed (inl i) = ap (λ b. cond b (leave_out o y.contents) y.contents) (subst (λ z. int_eq q z ≡ true) i (integer_itself q))
          listed (inr i) = ap (λ b. cond b (leave_out o y.contents) y.contents) i ∙ sym (nothing_left o y.contents (by (lists y.contents o) refl))
            where
              by : (b : Bool) → lists y.contents o ≡ b → lists y.contents o ≡ false
              by false k = k
              by true k =
                  let d = h.whereabouts.below q (spot y) o here k in
                  let same : d.0 ≡ (place, inside) = some_same (sym d.1 ∙ spot_o) in absurd (other q place i (sym d.2 ∙ ap (λ (n : Node). n.0) same))

  -- a path from another object does not come by it
  avoids : (q : ℤ) (ps : List ℤ) → int_eq q o ≡ false → Path (parents v) q ps → lists ps o ≡ false
  avoids q [] s way = refl
  avoids q (r ∷ ps) s way = λ i. turned r o (subst (λ z. int_eq z o ≡ false) (sym way.0) s) i || avoids way.1.0.0 ps (alone q way.1.0 way.1.1) way.1.2 i

  then_names : (ps : List ℤ) → lists ps o ≡ false → defined_on forgotten ps ≡ defined_on v ps
  then_names ps l = names_same v forgotten ps each
    where
      each : (r : ℤ) → IsTrue (lists ps r) → folded_names (object_at forgotten r) ≡ folded_names (object_at v r)
      each r k = go (same_or_not r o)
        where
          same : (m : Option Object) → folded_names (option_map (changes r) m) ≡ folded_names m
          same None = refl
          same (Some y) = ap (map fold_case) (part r y).1.1.1

          go : (r ≡ o) ⊎ (int_eq r o ≡ false) → folded_names (object_at forgotten r) ≡ folded_names (object_at v r)
          go (inl e) = let clash : lists ps r ≡ false = subst (λ z. lists ps z ≡ false) (sym e) l in absurd (cc (clash, k))
          go (inr e) = ap folded_names (there_then r ∙ ap (λ b. cond b None (option_map (changes r) (object_at v r))) e) ∙ same (object_at v r)

  each_own : (q : ℤ) (z : Object) (qs : List ℤ) → object_at forgotten q ≡ Some z → Path (parents forgotten) q qs → Own forgotten z qs
  each_own q z qs e now =
      let f = found q z e in
      let way = path_from (parents v) h.family q in
      let line : way.0 ≡ qs =
      one_path (gone (parents v) o) q way.0 qs (path_without (parents v) o h.family alone q way.0 f.0 way.1) (same_path (parents forgotten) (gone (parents v) o) then_parents q qs now) in
      let own = h.own q f.1.0 way.0 f.1.1 way.1 in
      let slots : z.slots ≡ f.1.0.slots = ap (λ (m : Object). m.slots) f.1.2 ∙ (part q f.1.0).1.1.0 in
      let defines : z.defines ≡ f.1.0.defines = ap (λ (m : Object). m.defines) f.1.2 ∙ (part q f.1.0).1.1.1 in
      let names : defined_on forgotten way.0 ≡ defined_on v way.0 = then_names way.0 (avoids q way.0 f.0 way.1) in
      subst (λ l. Own forgotten z l) line
      (record {
        sorted = subst (λ es. IsTrue (is_named es)) (sym slots) own.sorted;
        once = subst (λ ts. IsTrue (names_once ts)) (sym names) own.once;
        slots = λ t. ap (λ es. is_some (named es t)) slots ∙ own.slots t ∙ ap (λ ts. has_name ts t) (sym names);
        filled = λ t k. subst (λ es. IsTrue (is_some (content_of (named es t)))) (sym slots) (own.filled t (subst (λ ds. IsTrue (has_name (map fold_case ds) t)) defines k));
      })

  then_greatest : forgotten.greatest ≡ v.greatest
  then_greatest =
      change_greatest (lose_child (to_nowhere v inside) p o) place (λ z. record z { contents = leave_out o z.contents })
      ∙ change_greatest (to_nowhere v inside) p (λ z. record z { children = leave_out o z.children }) ∙ (emptied_rest v inside).1

  pub forgotten_household : Household forgotten
  forgotten_household =
      record {
        order =
            without_numbered without_relatives.objects o
            (change_numbered (lose_child (to_nowhere v inside) p o) place (λ z. record z { contents = leave_out o z.contents })
            (change_numbered (to_nowhere v inside) p (λ z. record z { children = leave_out o z.children }) ((emptied_rest v inside).0 h.order)));
        range = subst (λ g. IsTrue (int_le (neg_ℤ (pos 1)) g && int_le g (pos 999999))) (sym then_greatest) h.range;
        numbers = λ q z e. let f = found q z e in subst (λ g. IsTrue (int_le (pos 0) q && int_le q g)) (sym then_greatest) (h.numbers q f.1.0 f.1.1);
        family = same_tree (parents forgotten) (gone (parents v) o) then_parents (gone_tree (parents v) o h.family);
        whereabouts = same_tree (places forgotten) (gone (places v) o) then_places (gone_tree (places v) o h.whereabouts);
        own = each_own;
      }

pub recycled_household : (w : World) (o : ℤ) → Household w → Household (recycled w o)
unfolding recycled
recycled_household w o h = go (object_at w o) refl
  where
    go : (m : Option Object) → object_at w o ≡ m → Household (recycled_object w o m)
    go None e = h
    go (Some x) e =
        let r = childless w o x.header.parent x.children h (node_there (λ z. z.header.parent) (λ z. z.children) w o x e) in
        forgotten_household (reparented_each w x.children x.header.parent) o x.header.parent x.header.location x.contents r.household r.at_object
        (r.spots o ∙ node_there (λ z. z.header.location) (λ z. z.contents) w o x e)
