-- An object with another parent: it and those below it lose what they no longer inherit, and inherit what the new parent has.
use Rattle.std.proofs.Common.{◌≡◌, ◌⊎◌, inl, inr, ℤ, pos, Bool, true, false, ◌&&◌, ◌||◌, List, [], ◌∷◌, ◌++◌, map, Option, Some, None, refl, sym, ap, ◌∙◌, subst, cond, IsTrue, is_some}
use Rattle.std.proofs.Common.{append-nil}
use Rattle.std.specs.Prelude.{neg_ℤ, option_map, int_le}
use Rattle.std.specs.Ordering.{int_eq}
use Rattle.std.specs.List.{filter}
use Rattle.spec_value.specs.Datum.{Text, same_text, fold_case}
use Rattle.spec_value.specs.Table.{named, is_named}
use Rattle.spec_world.specs.World.{World, Object, Slot, object_at}
use Rattle.spec_world.specs.Inherit.{ancestors, content_of}
use Rattle.spec_world.specs.WellFormed.{folded_names, defined_on, has_name, names_once, lists}
use Rattle.spec_world.specs.Families.{nowhere, leave_out, is_below, up_to, parent_of, common_ancestors, kept_names, heir_of, with_heirs, put_below, reparented, shares_name, clashes, heir_slot, heir_slots, slots_at, slots_named}
use Rattle.spec_value.proofs.Same.{same_integer, same_texts, integer_itself}
use Rattle.spec_world.proofs.Trees.{same_or_not, other, some_same, either, first_of, second_of, nothing_left, Node, Path, path_from, one_path, hung_under, rehung, rehung_tree, path_stays, path_over}
use Rattle.spec_world.proofs.WorldTrees.{parents, places, node_there, object_there, ancestors_of}
use Rattle.spec_world.proofs.SlotTables.{named_heirs, named_kept, named_both, or_first, kept_sorted, both_sorted, has_both, Apart, once_both, once_first}
use Rattle.spec_world.proofs.Households.{Own, Household, at_each, each_numbered, change_numbered, change_greatest, names_same, names_along, same_tree, same_path}
use Rattle.spec_world.proofs.ObjectChanges.{kin, spot, at_change}
use Rattle.spec_world.proofs.PropertyChanges.{none_passes, below_is}

-- ---- names and members of lists

-- a name of a member is a name of the list
pub name_of_member : (w : World) (us : List ℤ) (r : ℤ) (t : Text) → IsTrue (lists us r) → IsTrue (has_name (folded_names (object_at w r)) t)
    → IsTrue (has_name (defined_on w us) t)
unfolding defined_on
name_of_member w [] r t l k = cc
name_of_member w (u ∷ us) r t l k = has_both (folded_names (object_at w u)) (defined_on w us) t ∙ go (name_of_member w us r t) (either (int_eq r u) _ l)
  where
    go : (IsTrue (lists us r) → IsTrue (has_name (folded_names (object_at w r)) t) → IsTrue (has_name (defined_on w us) t))
        → IsTrue (int_eq r u) ⊎ IsTrue (lists us r)
        → IsTrue (has_name (folded_names (object_at w u)) t || has_name (defined_on w us) t)
    go later (inl e) = first_of _ _ (subst (λ z. IsTrue (has_name (folded_names (object_at w z)) t)) (same_integer r u e) k)
    go later (inr e) = second_of (has_name (folded_names (object_at w u)) t) _ (later e k)

names_among : (w : World) (ps us : List ℤ) (t : Text) → IsTrue (has_name (defined_on w (filter (lists us) ps)) t) → IsTrue (has_name (defined_on w us) t)
unfolding defined_on
names_among w [] us t k = cc
names_among w (p ∷ ps) us t k = go (names_among w ps us t) (lists us p) refl k
  where
    go : (IsTrue (has_name (defined_on w (filter (lists us) ps)) t) → IsTrue (has_name (defined_on w us) t)) → (b : Bool) → lists us p ≡ b
        → IsTrue (has_name (defined_on w (cond b (p ∷ filter (lists us) ps) (filter (lists us) ps))) t) → IsTrue (has_name (defined_on w us) t)
    go later false e j = later j
    go later true e j = by (either (has_name (folded_names (object_at w p)) t) _ (sym (has_both (folded_names (object_at w p)) (defined_on w (filter (lists us) ps)) t) ∙ j))
      where
        by : IsTrue (has_name (folded_names (object_at w p)) t) ⊎ IsTrue (has_name (defined_on w (filter (lists us) ps)) t)
            → IsTrue (has_name (defined_on w us) t)
        by (inl i) = name_of_member w us p t e i
        by (inr i) = later i

-- a list is what stands up to a member, and the rest
cut_at : (o : ℤ) (ps : List ℤ) → (rest : List ℤ) × (ps ≡ up_to o ps ++ rest)
cut_at o [] = ([], refl)
cut_at o (p ∷ ps) = go (cut_at o ps) (int_eq o p)
  where
    go : ((rest : List ℤ) × (ps ≡ up_to o ps ++ rest)) → (b : Bool) → (rest : List ℤ) × (p ∷ ps ≡ cond b (p ∷ []) (p ∷ up_to o ps) ++ rest)
    go later true = (ps, refl)
    go later false = (later.0, ap (λ qs. p ∷ qs) later.1)

not_shared : (ts us : List Text) → shares_name ts us ≡ false → (t : Text) → IsTrue (has_name ts t) → has_name us t ≡ false
not_shared [] us e t k = cc
not_shared (s ∷ ts) us e t k = go (not_shared ts us (last_false (has_name us s) _ e) t) (either (same_text t s) _ k)
  where
    last_false : (a b : Bool) → (a || b) ≡ false → b ≡ false
    last_false true b j = cc
    last_false false b j = j

    first_false : (a b : Bool) → (a || b) ≡ false → a ≡ false
    first_false true b j = cc
    first_false false b j = refl

    go : (IsTrue (has_name ts t) → has_name us t ≡ false) → IsTrue (same_text t s) ⊎ IsTrue (has_name ts t) → has_name us t ≡ false
    go later (inl i) = subst (λ z. has_name us z ≡ false) (sym (same_texts t s i)) (first_false (has_name us s) _ e)
    go later (inr i) = later i

-- the slots that an heir of an object, or of nobody, begins with
pub slots_above : (w : World) (h : Household w) (p : ℤ) (us : List ℤ) → Path (parents w) p us → (t : Text)
    → is_some (named (slots_at (object_at w p)) t) ≡ has_name (defined_on w us) t
unfolding defined_on
slots_above w h p us way t = go (object_at w p) refl us way
  where
    go : (m : Option Object) → object_at w p ≡ m → (us : List ℤ) → Path (parents w) p us → is_some (named (slots_at m) t) ≡ has_name (defined_on w us) t
    go None e [] way = refl
    go None e (q ∷ us) way = let clash : None ≡ Some way.1.0 = sym (ap (option_map kin) e) ∙ way.1.1 in absurd (cc (clash))
    go (Some z) e us way = (h.own p z us e way).slots t

pub names_above : (w : World) (h : Household w) (p : ℤ) (us : List ℤ) → Path (parents w) p us → IsTrue (names_once (defined_on w us))
unfolding defined_on names_once
names_above w h p us way = go (object_at w p) refl us way
  where
    go : (m : Option Object) → object_at w p ≡ m → (us : List ℤ) → Path (parents w) p us → IsTrue (names_once (defined_on w us))
    go None e [] way = refl
    go None e (q ∷ us) way = let clash : None ≡ Some way.1.0 = sym (ap (option_map kin) e) ∙ way.1.1 in absurd (cc (clash))
    go (Some z) e us way = (h.own p z us e way).once

-- ---- the change

module _ (w : World) (o p : ℤ) (x : Object) (is : object_at w o ≡ Some x) (h : Household w) (there : (p ≡ nowhere) ⊎ IsTrue (is_some (object_at w p)))
    (outside : is_below w o p ≡ false) (clear : clashes w o p ≡ false) where
  abbrev heirs : ℤ → Object → Object
  heirs d y = cond (is_below w o d) (heir_of w o p d y) y

  abbrev hung : World
  hung = put_below (with_heirs w o p) o x.header.parent p

  abbrev first_change : ℤ → Object → Object
  first_change q y = cond (int_eq q x.header.parent) (record y { children = leave_out o y.children }) y

  abbrev second_change : ℤ → Object → Object
  second_change q y = cond (int_eq q o) (record y { header = record (y.header) { parent = p } }) y

  abbrev third_change : ℤ → Object → Object
  third_change q y = cond (int_eq q p) (record y { children = y.children ++ o ∷ [] }) y

  abbrev all_changes : ℤ → Object → Object
  all_changes q y = third_change q (second_change q (first_change q (heirs q y)))

  there_hung : (q : ℤ)
      → object_at hung q ≡ option_map (third_change q) (option_map (second_change q) (option_map (first_change q) (option_map (heirs q) (object_at w q))))
  there_hung q =
      at_change _ p q _ ∙ ap (option_map (third_change q)) (at_change _ o q _ ∙ ap (option_map (second_change q)) (at_change _ x.header.parent q _ ∙ ap (option_map (first_change q)) (at_each w q heirs)))

  found : (q : ℤ) (z : Object) → object_at hung q ≡ Some z → (y : Object) × (object_at w q ≡ Some y) × (z ≡ all_changes q y)
  found q z e = go (object_at w q) refl
    where
      go : (m : Option Object) → object_at w q ≡ m → (y : Object) × (object_at w q ≡ Some y) × (z ≡ all_changes q y)
      go None k =
          let clash : None ≡ Some z = sym (there_hung q ∙ ap (λ m. option_map (third_change q) (option_map (second_change q) (option_map (first_change q) (option_map (heirs q) m)))) k) ∙ e in
          absurd (cc (clash))
      go (Some y) k =
          (y, k, some_same (sym e ∙ there_hung q ∙ ap (λ m. option_map (third_change q) (option_map (second_change q) (option_map (first_change q) (option_map (heirs q) m)))) k))

  -- heirs differ in their slots alone
  same_kin : (q : ℤ) (y : Object) → (heirs q y).children ≡ y.children
  same_kin q y = go (is_below w o q)
    where
      go : (b : Bool) → (cond b (heir_of w o p q y) y).children ≡ y.children
      go true = refl
      go false = refl

  same_header : (q : ℤ) (y : Object) → (heirs q y).header ≡ y.header
  same_header q y = go (is_below w o q)
    where
      go : (b : Bool) → (cond b (heir_of w o p q y) y).header ≡ y.header
      go true = refl
      go false = refl

  same_defines : (q : ℤ) (y : Object) → (heirs q y).defines ≡ y.defines
  same_defines q y = go (is_below w o q)
    where
      go : (b : Bool) → (cond b (heir_of w o p q y) y).defines ≡ y.defines
      go true = refl
      go false = refl

  same_contents : (q : ℤ) (y : Object) → (heirs q y).contents ≡ y.contents
  same_contents q y = go (is_below w o q)
    where
      go : (b : Bool) → (cond b (heir_of w o p q y) y).contents ≡ y.contents
      go true = refl
      go false = refl

  by_cases : (y : Object) (a b c : Bool) → (a ≡ false → leave_out o y.children ≡ y.children)
      → (let y1 : Object = cond a (record y { children = leave_out o y.children }) y in
      let y2 : Object = cond b (record y1 { header = record (y1.header) { parent = p } }) y1 in
      let y3 : Object = cond c (record y2 { children = y2.children ++ o ∷ [] }) y2 in
      kin y3) ≡ (cond b p y.header.parent, leave_out o y.children ++ cond c (o ∷ []) [])
  by_cases y true true true k = refl
  by_cases y true true false k = λ i. (p, sym (append-nil (leave_out o y.children)) i)
  by_cases y true false true k = refl
  by_cases y true false false k = λ i. (y.header.parent, sym (append-nil (leave_out o y.children)) i)
  by_cases y false true true k = λ i. (p, sym (k refl) i ++ o ∷ [])
  by_cases y false true false k = λ i. (p, (sym (k refl) ∙ sym (append-nil (leave_out o y.children))) i)
  by_cases y false false true k = λ i. (y.header.parent, sym (k refl) i ++ o ∷ [])
  by_cases y false false false k = λ i. (y.header.parent, (sym (k refl) ∙ sym (append-nil (leave_out o y.children))) i)

  elsewhere : (q : ℤ) (y : Object) → object_at w q ≡ Some y → int_eq q x.header.parent ≡ false → leave_out o y.children ≡ y.children
  elsewhere q y e s = nothing_left o y.children (go (lists y.children o) refl)
    where
      go : (b : Bool) → lists y.children o ≡ b → lists y.children o ≡ false
      go false k = k
      go true k =
          let d = h.family.below q (kin y) o (node_there (λ z. z.header.parent) (λ z. z.children) w q y e) k in
          let same : d.0 ≡ kin x = some_same (sym d.1 ∙ node_there (λ z. z.header.parent) (λ z. z.children) w o x is) in
          absurd (other q x.header.parent s (sym d.2 ∙ ap (λ (n : Node). n.0) same))

  hung_parents : (q : ℤ) → parents hung q ≡ rehung (parents w) o p q
  hung_parents q = ap (option_map kin) (there_hung q) ∙ go (object_at w q) refl
    where
      go : (m : Option Object) → object_at w q ≡ m
          → option_map kin (option_map (third_change q) (option_map (second_change q) (option_map (first_change q) (option_map (heirs q) m))))
          ≡ option_map (λ (n : Node). (cond (int_eq q o) p n.0, leave_out o n.1 ++ hung_under o p q)) (option_map kin m)
      go None e = refl
      go (Some y) e =
          ap Some (by_cases (heirs q y) (int_eq q x.header.parent) (int_eq q o) (int_eq q p) (λ s. ap (leave_out o) (same_kin q y) ∙ elsewhere q y e s ∙ sym (same_kin q y)))
          ∙ (λ i. Some (cond (int_eq q o) p (same_header q y i).parent, leave_out o (same_kin q y i) ++ hung_under o p q))

  spots : (y : Object) (a b c : Bool)
      → (let y1 : Object = cond a (record y { children = leave_out o y.children }) y in
      let y2 : Object = cond b (record y1 { header = record (y1.header) { parent = p } }) y1 in
      let y3 : Object = cond c (record y2 { children = y2.children ++ o ∷ [] }) y2 in
      (spot y3 ≡ spot y) × ((y3.slots ≡ y.slots) × (y3.defines ≡ y.defines)))
  spots y true true true = (refl, (refl, refl))
  spots y true true false = (refl, (refl, refl))
  spots y true false true = (refl, (refl, refl))
  spots y true false false = (refl, (refl, refl))
  spots y false true true = (refl, (refl, refl))
  spots y false true false = (refl, (refl, refl))
  spots y false false true = (refl, (refl, refl))
  spots y false false false = (refl, (refl, refl))

  at_spot : (q : ℤ) (y : Object)
      → (spot (all_changes q y) ≡ spot (heirs q y)) × (((all_changes q y).slots ≡ (heirs q y).slots) × ((all_changes q y).defines ≡ (heirs q y).defines))
  at_spot q y = spots (heirs q y) (int_eq q x.header.parent) (int_eq q o) (int_eq q p)

  hung_places : (q : ℤ) → places hung q ≡ places w q
  hung_places q = ap (option_map spot) (there_hung q) ∙ go (object_at w q)
    where
      go : (m : Option Object)
          → option_map spot (option_map (third_change q) (option_map (second_change q) (option_map (first_change q) (option_map (heirs q) m)))) ≡ option_map spot m
      go None = refl
      go (Some y) = ap Some ((at_spot q y).0) ∙ (λ i. Some ((same_header q y i).location, same_contents q y i))

  same_names : (q : ℤ) → folded_names (object_at hung q) ≡ folded_names (object_at w q)
  same_names q = ap folded_names (there_hung q) ∙ go (object_at w q)
    where
      go : (m : Option Object)
          → folded_names (option_map (third_change q) (option_map (second_change q) (option_map (first_change q) (option_map (heirs q) m)))) ≡ folded_names m
      go None = refl
      go (Some y) = ap (map fold_case) ((at_spot q y).1.1 ∙ same_defines q y)

  names_kept : (ps : List ℤ) → defined_on hung ps ≡ defined_on w ps
  names_kept ps = names_same w hung ps (λ r l. same_names r)

  -- ---- the lines

  above : (us : List ℤ) × Path (parents w) p us
  above = path_from (parents w) h.family p

  abbrev us : List ℤ
  us = above.0

  us_apart : lists us o ≡ false
  us_apart = sym (below_is w o p us h.numbers above.1) ∙ outside

  x_node : parents w o ≡ Some (kin x)
  x_node = node_there (λ z. z.header.parent) (λ z. z.children) w o x is

  new_line : (q : ℤ) (ps qs : List ℤ) → Path (parents w) q ps → IsTrue (lists ps o) → Path (parents hung) q qs → qs ≡ up_to o ps ++ us
  new_line q ps qs way l now =
      one_path (rehung (parents w) o p) q qs (up_to o ps ++ us) (same_path (parents hung) (rehung (parents w) o p) hung_parents q qs now)
      (path_over (parents w) o p (kin x) x_node h.family us above.1 us_apart q ps way l)

  old_line : (q : ℤ) (ps qs : List ℤ) → Path (parents w) q ps → lists ps o ≡ false → Path (parents hung) q qs → qs ≡ ps
  old_line q ps qs way l now =
      one_path (rehung (parents w) o p) q qs ps (same_path (parents hung) (rehung (parents w) o p) hung_parents q qs now)
      (path_stays (parents w) o p (kin x) x_node h.family us above.1 us_apart q ps way l)

  -- what is defined up to the object is not known from the new parent
  far : (q : ℤ) (ps : List ℤ) → Path (parents w) q ps → IsTrue (lists ps o) → Apart (defined_on w (up_to o ps)) (defined_on w us)
  unfolding clashes defined_on
  far q [] way l t k = cc
  far q (r ∷ ps) way l t k = go (far way.1.0.0 ps way.1.2) (same_or_not o r)
    where
      y : (y : Object) × (object_at w q ≡ Some y) × (way.1.0 ≡ kin y)
      y = object_there (λ z. z.header.parent) (λ z. z.children) w q way.1.0 way.1.1

      mine : IsTrue (has_name (folded_names (object_at w r)) t) → has_name (defined_on w us) t ≡ false
      mine i =
          let none = none_passes (λ d z. is_below w o d && shares_name (folded_names (Some z)) (defined_on w (ancestors w p))) w.objects clear q y.0 y.1 in
          let under : is_below w o q ≡ true = below_is w o q (r ∷ ps) h.numbers way ∙ l in
          let shares : shares_name (map fold_case y.0.defines) (defined_on w (ancestors w p)) ≡ false = sym (ap (λ b. b && shares_name (map fold_case y.0.defines) (defined_on w (ancestors w p))) under) ∙ none in
          subst (λ l. has_name (defined_on w l) t ≡ false) (ancestors_of w p us h.numbers above.1)
          (not_shared (map fold_case y.0.defines) (defined_on w (ancestors w p)) shares t (subst (λ m. IsTrue (has_name (folded_names m) t)) (ap (object_at w) way.0 ∙ y.1) i))

      go : (IsTrue (lists ps o) → Apart (defined_on w (up_to o ps)) (defined_on w us)) → (o ≡ r) ⊎ (int_eq o r ≡ false) → has_name (defined_on w us) t ≡ false
      go later (inl e) =
          let hit : int_eq o r ≡ true = subst (λ z. int_eq o z ≡ true) e (integer_itself o) in
          let k' : IsTrue (has_name (defined_on w (r ∷ [])) t) = subst (λ b. IsTrue (has_name (defined_on w (cond b (r ∷ []) (r ∷ up_to o ps))) t)) hit k in
          by (either (has_name (folded_names (object_at w r)) t) false (sym (has_both (folded_names (object_at w r)) [] t) ∙ k'))
        where
          by : IsTrue (has_name (folded_names (object_at w r)) t) ⊎ IsTrue false → has_name (defined_on w us) t ≡ false
          by (inl i) = mine i
          by (inr i) = cc
      go later (inr e) =
          let k' : IsTrue (has_name (defined_on w (r ∷ up_to o ps)) t) = subst (λ b. IsTrue (has_name (defined_on w (cond b (r ∷ []) (r ∷ up_to o ps))) t)) e k in
          by (either (has_name (folded_names (object_at w r)) t) _ (sym (has_both (folded_names (object_at w r)) (defined_on w (up_to o ps)) t) ∙ k'))
        where
          by : IsTrue (has_name (folded_names (object_at w r)) t) ⊎ IsTrue (has_name (defined_on w (up_to o ps)) t) → has_name (defined_on w us) t ≡ false
          by (inl i) = mine i
          by (inr i) = later (ap (λ b. b || lists ps o) (sym e) ∙ l) t i

  -- ---- the slots of an heir

  heir_own : (q : ℤ) (y : Object) (ps : List ℤ) → object_at w q ≡ Some y → Path (parents w) q ps → IsTrue (lists ps o)
      → Own hung (heir_of w o p q y) (up_to o ps ++ us)
  heir_own q y ps e way l =
      record {
        sorted = both_sorted (slots_named (has_name kept) y.slots) (heir_slots y.header.owner (slots_at (object_at w p))) (kept_sorted (has_name kept) y.slots own.sorted);
        once = subst (λ ts. IsTrue (names_once ts)) (sym names)
            (once_both (defined_on w (up_to o ps)) (defined_on w us) (once_first (defined_on w (up_to o ps)) (defined_on w rest.0) (subst (λ ts. IsTrue (names_once ts)) split own.once))
            (names_above w h p us above.1) (far q ps way l));
        slots = λ t. slot_is t ∙ sym (has_both (defined_on w (up_to o ps)) (defined_on w us) t) ∙ ap (λ ts. has_name ts t) (sym names);
        filled = filled_then;
      }
    where
      own : Own w y ps
      own = h.own q y ps e way

      kept : List Text
      kept = kept_names w o p q

      rest : (rs : List ℤ) × (ps ≡ up_to o ps ++ rs)
      rest = cut_at o ps

      split : defined_on w ps ≡ defined_on w (up_to o ps) ++ defined_on w rest.0
      split = ap (defined_on w) rest.1 ∙ names_along w (up_to o ps) rest.0

      names : defined_on hung (up_to o ps ++ us) ≡ defined_on w (up_to o ps) ++ defined_on w us
      names = names_kept (up_to o ps ++ us) ∙ names_along w (up_to o ps) us

      line : ancestors w q ≡ ps
      line = ancestors_of w q ps h.numbers way

      kept_is : (t : Text) → has_name kept t ≡ (has_name (defined_on w (up_to o ps)) t || has_name (defined_on w (common_ancestors w o p)) t)
      kept_is t = ap (λ qs. has_name (defined_on w (up_to o qs) ++ defined_on w (common_ancestors w o p)) t) line ∙ has_both (defined_on w (up_to o ps)) (defined_on w (common_ancestors w o p)) t

      common : (t : Text) → IsTrue (has_name (defined_on w (common_ancestors w o p)) t) → IsTrue (has_name (defined_on w us) t)
      common t k =
          names_among w (ancestors w (parent_of (object_at w o))) us t
          (subst (λ qs. IsTrue (has_name (defined_on w (filter (lists qs) (ancestors w (parent_of (object_at w o))))) t)) (ancestors_of w p us h.numbers above.1) k)

      inherited : (t : Text) → is_some (named (heir_slots y.header.owner (slots_at (object_at w p))) t) ≡ has_name (defined_on w us) t
      inherited t = ap is_some (named_heirs y.header.owner (slots_at (object_at w p)) t) ∙ mapped (named (slots_at (object_at w p)) t) ∙ slots_above w h p us above.1 t
        where
          mapped : (m : Option Slot) → is_some (option_map (heir_slot y.header.owner) m) ≡ is_some m
          mapped None = refl
          mapped (Some z) = refl

      found_is : (t : Text)
          → named (heir_of w o p q y).slots t ≡ or_first (cond (has_name kept t) (named y.slots t) None) (named (heir_slots y.header.owner (slots_at (object_at w p))) t)
      found_is t =
          named_both (slots_named (has_name kept) y.slots) (heir_slots y.header.owner (slots_at (object_at w p))) t
          ∙ ap (λ m. or_first m (named (heir_slots y.header.owner (slots_at (object_at w p))) t)) (named_kept (has_name kept) y.slots t)

      slot_is : (t : Text) → is_some (named (heir_of w o p q y).slots t) ≡ (has_name (defined_on w (up_to o ps)) t || has_name (defined_on w us) t)
      slot_is t =
          ap is_some (found_is t) ∙ either_is (cond (has_name kept t) (named y.slots t) None) (named (heir_slots y.header.owner (slots_at (object_at w p))) t)
          ∙ (λ i. (picked (has_name kept t) (named y.slots t) ∙ (λ j. kept_is t j && (own.slots t ∙ ap (λ ts. has_name ts t) split ∙ has_both (defined_on w (up_to o ps)) (defined_on w rest.0) t) j)) i || inherited t i)
          ∙ joins (has_name (defined_on w (up_to o ps)) t) (has_name (defined_on w (common_ancestors w o p)) t) (has_name (defined_on w rest.0) t) (has_name (defined_on w us) t) (common t)
        where
          either_is : (m n : Option Slot) → is_some (or_first m n) ≡ (is_some m || is_some n)
          either_is None n = refl
          either_is (Some z) n = refl

          picked : (b : Bool) (m : Option Slot) → is_some (cond b m None) ≡ (b && is_some m)
          picked true m = refl
          picked false m = refl

          joins : (a c r s : Bool) → (IsTrue c → IsTrue s) → (((a || c) && (a || r)) || s) ≡ (a || s)
          joins true c r s k = refl
          joins false true r s k = second_of (r) s (k refl) ∙ sym (k refl)
          joins false false r s k = refl

      filled_then : (t : Text) → IsTrue (has_name (map fold_case y.defines) t) → IsTrue (is_some (content_of (named (heir_of w o p q y).slots t)))
      filled_then t k =
          subst (λ m. IsTrue (is_some (content_of m))) (sym (found_is t ∙ ap (λ b. or_first (cond b (named y.slots t) None) (named (heir_slots y.header.owner (slots_at (object_at w p))) t)) known))
          (first_filled (named y.slots t) (own.filled t k))
        where
          first_filled : (m : Option Slot) → IsTrue (is_some (content_of m))
              → IsTrue (is_some (content_of (or_first m (named (heir_slots y.header.owner (slots_at (object_at w p))) t))))
          first_filled None j = cc
          first_filled (Some z) j = j

          begins : (ps : List ℤ) → Path (parents w) q ps → IsTrue (lists ps o) → IsTrue (lists (up_to o ps) q)
          begins [] way l = cc
          begins (r ∷ ps) way l = go (int_eq o r)
            where
              go : (b : Bool) → IsTrue (lists (cond b (r ∷ []) (r ∷ up_to o ps)) q)
              go true = first_of (int_eq q r) _ (subst (λ z. int_eq z r ≡ true) way.0 (integer_itself r))
              go false = first_of (int_eq q r) _ (subst (λ z. int_eq z r ≡ true) way.0 (integer_itself r))

          known : has_name kept t ≡ true
          known =
              kept_is t ∙ first_of _ _ (name_of_member w (up_to o ps) q t (begins ps way l) (subst (λ m. IsTrue (has_name (folded_names m) t)) (sym e) k))

  each_own : (q : ℤ) (z : Object) (qs : List ℤ) → object_at hung q ≡ Some z → Path (parents hung) q qs → Own hung z qs
  each_own q z qs e now = go (found q z e)
    where
      go : ((y : Object) × (object_at w q ≡ Some y) × (z ≡ all_changes q y)) → Own hung z qs
      go f = by (lists way.0 o) refl
        where
          y : Object
          y = f.0

          way : (ps : List ℤ) × Path (parents w) q ps
          way = path_from (parents w) h.family q

          carried : (v : Object) → heirs q y ≡ v → Own hung v qs → Own hung z qs
          carried v is own =
              let slots : z.slots ≡ v.slots = ap (λ (m : Object). m.slots) f.2 ∙ (at_spot q y).1.0 ∙ ap (λ (m : Object). m.slots) is in
              let defines : z.defines ≡ v.defines = ap (λ (m : Object). m.defines) f.2 ∙ (at_spot q y).1.1 ∙ ap (λ (m : Object). m.defines) is in
              record {
                sorted = subst (λ es. IsTrue (is_named es)) (sym slots) own.sorted;
                once = own.once;
                slots = λ t. ap (λ es. is_some (named es t)) slots ∙ own.slots t;
                filled = λ t k. subst (λ es. IsTrue (is_some (content_of (named es t)))) (sym slots) (own.filled t (subst (λ ds. IsTrue (has_name (map fold_case ds) t)) defines k));
              }

          by : (b : Bool) → lists way.0 o ≡ b → Own hung z qs
          by true l =
              carried (heir_of w o p q y) (ap (λ c. cond c (heir_of w o p q y) y) (below_is w o q way.0 h.numbers way.1 ∙ l))
              (subst (λ ps. Own hung (heir_of w o p q y) ps) (sym (new_line q way.0 qs way.1 l now)) (heir_own q y way.0 f.1 way.1 l))
          by false l =
              let own = h.own q y way.0 f.1 way.1 in
              carried y (ap (λ c. cond c (heir_of w o p q y) y) (below_is w o q way.0 h.numbers way.1 ∙ l))
              (subst (λ ps. Own hung y ps) (sym (old_line q way.0 qs way.1 l now))
              (record {
                sorted = own.sorted;
                once = subst (λ ts. IsTrue (names_once ts)) (sym (names_kept way.0)) own.once;
                slots = λ t. own.slots t ∙ ap (λ ts. has_name ts t) (sym (names_kept way.0));
                filled = own.filled;
              }))

  same_greatest : hung.greatest ≡ w.greatest
  same_greatest = change_greatest _ p (λ z. record z { children = z.children ++ o ∷ [] }) ∙ change_greatest _ o (λ z. record z { header = record (z.header) { parent = p } }) ∙ change_greatest (with_heirs w o p) x.header.parent (λ z. record z { children = leave_out o z.children })

  parent_node : (p ≡ nowhere) ⊎ ((n : Node) × (parents w p ≡ Some n))
  parent_node = go there
    where
      go : (p ≡ nowhere) ⊎ IsTrue (is_some (object_at w p)) → (p ≡ nowhere) ⊎ ((n : Node) × (parents w p ≡ Some n))
      go (inl e) = inl e
      go (inr e) = by (object_at w p) refl e
        where
          by : (m : Option Object) → object_at w p ≡ m → IsTrue (is_some m) → (p ≡ nowhere) ⊎ ((n : Node) × (parents w p ≡ Some n))
          by None k s = cc
          by (Some y) k s = inr (kin y, ap (option_map kin) k)

  pub hung_household : Household hung
  hung_household =
      record {
        order = change_numbered _ p (λ z. record z { children = z.children ++ o ∷ [] }) (change_numbered _ o (λ z. record z { header = record (z.header) { parent = p } }) (change_numbered (with_heirs w o p) x.header.parent (λ z. record z { children = leave_out o z.children }) (each_numbered heirs w.objects h.order)));
        range = subst (λ g. IsTrue (int_le (neg_ℤ (pos 1)) g && int_le g (pos 999999))) (sym same_greatest) h.range;
        numbers = λ q z e. let y = found q z e in subst (λ g. IsTrue (int_le (pos 0) q && int_le q g)) (sym same_greatest) (h.numbers q y.0 y.1);
        family = same_tree (parents hung) (rehung (parents w) o p) hung_parents (rehung_tree (parents w) o p (kin x) x_node h.family us above.1 us_apart parent_node);
        whereabouts = same_tree (places hung) (places w) hung_places h.whereabouts;
        own = each_own;
      }

pub reparented_household : (w : World) (o p : ℤ) (x : Object) → object_at w o ≡ Some x → Household w
    → (p ≡ nowhere) ⊎ IsTrue (is_some (object_at w p)) → is_below w o p ≡ false → clashes w o p ≡ false
    → Household (reparented w o p)
unfolding reparented
reparented_household w o p x is h there outside clear =
    subst (λ b. Household (put_below (with_heirs w o p) o b p)) (sym (ap parent_of is)) (hung_household w o p x is h there outside clear)

pub reparented_parents : (w : World) (o p : ℤ) (x : Object) → object_at w o ≡ Some x → (h : Household w)
    → (p ≡ nowhere) ⊎ IsTrue (is_some (object_at w p)) → is_below w o p ≡ false → clashes w o p ≡ false
    → (q : ℤ) → parents (reparented w o p) q ≡ rehung (parents w) o p q
unfolding reparented
reparented_parents w o p x is h there outside clear q =
    ap (λ b. parents (put_below (with_heirs w o p) o b p) q) (ap parent_of is) ∙ hung_parents w o p x is h there outside clear q

pub reparented_places : (w : World) (o p : ℤ) (x : Object) → object_at w o ≡ Some x → (h : Household w)
    → (p ≡ nowhere) ⊎ IsTrue (is_some (object_at w p)) → is_below w o p ≡ false → clashes w o p ≡ false
    → (q : ℤ) → places (reparented w o p) q ≡ places w q
unfolding reparented
reparented_places w o p x is h there outside clear q =
    ap (λ b. places (put_below (with_heirs w o p) o b p) q) (ap parent_of is) ∙ hung_places w o p x is h there outside clear q
