-- A property that goes, from the object that defines it and from each object below it.
use Rattle.std.proofs.Common.{◌≡◌, ◌⊎◌, inl, inr, ℤ, Bool, true, false, not, ◌&&◌, ◌||◌, List, [], ◌∷◌, ◌++◌, map, Option, Some, None, refl, sym, ap, ◌∙◌, subst, cond, IsTrue, is_some}
use Rattle.std.specs.Prelude.{option_map}
use Rattle.std.specs.Ordering.{int_eq}
use Rattle.std.specs.List.{filter}
use Rattle.spec_value.specs.Datum.{Text, same_text, fold_case}
use Rattle.spec_value.specs.Table.{Named, named, without_name}
use Rattle.spec_world.specs.World.{World, Object, Slot, object_at}
use Rattle.spec_world.specs.Inherit.{content_of}
use Rattle.spec_world.specs.WellFormed.{folded_names, defined_on, has_name, names_once, lists}
use Rattle.spec_world.specs.Families.{change_each, is_below}
use Rattle.spec_world.specs.Members.{not_defining, lose_slot, property_deleted}
use Rattle.spec_value.proofs.Entries.{first_holds, second_holds}
use Rattle.spec_value.proofs.Same.{same_integer, integer_itself, text_itself}
use Rattle.spec_world.proofs.Trees.{same_or_not, turned, either, first_of, second_of, Path, never_again}
use Rattle.spec_world.proofs.WorldTrees.{parents}
use Rattle.spec_world.proofs.SlotTables.{named_without, without_sorted, text_or_not, has_both, once_second, once_apart}
use Rattle.spec_world.proofs.Households.{Own, Household, at_each, names_same}
use Rattle.spec_world.proofs.ObjectChanges.{kin, spot}
use Rattle.spec_world.proofs.PropertyChanges.{each_household, below_is}

-- ---- names without one of them

abbrev rest_of : Text → List Text → List Text
rest_of k ts = filter (λ t. not (same_text k t)) ts

rest_has : (k t : Text) (ts : List Text) → has_name (rest_of k ts) t ≡ cond (same_text k t) false (has_name ts t)
rest_has k t [] = go (same_text k t)
  where
    go : (b : Bool) → false ≡ cond b false false
    go true = refl
    go false = refl
rest_has k t (u ∷ ts) = go (rest_has k t ts) (text_or_not k u) (text_or_not t u)
  where
    drop_true : (b c : Bool) → c ≡ false → cond b false (false || c) ≡ cond b false c
    drop_true b c e = refl

    go : has_name (rest_of k ts) t ≡ cond (same_text k t) false (has_name ts t) → (k ≡ u) ⊎ (same_text k u ≡ false) → (t ≡ u) ⊎ (same_text t u ≡ false)
        → has_name (cond (not (same_text k u)) (u ∷ rest_of k ts) (rest_of k ts)) t ≡ cond (same_text k t) false (same_text t u || has_name ts t)
    go later (inl e) (inl d) =
        ap (λ b. has_name (cond (not b) (u ∷ rest_of k ts) (rest_of k ts)) t) (subst (λ z. same_text k z ≡ true) e (text_itself k)) ∙ later
        ∙ ap (λ b. cond b false (has_name ts t)) here ∙ sym (ap (λ b. cond b false (same_text t u || has_name ts t)) here)
      where
        here : same_text k t ≡ true
        here = subst (λ z. same_text k z ≡ true) (e ∙ sym d) (text_itself k)
    go later (inl e) (inr d) =
        ap (λ b. has_name (cond (not b) (u ∷ rest_of k ts) (rest_of k ts)) t) (subst (λ z. same_text k z ≡ true) e (text_itself k)) ∙ later
        ∙ ap (λ b. cond (same_text k t) false (b || has_name ts t)) (sym d)
    go later (inr e) (inl d) =
        ap (λ b. has_name (cond (not b) (u ∷ rest_of k ts) (rest_of k ts)) t) e
        ∙ ap (λ b. b || has_name (rest_of k ts) t) hit ∙ sym (ap (λ b. cond b false (same_text t u || has_name ts t)) (subst (λ z. same_text k z ≡ false) (sym d) e) ∙ ap (λ b. b || has_name ts t) hit)
      where
        hit : same_text t u ≡ true
        hit = subst (λ z. same_text t z ≡ true) d (text_itself t)
    go later (inr e) (inr d) =
        ap (λ b. has_name (cond (not b) (u ∷ rest_of k ts) (rest_of k ts)) t) e
        ∙ ap (λ b. b || has_name (rest_of k ts) t) d ∙ later ∙ ap (λ b. cond (same_text k t) false (b || has_name ts t)) (sym d)

rest_once : (k : Text) (ts : List Text) → IsTrue (names_once ts) → IsTrue (names_once (rest_of k ts))
unfolding names_once
rest_once k [] h = refl
rest_once k (t ∷ ts) h = go (rest_once k ts (second_holds _ _ h)) (same_text k t) refl
  where
    denied : (a : Bool) → IsTrue (not a) → a ≡ false
    denied true e = cc
    denied false e = refl

    none : (b : Bool) → cond b false false ≡ false
    none true = refl
    none false = refl

    go : IsTrue (names_once (rest_of k ts)) → (b : Bool) → same_text k t ≡ b → IsTrue (names_once (cond (not b) (t ∷ rest_of k ts) (rest_of k ts)))
    go later true e = later
    go later false e =
        let out : has_name (rest_of k ts) t ≡ false = rest_has k t ts ∙ ap (λ c. cond (same_text k t) false c) (denied _ (first_holds _ _ h)) ∙ none (same_text k t) in
        ap (λ c. not c && names_once (rest_of k ts)) out ∙ later

rest_all : (k : Text) (ts : List Text) → has_name ts k ≡ false → rest_of k ts ≡ ts
rest_all k [] h = refl
rest_all k (t ∷ ts) h = go (rest_all k ts) (same_text k t) h
  where
    go : (has_name ts k ≡ false → rest_of k ts ≡ ts) → (b : Bool) → (b || has_name ts k) ≡ false → cond (not b) (t ∷ rest_of k ts) (rest_of k ts) ≡ t ∷ ts
    go later true e = cc
    go later false e = ap (λ us. t ∷ us) (later e)

rest_both : (k : Text) (ts us : List Text) → rest_of k (ts ++ us) ≡ rest_of k ts ++ rest_of k us
rest_both k [] us = refl
rest_both k (t ∷ ts) us = go (rest_both k ts us) (same_text k t)
  where
    go : rest_of k (ts ++ us) ≡ rest_of k ts ++ rest_of k us → (b : Bool)
        → cond (not b) (t ∷ rest_of k (ts ++ us)) (rest_of k (ts ++ us)) ≡ cond (not b) (t ∷ rest_of k ts) (rest_of k ts) ++ rest_of k us
    go later true = later
    go later false = ap (λ vs. t ∷ vs) later

-- ---- the property goes

module _ (w : World) (o : ℤ) (p : Text) (x : Object) (is : object_at w o ≡ Some x) (h : Household w) (defined : IsTrue (has_name (map fold_case x.defines) (fold_case p))) where
  abbrev key : Text
  key = fold_case p

  abbrev loses : ℤ → Object → Object
  loses d y = cond (int_eq d o) (lose_slot (not_defining y p) p) (cond (is_below w o d) (lose_slot y p) y)

  abbrev narrower : World
  narrower = change_each w loses

  folded_rest : (ds : List Text) → map fold_case (filter (λ q. not (same_text key (fold_case q))) ds) ≡ rest_of key (map fold_case ds)
  folded_rest [] = refl
  folded_rest (d ∷ ds) = go (folded_rest ds) (same_text key (fold_case d))
    where
      go : map fold_case (filter (λ q. not (same_text key (fold_case q))) ds) ≡ rest_of key (map fold_case ds) → (b : Bool)
          → map fold_case (cond (not b) (d ∷ filter (λ q. not (same_text key (fold_case q))) ds) (filter (λ q. not (same_text key (fold_case q))) ds))
          ≡ cond (not b) (fold_case d ∷ rest_of key (map fold_case ds)) (rest_of key (map fold_case ds))
      go later true = later
      go later false = ap (λ ts. fold_case d ∷ ts) later

  names_at : (q : ℤ) → folded_names (object_at narrower q) ≡ cond (int_eq q o) (rest_of key (folded_names (object_at w q))) (folded_names (object_at w q))
  names_at q = ap folded_names (at_each w q loses) ∙ go (object_at w q) (int_eq q o) (is_below w o q)
    where
      go : (m : Option Object) (b c : Bool) → folded_names (option_map (λ y. cond b (lose_slot (not_defining y p) p) (cond c (lose_slot y p) y)) m)
          ≡ cond b (rest_of key (folded_names m)) (folded_names m)
      go None true c = refl
      go None false c = refl
      go (Some y) true c = folded_rest y.defines
      go (Some y) false true = refl
      go (Some y) false false = refl

  known : (q : ℤ) (ps : List ℤ) → Path (parents w) q ps → IsTrue (lists ps o) → IsTrue (has_name (defined_on w ps) key)
  unfolding defined_on
  known q [] way l = cc
  known q (r ∷ ps) way l = go (known way.1.0.0 ps way.1.2) (either (int_eq o r) _ l)
    where
      go : (IsTrue (lists ps o) → IsTrue (has_name (defined_on w ps) key)) → IsTrue (int_eq o r) ⊎ IsTrue (lists ps o)
          → IsTrue (has_name (folded_names (object_at w r) ++ defined_on w ps) key)
      go later (inl e) =
          has_both (folded_names (object_at w r)) (defined_on w ps) key
          ∙ first_of (has_name (folded_names (object_at w r)) key) _ (subst (λ m. IsTrue (has_name (folded_names m) key)) (sym (ap (object_at w) (sym (same_integer o r e)) ∙ is)) defined)
      go later (inr e) = has_both (folded_names (object_at w r)) (defined_on w ps) key ∙ second_of (has_name (folded_names (object_at w r)) key) _ (later e)

  -- below the object no other one defines it
  not_below : (q r : ℤ) (ps : List ℤ) → Path (parents w) q (r ∷ ps) → IsTrue (lists ps o)
      → IsTrue (names_once (folded_names (object_at w r) ++ defined_on w ps)) → has_name (folded_names (object_at w r)) key ≡ false
  not_below q r ps way l once = go (has_name (folded_names (object_at w r)) key) refl
    where
      go : (b : Bool) → has_name (folded_names (object_at w r)) key ≡ b → has_name (folded_names (object_at w r)) key ≡ false
      go false e = e
      go true e =
          let far : has_name (defined_on w ps) key ≡ false = once_apart (folded_names (object_at w r)) (defined_on w ps) once key e in
          let there = known way.1.0.0 ps way.1.2 l in absurd (cc (far, there))

  same_above : (ps : List ℤ) → lists ps o ≡ false → defined_on narrower ps ≡ defined_on w ps
  same_above ps l = names_same w narrower ps (λ r k. names_at r ∙ ap (λ b. cond b (rest_of key (folded_names (object_at w r))) (folded_names (object_at w r))) (apart r k))
    where
      apart : (r : ℤ) → IsTrue (lists ps r) → int_eq r o ≡ false
      apart r k = go (same_or_not r o)
        where
          go : (r ≡ o) ⊎ (int_eq r o ≡ false) → int_eq r o ≡ false
          go (inl e) = let clash : lists ps r ≡ false = subst (λ z. lists ps z ≡ false) (sym e) l in absurd (cc (clash, k))
          go (inr e) = e

  narrower_line : (q : ℤ) (ps : List ℤ) → Path (parents w) q ps → IsTrue (lists ps o) → IsTrue (names_once (defined_on w ps))
      → defined_on narrower ps ≡ rest_of key (defined_on w ps)
  unfolding defined_on
  narrower_line q [] way l once = cc
  narrower_line q (r ∷ ps) way l once = go (same_or_not o r) (λ k. narrower_line way.1.0.0 ps way.1.2 k (once_second (folded_names (object_at w r)) (defined_on w ps) once))
    where
      pick : (b : Bool) → int_eq r o ≡ b
          → folded_names (object_at narrower r) ≡ cond b (rest_of key (folded_names (object_at w r))) (folded_names (object_at w r))
      pick b e = names_at r ∙ ap (λ c. cond c (rest_of key (folded_names (object_at w r))) (folded_names (object_at w r))) e

      go : (o ≡ r) ⊎ (int_eq o r ≡ false) → (IsTrue (lists ps o) → defined_on narrower ps ≡ rest_of key (defined_on w ps))
          → folded_names (object_at narrower r) ++ defined_on narrower ps ≡ rest_of key (folded_names (object_at w r) ++ defined_on w ps)
      go (inl e) later =
          let none : lists ps o ≡ false = subst (λ z. lists ps z ≡ false) (sym way.0 ∙ sym e) (never_again (parents w) q r ps way) in
          let ours : IsTrue (has_name (folded_names (object_at w r)) key) = subst (λ m. IsTrue (has_name (folded_names m) key)) (sym (ap (object_at w) (sym e) ∙ is)) defined in
          let far : has_name (defined_on w ps) key ≡ false = once_apart (folded_names (object_at w r)) (defined_on w ps) once key ours in
          (λ i. pick true (subst (λ z. int_eq z o ≡ true) e (integer_itself o)) i ++ (same_above ps none ∙ sym (rest_all key (defined_on w ps) far)) i)
          ∙ sym (rest_both key (folded_names (object_at w r)) (defined_on w ps))
      go (inr e) later =
          let under : IsTrue (lists ps o) = ap (λ b. b || lists ps o) (sym e) ∙ l in
          (λ i. (pick false (turned o r e) ∙ sym (rest_all key (folded_names (object_at w r)) (not_below q r ps way under once))) i ++ later under i)
          ∙ sym (rest_both key (folded_names (object_at w r)) (defined_on w ps))

  lost : (es : Named Slot) (t : Text) → is_some (named (without_name es key) t) ≡ cond (same_text key t) false (is_some (named es t))
  lost es t = ap is_some (named_without es key t) ∙ go (same_text key t) (named es t)
    where
      go : (b : Bool) (m : Option Slot) → is_some (cond b None m) ≡ cond b false (is_some m)
      go true m = refl
      go false m = refl

  still_filled : (q : ℤ) (y : Object) (ps : List ℤ) → Own w y ps → (t : Text) → same_text key t ≡ false
      → IsTrue (has_name (map fold_case y.defines) t) → IsTrue (is_some (content_of (named (without_name y.slots key) t)))
  still_filled q y ps own t e k = subst (λ m. IsTrue (is_some (content_of m))) (sym (named_without y.slots key t ∙ ap (λ b. cond b None (named y.slots t)) e)) (own.filled t k)

  slots_then : (y : Object) (ps : List ℤ) → Own w y ps → defined_on narrower ps ≡ rest_of key (defined_on w ps) → (t : Text)
      → is_some (named (without_name y.slots key) t) ≡ has_name (defined_on narrower ps) t
  slots_then y ps own line t =
      lost y.slots t ∙ ap (λ b. cond (same_text key t) false b) (own.slots t) ∙ sym (rest_has key t (defined_on w ps)) ∙ ap (λ ts. has_name ts t) (sym line)

  once_then : (y : Object) (ps : List ℤ) → Own w y ps → defined_on narrower ps ≡ rest_of key (defined_on w ps) → IsTrue (names_once (defined_on narrower ps))
  once_then y ps own line = subst (λ ts. IsTrue (names_once ts)) (sym line) (rest_once key (defined_on w ps) own.once)

  heir_own : (q : ℤ) (y : Object) (ps : List ℤ) → Own w y ps → defined_on narrower ps ≡ rest_of key (defined_on w ps)
      → has_name (map fold_case y.defines) key ≡ false → Own narrower (lose_slot y p) ps
  heir_own q y ps own line none =
      record {
        sorted = without_sorted y.slots key own.sorted;
        once = once_then y ps own line;
        slots = slots_then y ps own line;
        filled = λ t k. go t k (text_or_not key t);
      }
    where
      go : (t : Text) → IsTrue (has_name (map fold_case y.defines) t) → (key ≡ t) ⊎ (same_text key t ≡ false)
          → IsTrue (is_some (content_of (named (without_name y.slots key) t)))
      go t k (inl i) = let clash : has_name (map fold_case y.defines) t ≡ false = subst (λ z. has_name (map fold_case y.defines) z ≡ false) i none in absurd (cc (clash, k))
      go t k (inr i) = still_filled q y ps own t i k

  definer_own : (q : ℤ) (y : Object) (ps : List ℤ) → Own w y ps → defined_on narrower ps ≡ rest_of key (defined_on w ps)
      → Own narrower (lose_slot (not_defining y p) p) ps
  definer_own q y ps own line =
      record {
        sorted = without_sorted y.slots key own.sorted;
        once = once_then y ps own line;
        slots = slots_then y ps own line;
        filled = λ t k. go t (sym (rest_has key t (map fold_case y.defines)) ∙ subst (λ ts. IsTrue (has_name ts t)) (folded_rest y.defines) k);
      }
    where
      go : (t : Text) → IsTrue (cond (same_text key t) false (has_name (map fold_case y.defines) t))
          → IsTrue (is_some (content_of (named (without_name y.slots key) t)))
      go t k = by (same_text key t) refl k
        where
          by : (b : Bool) → same_text key t ≡ b → IsTrue (cond b false (has_name (map fold_case y.defines) t))
              → IsTrue (is_some (content_of (named (without_name y.slots key) t)))
          by true e j = cc
          by false e j = still_filled q y ps own t e j

  each_own : (q : ℤ) (y : Object) (ps : List ℤ) → object_at w q ≡ Some y → Path (parents w) q ps → Own narrower (loses q y) ps
  unfolding defined_on
  each_own q y [] e way = let clash : None ≡ Some (kin y) = sym way ∙ ap (option_map kin) e in absurd (cc (clash))
  each_own q y (r ∷ ps) e way = go (same_or_not q o) (lists (r ∷ ps) o) refl
    where
      own : Own w y (r ∷ ps)
      own = h.own q y (r ∷ ps) e way

      shown : (b c : Bool) → int_eq q o ≡ b → is_below w o q ≡ c
          → Own narrower (cond b (lose_slot (not_defining y p) p) (cond c (lose_slot y p) y)) (r ∷ ps) → Own narrower (loses q y) (r ∷ ps)
      shown b c s t k = subst (λ i. Own narrower (cond i (lose_slot (not_defining y p) p) (cond (is_below w o q) (lose_slot y p) y)) (r ∷ ps)) (sym s)
          (subst (λ j. Own narrower (cond b (lose_slot (not_defining y p) p) (cond j (lose_slot y p) y)) (r ∷ ps)) (sym t) k)

      go : (q ≡ o) ⊎ (int_eq q o ≡ false) → (b : Bool) → lists (r ∷ ps) o ≡ b → Own narrower (loses q y) (r ∷ ps)
      go (inl d) b l =
          let here : IsTrue (lists (r ∷ ps) o) = first_of (int_eq o r) _ (subst (λ z. int_eq z r ≡ true) (way.0 ∙ d) (integer_itself r)) in
          shown true true (subst (λ z. int_eq q z ≡ true) d (integer_itself q)) (below_is w o q (r ∷ ps) h.numbers way ∙ here)
          (definer_own q y (r ∷ ps) own (narrower_line q (r ∷ ps) way here own.once))
      go (inr d) true l =
          let under : IsTrue (lists ps o) = ap (λ b. b || lists ps o) (sym (turned r o (subst (λ z. int_eq z o ≡ false) (sym way.0) d))) ∙ l in
          shown false true d (below_is w o q (r ∷ ps) h.numbers way ∙ l)
          (heir_own q y (r ∷ ps) own (narrower_line q (r ∷ ps) way l own.once)
          (subst (λ m. has_name (folded_names m) key ≡ false) (ap (object_at w) way.0 ∙ e) (not_below q r ps way under own.once)))
      go (inr d) false l =
          shown false false d (below_is w o q (r ∷ ps) h.numbers way ∙ l)
          (record {
            sorted = own.sorted;
            once = subst (λ ts. IsTrue (names_once ts)) (sym (same_above (r ∷ ps) l)) own.once;
            slots = λ t. own.slots t ∙ ap (λ ts. has_name ts t) (sym (same_above (r ∷ ps) l));
            filled = own.filled;
          })

  pub deleted_household : Household narrower
  deleted_household = each_household w loses h kind place each_own
    where
      kind : (q : ℤ) (y : Object) → kin (loses q y) ≡ kin y
      kind q y = go (int_eq q o) (is_below w o q)
        where
          go : (b c : Bool) → kin (cond b (lose_slot (not_defining y p) p) (cond c (lose_slot y p) y)) ≡ kin y
          go true c = refl
          go false true = refl
          go false false = refl

      place : (q : ℤ) (y : Object) → spot (loses q y) ≡ spot y
      place q y = go (int_eq q o) (is_below w o q)
        where
          go : (b c : Bool) → spot (cond b (lose_slot (not_defining y p) p) (cond c (lose_slot y p) y)) ≡ spot y
          go true c = refl
          go false true = refl
          go false false = refl

pub property_deleted_household : (w : World) (o : ℤ) (p : Text) (x : Object) → object_at w o ≡ Some x → Household w
    → IsTrue (has_name (map fold_case x.defines) (fold_case p)) → Household (property_deleted w o p)
unfolding property_deleted
property_deleted_household = deleted_household
