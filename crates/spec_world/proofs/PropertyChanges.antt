-- A property that comes, or goes, on an object and on each object below it.
use Rattle.std.proofs.Common.{◌≡◌, ◌⊎◌, inl, inr, ℤ, Bool, true, false, ◌||◌, List, [], ◌∷◌, ◌++◌, map, Option, Some, None, refl, sym, ap, ◌∙◌, subst, cond, IsTrue, is_some}
use Rattle.std.specs.Prelude.{option_map}
use Rattle.std.specs.Ordering.{int_eq}
use Rattle.std.specs.List.{list_any}
use Rattle.spec_value.specs.Datum.{Text, same_text, fold_case}
use Rattle.spec_value.specs.Table.{Numbered, Named, at, named, with_name}
use Rattle.spec_world.specs.World.{World, Object, Slot, object_at}
use Rattle.spec_world.specs.Inherit.{slot_of, slot_at, content_of}
use Rattle.spec_world.specs.WellFormed.{OfEachObject, number_fits, folded_names, defined_on, has_name, names_once, lists}
use Rattle.spec_world.specs.Families.{change_each, is_below, heir_slot}
use Rattle.spec_world.specs.Members.{with_own_slot, defining, property_added}
use Rattle.spec_value.proofs.Same.{integer_itself, text_itself}
use Rattle.spec_world.proofs.Trees.{same_or_not, turned, some_same, either, first_of, second_of, Node, Path, never_again}
use Rattle.spec_world.proofs.WorldTrees.{parents, places, object_there, ancestors_of}
use Rattle.spec_world.proofs.SlotTables.{named_with, with_sorted, text_or_not, has_both, once_both, once_first, once_second, once_apart}
use Rattle.spec_world.proofs.Households.{Own, Household, at_each, each_numbered, names_same, same_tree, same_path}
use Rattle.spec_world.proofs.ObjectChanges.{kin, spot}

-- an object that is found passes a test that no entry passes
pub none_passes : (test : ℤ → Object → Bool) (es : Numbered Object) → list_any (λ e. test e.0 e.1) es ≡ false → (q : ℤ) (x : Object)
    → at es q ≡ Some x → test q x ≡ false
none_passes test [] h q x e = cc
none_passes test (f ∷ es) h q x e = go (none_passes test es (last_false (test f.0 f.1) _ h) q x) (same_or_not q f.0)
  where
    last_false : (a b : Bool) → (a || b) ≡ false → b ≡ false
    last_false true b k = cc
    last_false false b k = k

    first_false : (a b : Bool) → (a || b) ≡ false → a ≡ false
    first_false true b k = cc
    first_false false b k = refl

    go : (at es q ≡ Some x → test q x ≡ false) → (q ≡ f.0) ⊎ (int_eq q f.0 ≡ false) → test q x ≡ false
    go later (inl s) =
        let here : f.1 ≡ x = some_same (sym (ap (λ b. cond b (Some f.1) (at es q)) (subst (λ z. int_eq q z ≡ true) s (integer_itself q))) ∙ e) in
        (λ i. test (s i) (sym here i)) ∙ first_false (test f.0 f.1) _ h
    go later (inr s) = later (sym (ap (λ b. cond b (Some f.1) (at es q)) s) ∙ e)

-- ---- objects that stay in their families and at their places

module _ (w : World) (f : ℤ → Object → Object) (h : Household w) (kind : (q : ℤ) (x : Object) → kin (f q x) ≡ kin x) (place : (q : ℤ) (x : Object) → spot (f q x) ≡ spot x) where
  abbrev then : World
  then = change_each w f

  found : (q : ℤ) (y : Object) → object_at then q ≡ Some y → (x : Object) × (object_at w q ≡ Some x) × (y ≡ f q x)
  found q y e = go (object_at w q) refl
    where
      go : (m : Option Object) → object_at w q ≡ m → (x : Object) × (object_at w q ≡ Some x) × (y ≡ f q x)
      go None k = let clash : None ≡ Some y = sym (at_each w q f ∙ ap (option_map (f q)) k) ∙ e in absurd (cc (clash))
      go (Some x) k = (x, k, some_same (sym e ∙ at_each w q f ∙ ap (option_map (f q)) k))

  same_kin : (q : ℤ) → parents then q ≡ parents w q
  same_kin q = ap (option_map kin) (at_each w q f) ∙ go (object_at w q)
    where
      go : (m : Option Object) → option_map kin (option_map (f q) m) ≡ option_map kin m
      go None = refl
      go (Some x) = ap Some (kind q x)

  same_spot : (q : ℤ) → places then q ≡ places w q
  same_spot q = ap (option_map spot) (at_each w q f) ∙ go (object_at w q)
    where
      go : (m : Option Object) → option_map spot (option_map (f q) m) ≡ option_map spot m
      go None = refl
      go (Some x) = ap Some (place q x)

  pub each_household : ((q : ℤ) (x : Object) (ps : List ℤ) → object_at w q ≡ Some x → Path (parents w) q ps → Own then (f q x) ps) → Household then
  each_household owns =
      record {
        order = each_numbered f w.objects h.order;
        range = h.range;
        numbers = λ q y e. let x = found q y e in h.numbers q x.0 x.1;
        family = same_tree (parents then) (parents w) same_kin h.family;
        whereabouts = same_tree (places then) (places w) same_spot h.whereabouts;
        own = λ q y ps e way. let x = found q y e in
            subst (λ z. Own then z ps) (sym x.2) (owns q x.0 ps x.1 (same_path (parents then) (parents w) same_kin q ps way));
      }

-- ---- below an object

pub below_is : (w : World) (o q : ℤ) (ps : List ℤ) → OfEachObject w number_fits → Path (parents w) q ps → is_below w o q ≡ lists ps o
below_is w o q ps numbers way = ap (λ l. lists l o) (ancestors_of w q ps numbers way)

-- the path of the parent
pub parent_path : (w : World) (q : ℤ) (x : Object) (p : ℤ) (ps : List ℤ) → object_at w q ≡ Some x → Path (parents w) q (p ∷ ps)
    → Path (parents w) x.header.parent ps
parent_path w q x p ps e way =
    let same : way.1.0 ≡ kin x = some_same (sym way.1.1 ∙ ap (option_map kin) e) in subst (λ (n : Node). Path (parents w) n.0 ps) same way.1.2

-- ---- a new property

module _ (w : World) (o : ℤ) (p : Text) (s : Slot) (x : Object) (is : object_at w o ≡ Some x) (h : Household w)
    (full : IsTrue (is_some s.content)) (new_here : slot_at w o p ≡ None)
    (new_below : (q : ℤ) (y : Object) → object_at w q ≡ Some y → is_below w o q ≡ true → has_name (map fold_case y.defines) (fold_case p) ≡ false) where
  abbrev key : Text
  key = fold_case p

  abbrev gets : ℤ → Object → Object
  gets d y = cond (int_eq d o) (defining y p s) (cond (is_below w o d) (with_own_slot y p (heir_slot y.header.owner s)) y)

  abbrev wider : World
  wider = change_each w gets

  names_at : (q : ℤ)
      → folded_names (object_at wider q) ≡ cond (int_eq q o) (folded_names (object_at w q) ++ cond (is_some (object_at w q)) (key ∷ []) []) (folded_names (object_at w q))
  names_at q = ap folded_names (at_each w q gets) ∙ go (object_at w q) (int_eq q o) (is_below w o q)
    where
      mapped : (ts : List Text) → map fold_case (ts ++ p ∷ []) ≡ map fold_case ts ++ key ∷ []
      mapped [] = refl
      mapped (t ∷ ts) = ap (λ us. fold_case t ∷ us) (mapped ts)

      go : (m : Option Object) (b c : Bool)
          → folded_names (option_map (λ y. cond b (defining y p s) (cond c (with_own_slot y p (heir_slot y.header.owner s)) y)) m)
          ≡ cond b (folded_names m ++ cond (is_some m) (key ∷ []) []) (folded_names m)
      go None true c = refl
      go None false c = refl
      go (Some y) true c = mapped y.defines
      go (Some y) false true = refl
      go (Some y) false false = refl

  -- no name of a line through the object is the new one
  unknown : (q : ℤ) (ps : List ℤ) → Path (parents w) q ps → IsTrue (lists ps o) → has_name (defined_on w ps) key ≡ false
  unfolding defined_on
  unknown q [] way l = cc
  unknown q (r ∷ ps) way l = go (same_or_not o r) (unknown way.1.0.0 ps way.1.2)
    where
      at_o : o ≡ r → has_name (defined_on w (r ∷ ps)) key ≡ false
      at_o e =
          let at_q : object_at w q ≡ Some x = ap (object_at w) (sym (e ∙ way.0)) ∙ is in
          sym ((h.own q x (r ∷ ps) at_q way).slots key) ∙ ap is_some (sym (ap (λ y. slot_of y p) is) ∙ new_here)

      go : (o ≡ r) ⊎ (int_eq o r ≡ false) → (IsTrue (lists ps o) → has_name (defined_on w ps) key ≡ false) → has_name (defined_on w (r ∷ ps)) key ≡ false
      go (inl e) later = at_o e
      go (inr e) later =
          let y = object_there (λ z. z.header.parent) (λ z. z.children) w q way.1.0 way.1.1 in
          has_both (folded_names (object_at w r)) (defined_on w ps) key
          ∙ (λ i. (ap (λ z. has_name (folded_names z) key) (ap (object_at w) way.0 ∙ y.1) ∙ new_below q y.0 y.1 (below_is w o q (r ∷ ps) h.numbers way ∙ l)) i || later (ap (λ b. b || lists ps o) (sym e) ∙ l) i)

  -- the names of a line through the object are those before, and the new one
  abbrev Wider : List ℤ → Type 0
  Wider ps = ((t : Text) → has_name (defined_on wider ps) t ≡ (has_name (defined_on w ps) t || same_text t key)) × IsTrue (names_once (defined_on wider ps))

  same_above : (q : ℤ) (ps : List ℤ) → lists ps o ≡ false → defined_on wider ps ≡ defined_on w ps
  same_above q ps l = names_same w wider ps (λ r k. names_at r ∙ ap (λ b. cond b (folded_names (object_at w r) ++ cond (is_some (object_at w r)) (key ∷ []) []) (folded_names (object_at w r))) (apart r k))
    where
      apart : (r : ℤ) → IsTrue (lists ps r) → int_eq r o ≡ false
      apart r k = go (same_or_not r o)
        where
          go : (r ≡ o) ⊎ (int_eq r o ≡ false) → int_eq r o ≡ false
          go (inl e) = let clash : lists ps r ≡ false = subst (λ z. lists ps z ≡ false) (sym e) l in absurd (cc (clash, k))
          go (inr e) = e

  wider_line : (q : ℤ) (ps : List ℤ) → Path (parents w) q ps → IsTrue (lists ps o) → IsTrue (names_once (defined_on w ps)) → Wider ps
  unfolding defined_on names_once
  wider_line q [] way l once = cc
  wider_line q (r ∷ ps) way l once = go (same_or_not o r) (λ k. wider_line way.1.0.0 ps way.1.2 k (once_second (folded_names (object_at w r)) (defined_on w ps) once))
    where
      ours : List Text
      ours = folded_names (object_at w r)

      swap : (a b c : Bool) → ((a || (b || false)) || c) ≡ ((a || c) || b)
      swap true b c = refl
      swap false true true = refl
      swap false true false = refl
      swap false false true = refl
      swap false false false = refl

      at_o : o ≡ r → Wider (r ∷ ps)
      at_o e =
          let none : lists ps o ≡ false = subst (λ z. lists ps z ≡ false) (sym way.0 ∙ sym e) (never_again (parents w) q r ps way) in
          let rest : defined_on wider ps ≡ defined_on w ps = same_above q ps none in
          let at_r : object_at w r ≡ Some x = ap (object_at w) (sym e) ∙ is in
          let here : folded_names (object_at wider r) ≡ folded_names (object_at w r) ++ key ∷ [] =
          names_at r ∙ ap (λ b. cond b (folded_names (object_at w r) ++ cond (is_some (object_at w r)) (key ∷ []) []) (folded_names (object_at w r))) (subst (λ z. int_eq z o ≡ true) e (integer_itself o))
          ∙ ap (λ m. folded_names (object_at w r) ++ cond (is_some m) (key ∷ []) []) at_r in
          let fresh : has_name (defined_on w (r ∷ ps)) key ≡ false = unknown q (r ∷ ps) way l in
          let parts = has_both (folded_names (object_at w r)) (defined_on w ps) key in
          let first : has_name (folded_names (object_at w r)) key ≡ false = head_false _ _ (sym parts ∙ fresh) in
          let second : has_name (defined_on w ps) key ≡ false = tail_false (has_name (folded_names (object_at w r)) key) _ (sym parts ∙ fresh) in
          let all : defined_on wider (r ∷ ps) ≡ (folded_names (object_at w r) ++ key ∷ []) ++ defined_on w ps = λ i. here i ++ rest i in (
            (λ t. ap (λ ts. has_name ts t) all ∙ has_both (folded_names (object_at w r) ++ key ∷ []) (defined_on w ps) t
                ∙ ap (λ b. b || has_name (defined_on w ps) t) (has_both (folded_names (object_at w r)) (key ∷ []) t)
                ∙ swap (has_name (folded_names (object_at w r)) t) (same_text t key) (has_name (defined_on w ps) t)
                ∙ ap (λ b. b || same_text t key) (sym (has_both (folded_names (object_at w r)) (defined_on w ps) t))),
            subst (λ ts. IsTrue (names_once ts)) (sym all)
                (once_both (folded_names (object_at w r) ++ key ∷ []) (defined_on w ps)
                (once_both (folded_names (object_at w r)) (key ∷ []) (once_first (folded_names (object_at w r)) (defined_on w ps) once) refl
                (λ t k. alone t (text_or_not t key) first k))
                (once_second (folded_names (object_at w r)) (defined_on w ps) once)
                (λ t k. both_apart t second (once_apart (folded_names (object_at w r)) (defined_on w ps) once t) (either (has_name (folded_names (object_at w r)) t) _ (sym (has_both (folded_names (object_at w r)) (key ∷ []) t) ∙ k)))),
          )
        where
          head_false : (a b : Bool) → (a || b) ≡ false → a ≡ false
          head_false true b k = cc
          head_false false b k = refl

          tail_false : (a b : Bool) → (a || b) ≡ false → b ≡ false
          tail_false true b k = cc
          tail_false false b k = k

          alone : (t : Text) → (t ≡ key) ⊎ (same_text t key ≡ false) → has_name (folded_names (object_at w r)) key ≡ false
              → IsTrue (has_name (folded_names (object_at w r)) t) → has_name (key ∷ []) t ≡ false
          alone t (inl i) first k = let clash : has_name (folded_names (object_at w r)) t ≡ false = subst (λ z. has_name (folded_names (object_at w r)) z ≡ false) (sym i) first in absurd (cc (clash, k))
          alone t (inr i) first k = ap (λ b. b || false) i

          both_apart : (t : Text) → has_name (defined_on w ps) key ≡ false
              → (IsTrue (has_name (folded_names (object_at w r)) t) → has_name (defined_on w ps) t ≡ false)
              → IsTrue (has_name (folded_names (object_at w r)) t) ⊎ IsTrue (has_name (key ∷ []) t) → has_name (defined_on w ps) t ≡ false
          both_apart t second far (inl k) = far k
          both_apart t second far (inr k) = by (text_or_not t key)
            where
              by : (t ≡ key) ⊎ (same_text t key ≡ false) → has_name (defined_on w ps) t ≡ false
              by (inl i) = subst (λ z. has_name (defined_on w ps) z ≡ false) (sym i) second
              by (inr i) = let clash : has_name (key ∷ []) t ≡ false = ap (λ b. b || false) i in absurd (cc (clash, k))

      later_o : int_eq o r ≡ false → Wider ps → Wider (r ∷ ps)
      later_o e rest =
          let here : folded_names (object_at wider r) ≡ folded_names (object_at w r) =
          names_at r ∙ ap (λ b. cond b (folded_names (object_at w r) ++ cond (is_some (object_at w r)) (key ∷ []) []) (folded_names (object_at w r))) (turned o r e) in
          let y = object_there (λ z. z.header.parent) (λ z. z.children) w q way.1.0 way.1.1 in
          let none : has_name (folded_names (object_at w r)) key ≡ false =
          ap (λ z. has_name (folded_names z) key) (ap (object_at w) way.0 ∙ y.1) ∙ new_below q y.0 y.1 (below_is w o q (r ∷ ps) h.numbers way ∙ l) in (
            (λ t. has_both (folded_names (object_at wider r)) (defined_on wider ps) t
                ∙ (λ i. has_name (here i) t || rest.0 t i) ∙ again (has_name (folded_names (object_at w r)) t) (has_name (defined_on w ps) t) (same_text t key)
                ∙ ap (λ b. b || same_text t key) (sym (has_both (folded_names (object_at w r)) (defined_on w ps) t))),
            subst (λ ts. IsTrue (names_once (ts ++ defined_on wider ps))) (sym here)
                (once_both (folded_names (object_at w r)) (defined_on wider ps) (once_first (folded_names (object_at w r)) (defined_on w ps) once) rest.1
                (λ t k. rest.0 t ∙ none_of t (once_apart (folded_names (object_at w r)) (defined_on w ps) once t k) none k)),
          )
        where
          again : (a b c : Bool) → (a || (b || c)) ≡ ((a || b) || c)
          again true b c = refl
          again false b c = refl

          none_of : (t : Text) → has_name (defined_on w ps) t ≡ false → has_name (folded_names (object_at w r)) key ≡ false
              → IsTrue (has_name (folded_names (object_at w r)) t) → (has_name (defined_on w ps) t || same_text t key) ≡ false
          none_of t far none k = (λ i. far i || by (text_or_not t key) i)
            where
              by : (t ≡ key) ⊎ (same_text t key ≡ false) → same_text t key ≡ false
              by (inl i) = let clash : has_name (folded_names (object_at w r)) t ≡ false = subst (λ z. has_name (folded_names (object_at w r)) z ≡ false) (sym i) none in absurd (cc (clash, k))
              by (inr i) = i

      go : (o ≡ r) ⊎ (int_eq o r ≡ false) → (IsTrue (lists ps o) → Wider ps) → Wider (r ∷ ps)
      go (inl e) later = at_o e
      go (inr e) later = later_o e (later (ap (λ b. b || lists ps o) (sym e) ∙ l))

  -- ---- each object has the slot

  got : (es : Named Slot) (t : Text) (r : Slot) → is_some (named (with_name es key r) t) ≡ (is_some (named es t) || same_text t key)
  got es t r = ap is_some (named_with es key t r) ∙ go (same_text t key) (named es t)
    where
      go : (b : Bool) (m : Option Slot) → is_some (cond b (Some r) m) ≡ (is_some m || b)
      go true None = refl
      go true (Some z) = refl
      go false None = refl
      go false (Some z) = refl

  own_with : (q : ℤ) (y : Object) (ps : List ℤ) (r : Slot) → Own w y ps → Wider ps → (t : Text)
      → is_some (named (with_name y.slots key r) t) ≡ has_name (defined_on wider ps) t
  own_with q y ps r own wide t = got y.slots t r ∙ ap (λ b. b || same_text t key) (own.slots t) ∙ sym (wide.0 t)

  heir_own : (q : ℤ) (y : Object) (ps : List ℤ) (r : Slot) → Own w y ps → Wider ps → has_name (map fold_case y.defines) key ≡ false
      → Own wider (with_own_slot y p r) ps
  heir_own q y ps r own wide none =
      record {
        sorted = with_sorted y.slots key r own.sorted;
        once = wide.1;
        slots = own_with q y ps r own wide;
        filled = λ t k. subst (λ m. IsTrue (is_some (content_of m))) (sym (named_with y.slots key t r)) (go t k (text_or_not t key));
      }
    where
      go : (t : Text) → IsTrue (has_name (map fold_case y.defines) t) → (t ≡ key) ⊎ (same_text t key ≡ false)
          → IsTrue (is_some (content_of (cond (same_text t key) (Some r) (named y.slots t))))
      go t k (inl i) = let clash : has_name (map fold_case y.defines) t ≡ false = subst (λ z. has_name (map fold_case y.defines) z ≡ false) (sym i) none in absurd (cc (clash, k))
      go t k (inr i) = subst (λ b. IsTrue (is_some (content_of (cond b (Some r) (named y.slots t))))) (sym i) (own.filled t k)

  definer_own : (q : ℤ) (y : Object) (ps : List ℤ) → Own w y ps → Wider ps → Own wider (defining y p s) ps
  definer_own q y ps own wide =
      record {
        sorted = with_sorted y.slots key s own.sorted;
        once = wide.1;
        slots = own_with q y ps s own wide;
        filled = λ t k. subst (λ m. IsTrue (is_some (content_of m))) (sym (named_with y.slots key t s)) (go t (text_or_not t key) (mapped y.defines t k));
      }
    where
      mapped : (ts : List Text) (t : Text) → IsTrue (has_name (map fold_case (ts ++ p ∷ [])) t)
          → IsTrue (has_name (map fold_case ts) t) ⊎ IsTrue (same_text t key)
      mapped [] t k = inr (one (same_text t key) k)
        where
          one : (b : Bool) → IsTrue (b || false) → IsTrue b
          one true e = refl
          one false e = e
      mapped (u ∷ ts) t k = by (mapped ts t) (either (same_text t (fold_case u)) _ k)
        where
          by : (IsTrue (has_name (map fold_case (ts ++ p ∷ [])) t) → IsTrue (has_name (map fold_case ts) t) ⊎ IsTrue (same_text t key))
              → IsTrue (same_text t (fold_case u)) ⊎ IsTrue (has_name (map fold_case (ts ++ p ∷ [])) t)
              → IsTrue (has_name (map fold_case (u ∷ ts)) t) ⊎ IsTrue (same_text t key)
          by later (inl e) = inl (first_of (same_text t (fold_case u)) _ e)
          by later (inr e) = on (later e)
            where
              on : IsTrue (has_name (map fold_case ts) t) ⊎ IsTrue (same_text t key) → IsTrue (has_name (map fold_case (u ∷ ts)) t) ⊎ IsTrue (same_text t key)
              on (inl z) = inl (second_of (same_text t (fold_case u)) _ z)
              on (inr z) = inr z

      go : (t : Text) → (t ≡ key) ⊎ (same_text t key ≡ false) → IsTrue (has_name (map fold_case y.defines) t) ⊎ IsTrue (same_text t key)
          → IsTrue (is_some (content_of (cond (same_text t key) (Some s) (named y.slots t))))
      go t (inl i) k = subst (λ b. IsTrue (is_some (content_of (cond b (Some s) (named y.slots t))))) (sym (subst (λ z. same_text z key ≡ true) (sym i) (text_itself key))) full
      go t (inr i) (inl k) = subst (λ b. IsTrue (is_some (content_of (cond b (Some s) (named y.slots t))))) (sym i) (own.filled t k)
      go t (inr i) (inr k) = absurd (cc (i, k))

  apart_own : (y : Object) (ps : List ℤ) → Own w y ps → defined_on wider ps ≡ defined_on w ps → Own wider y ps
  apart_own y ps own names =
      record {
        sorted = own.sorted;
        once = subst (λ ts. IsTrue (names_once ts)) (sym names) own.once;
        slots = λ t. own.slots t ∙ ap (λ ts. has_name ts t) (sym names);
        filled = own.filled;
      }

  each_own : (q : ℤ) (y : Object) (ps : List ℤ) → object_at w q ≡ Some y → Path (parents w) q ps → Own wider (gets q y) ps
  each_own q y ps e way = go (same_or_not q o) (lists ps o) refl
    where
      own : Own w y ps
      own = h.own q y ps e way

      begins : (ps : List ℤ) → Path (parents w) q ps → q ≡ o → IsTrue (lists ps o)
      begins [] way s = let clash : None ≡ Some (kin y) = sym way ∙ ap (option_map kin) e in absurd (cc (clash))
      begins (r ∷ ps) way s = first_of (int_eq o r) _ (subst (λ z. int_eq z r ≡ true) (way.0 ∙ s) (integer_itself r))

      go : (q ≡ o) ⊎ (int_eq q o ≡ false) → (b : Bool) → lists ps o ≡ b → Own wider (gets q y) ps
      go (inl d) b l =
          let wide : Wider ps = wider_line q ps way (begins ps way d) own.once in
          subst (λ c. Own wider (cond c (defining y p s) (cond (is_below w o q) (with_own_slot y p (heir_slot y.header.owner s)) y)) ps) (sym (subst (λ z. int_eq q z ≡ true) d (integer_itself q)))
          (definer_own q y ps own wide)
      go (inr d) true l =
          let under : is_below w o q ≡ true = below_is w o q ps h.numbers way ∙ l in
          subst (λ c. Own wider (cond c (defining y p s) (cond (is_below w o q) (with_own_slot y p (heir_slot y.header.owner s)) y)) ps) (sym d)
          (subst (λ c. Own wider (cond c (with_own_slot y p (heir_slot y.header.owner s)) y) ps) (sym under)
          (heir_own q y ps (heir_slot y.header.owner s) own (wider_line q ps way l own.once) (new_below q y e under)))
      go (inr d) false l =
          let under : is_below w o q ≡ false = below_is w o q ps h.numbers way ∙ l in
          subst (λ c. Own wider (cond c (defining y p s) (cond (is_below w o q) (with_own_slot y p (heir_slot y.header.owner s)) y)) ps) (sym d)
          (subst (λ c. Own wider (cond c (with_own_slot y p (heir_slot y.header.owner s)) y) ps) (sym under) (apart_own y ps own (same_above q ps l)))

  pub added_household : Household wider
  added_household = each_household w gets h kind place each_own
    where
      kind : (q : ℤ) (y : Object) → kin (gets q y) ≡ kin y
      kind q y = go (int_eq q o) (is_below w o q)
        where
          go : (b c : Bool) → kin (cond b (defining y p s) (cond c (with_own_slot y p (heir_slot y.header.owner s)) y)) ≡ kin y
          go true c = refl
          go false true = refl
          go false false = refl

      place : (q : ℤ) (y : Object) → spot (gets q y) ≡ spot y
      place q y = go (int_eq q o) (is_below w o q)
        where
          go : (b c : Bool) → spot (cond b (defining y p s) (cond c (with_own_slot y p (heir_slot y.header.owner s)) y)) ≡ spot y
          go true c = refl
          go false true = refl
          go false false = refl

pub property_added_household : (w : World) (o : ℤ) (p : Text) (s : Slot) (x : Object) → object_at w o ≡ Some x → Household w
    → IsTrue (is_some s.content) → slot_at w o p ≡ None
    → ((q : ℤ) (y : Object) → object_at w q ≡ Some y → is_below w o q ≡ true → has_name (map fold_case y.defines) (fold_case p) ≡ false)
    → Household (property_added w o p s)
unfolding property_added
property_added_household = added_household
