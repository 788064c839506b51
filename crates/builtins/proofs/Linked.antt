-- Players with links, in the order of their numbers.
use Rattle.std.proofs.Common.{◌≡◌, ◌⊎◌, inl, inr, ℤ, zero, suc, pos, negsuc, Bool, true, false, ◌&&◌, ◌||◌, List, [], ◌∷◌, map, filter, Option, Some, None, refl, sym, ap, ◌∙◌, subst, cond, IsTrue, is_some, Ordering, Less, Equal, Greater}
use Rattle.std.specs.Prelude.{int_le, neg_ℤ, ◌-ℤ◌}
use Rattle.std.specs.Ordering.{int_cmp, int_eq, is_lt}
use Rattle.std.specs.List.{AllByRecursion}
use Rattle.std.specs.List.Sorted.{IsStrictlySortedBy}
use Rattle.std.specs.Cmp.{int_cmp_total}
use Rattle.std.specs.FinMap.{int_cmp-IsAntisymmetric}
use Rattle.std.specs.FinMap.Entries.{is_some-find, below_all}
use Rattle.std.specs.BTreeSet.{BTreeSet, IsFromIterResult}
use Rattle.std.proofs.lemmas.Map.Lookups.{btree_set_from_contains}
use Rattle.spec_value.specs.Datum.{Datum, object}
use Rattle.spec_value.specs.Answer.{gives}
use Rattle.spec_value.specs.Table.{Numbered, at, is_numbered}
use Rattle.spec_value.proofs.Entries.{first_holds, second_holds}
use Rattle.spec_value.proofs.Same.{same_integer, integer_itself}
use Rattle.spec_world.specs.World.{World, Object, Link, object_at}
use Rattle.spec_world.specs.WellFormed.{lists, passes, link_fits}
use Rattle.spec_world.specs.Links.{connection_among, connection_of}
use Rattle.spec_world.proofs.Trees.{same_or_not, turned, either}
use Rattle.spec_world.proofs.TablesKept.{left_numbered}
use Rattle.spec_world.proofs.WorldsKept.{person_found}
use Rattle.spec_world.specs.Listings.{connected}
use Rattle.spec_moo.specs.Scene.{in_world}
use Rattle.spec_moo.specs.Natives.Rows.{list_value, answers_with}
use Rattle.spec_moo.specs.Natives.Tasks.{connected_among, connected_players_row}
use Rattle.view.specs.Law.{Tells}
use Rattle.rules.specs.Lines.{AreAgreeing}
use Rattle.rules.specs.Standing.{IsStanding}
use Rattle.builtins_view.specs.Said.{Says}

abbrev keys : {X : Type 0} → Numbered X → List ℤ
keys es = map (λ e. e.0) es

abbrev persons : Numbered Link → List ℤ
persons es = map (λ e. (e.1).person) es

none_and : (a : Bool) → (a && false) ≡ false
none_and true = refl
none_and false = refl

all_and : (a : Bool) → (a && true) ≡ a
all_and true = refl
all_and false = refl

-- ---- members

has_link : (es : Numbered Link) (q : ℤ) → is_some (connection_among es q) ≡ lists (persons es) q
has_link [] q = refl
has_link (e ∷ es) q = go (has_link es q) (same_or_not q (e.1).person)
  where
    go : is_some (connection_among es q) ≡ lists (persons es) q → (q ≡ (e.1).person) ⊎ (int_eq q (e.1).person ≡ false)
        → is_some (cond (int_eq (e.1).person q) (Some e.0) (connection_among es q)) ≡ (int_eq q (e.1).person || lists (persons es) q)
    go rest (inl s) =
        let one : int_eq (e.1).person q ≡ true = subst (λ z. int_eq z q ≡ true) s (integer_itself q) in
        let two : int_eq q (e.1).person ≡ true = subst (λ z. int_eq q z ≡ true) s (integer_itself q) in
        ap (λ b. is_some (cond b (Some e.0) (connection_among es q))) one ∙ sym (ap (λ b. b || lists (persons es) q) two)
    go rest (inr s) =
        ap (λ b. is_some (cond b (Some e.0) (connection_among es q))) (turned q (e.1).person s) ∙ rest ∙ sym (ap (λ b. b || lists (persons es) q) s)

-- of those whose number passes a test
among : {X : Type 0} (f : ℤ × X → ℤ) (p : ℤ → Bool) (es : Numbered X) (q : ℤ) → lists (map f (filter (λ e. p (f e)) es)) q ≡ (p q && lists (map f es) q)
among f p [] q = sym (none_and (p q))
among f p (e ∷ es) q = go (among f p es q) (same_or_not q (f e))
  where
    go : lists (map f (filter (λ x. p (f x)) es)) q ≡ (p q && lists (map f es) q) → (q ≡ f e) ⊎ (int_eq q (f e) ≡ false)
        → lists (map f (cond (p (f e)) (e ∷ filter (λ x. p (f x)) es) (filter (λ x. p (f x)) es))) q ≡ (p q && (int_eq q (f e) || lists (map f es) q))
    go rest (inl s) =
        let hit : int_eq q (f e) ≡ true = subst (λ z. int_eq q z ≡ true) s (integer_itself q) in
        ap (λ b. lists (map f (cond b (e ∷ filter (λ x. p (f x)) es) (filter (λ x. p (f x)) es))) q) (sym (ap p s)) ∙ by hit (p q) refl
        ∙ sym (ap (λ b. p q && (b || lists (map f es) q)) hit)
      where
        by : int_eq q (f e) ≡ true → (b : Bool) → p q ≡ b → lists (map f (cond b (e ∷ filter (λ x. p (f x)) es) (filter (λ x. p (f x)) es))) q ≡ (p q && true)
        by hit true k = ap (λ b. b || lists (map f (filter (λ x. p (f x)) es)) q) hit ∙ sym (ap (λ b. b && true) k)
        by hit false k = rest ∙ ap (λ b. b && lists (map f es) q) k ∙ sym (ap (λ b. b && true) k)
    go rest (inr s) = by (p (f e)) ∙ rest ∙ sym (ap (λ b. p q && (b || lists (map f es) q)) s)
      where
        by : (b : Bool) → lists (map f (cond b (e ∷ filter (λ x. p (f x)) es) (filter (λ x. p (f x)) es))) q ≡ lists (map f (filter (λ x. p (f x)) es)) q
        by true = ap (λ b. b || lists (map f (filter (λ x. p (f x)) es)) q) s
        by false = refl

-- ---- in a well-formed world

-- no connection's own object has such a number
not_its_own : (c : ℤ) → IsTrue (int_le (pos 1) c) → int_le (pos 0) (neg_ℤ (pos 3) -ℤ c) ≡ false
not_its_own (pos zero) h = cc
not_its_own (pos (suc n)) h = refl
not_its_own (negsuc n) h = cc

someone : (o : Option Object) (test : Object → Bool) → IsTrue (passes o test) → IsTrue (is_some o)
someone None test h = h
someone (Some x) test h = refl

-- who has a link is an object just where the number is not negative
linked_object : (w : World) (q : ℤ) → IsStanding w → IsTrue (lists (persons w.links) q) → int_le (pos 0) q ≡ is_some (object_at w q)
linked_object w q h l = go (int_le (pos 0) q) refl (is_some (object_at w q)) refl
  where
    found : (c : ℤ) × ((k : Link) × (at w.links c ≡ Some k) × (k.person ≡ q))
    found = person_found w.links q h.links.links_in_order l

    go : (b : Bool) → int_le (pos 0) q ≡ b → (m : Bool) → is_some (object_at w q) ≡ m → b ≡ m
    go true e true d = refl
    go false e false d = refl
    go false e true d = by (object_at w q) refl d
      where
        by : (o : Option Object) → object_at w q ≡ o → is_some o ≡ true → false ≡ true
        by None is k = k
        by (Some x) is k = sym e ∙ first_holds (int_le (pos 0) q) _ (h.objects.numbers q x is)
    go true e false d = by (either (int_eq (found.1.0).person (neg_ℤ (pos 3) -ℤ found.0)) _ (second_holds _ _ fits))
      where
        fits : IsTrue (link_fits w found.0 found.1.0)
        fits = h.links.links found.0 found.1.0 found.1.1

        by : IsTrue (int_eq (found.1.0).person (neg_ℤ (pos 3) -ℤ found.0)) ⊎ IsTrue (passes (object_at w (found.1.0).person) (λ x. x.header.is_player)) → true ≡ false
        by (inl s) =
            let own : q ≡ neg_ℤ (pos 3) -ℤ found.0 = sym found.1.2 ∙ same_integer (found.1.0).person _ s in
            sym e ∙ ap (int_le (pos 0)) own ∙ not_its_own found.0 (first_holds (int_le (pos 1) found.0) _ (first_holds _ _ fits))
        by (inr s) = sym (subst (λ z. IsTrue (is_some (object_at w z))) found.1.2 (someone (object_at w (found.1.0).person) (λ x. x.header.is_player) s)) ∙ d

abbrev linked : World → ℤ → Bool
linked w q = is_some (connection_of w q)

-- the objects that have links
abbrev linked_objects : World → List ℤ
linked_objects w = keys (filter (λ e. linked w e.0) w.objects)

abbrev linked_players : World → List ℤ
linked_players w = map (λ p. p.1) (connected w)

map_twice : (es : Numbered Link) → map (λ (p : ℤ × ℤ). p.1) (map (λ e. (e.0, (e.1).person)) es) ≡ persons es
map_twice [] = refl
map_twice (e ∷ es) = ap (λ z. (e.1).person ∷ z) (map_twice es)

same_members : (w : World) (q : ℤ) → IsStanding w → lists (linked_players w) q ≡ lists (linked_objects w) q
same_members w q h =
    ap (λ os. lists os q) (map_twice (filter (λ e. int_le (pos 0) (e.1).person) w.links)) ∙ among (λ e. (e.1).person) (int_le (pos 0)) w.links q
    ∙ by (lists (persons w.links) q) refl
    ∙ sym (among (λ e. e.0) (linked w) w.objects q ∙ ap (λ b. b && lists (keys w.objects) q) (has_link w.links q))
  where
    by : (b : Bool) → lists (persons w.links) q ≡ b → (int_le (pos 0) q && lists (persons w.links) q) ≡ (lists (persons w.links) q && lists (keys w.objects) q)
    by true k =
        ap (λ b. int_le (pos 0) q && b) k ∙ all_and (int_le (pos 0) q) ∙ linked_object w q h k ∙ is_some-find int_cmp q w.objects ∙ sym (ap (λ b. b && lists (keys w.objects) q) k)
    by false k = ap (λ b. int_le (pos 0) q && b) k ∙ none_and (int_le (pos 0) q) ∙ sym (ap (λ b. b && lists (keys w.objects) q) k)

-- ---- in their order

below_keys : {X : Type 0} (k : ℤ) (es : Numbered X) → IsTrue (below_all int_cmp k es) → AllByRecursion (λ o. int_cmp k o ≡ Less) (keys es)
below_keys k [] h = tt
below_keys k (e ∷ es) h = (is_less (int_cmp k e.0) (first_holds _ _ h), below_keys k es (second_holds _ _ h))
  where
    is_less : (r : Ordering) → IsTrue (is_lt r) → r ≡ Less
    is_less Less m = refl
    is_less Equal m = cc
    is_less Greater m = cc

keys_rise : {X : Type 0} (es : Numbered X) → IsTrue (is_numbered es) → IsStrictlySortedBy int_cmp (keys es)
unfolding IsStrictlySortedBy
keys_rise [] h = tt
keys_rise (e ∷ es) h = (below_keys e.0 es (first_holds _ _ h), keys_rise es (second_holds _ _ h))

in_order_are : (w : World) (s : BTreeSet ℤ) → IsStanding w → IsFromIterResult int_cmp (linked_players w) s → s.keys ≡ linked_objects w
in_order_are w s h made =
    btree_set_from_contains int_cmp_total s (record { keys = linked_objects w }) made.1 (keys_rise (filter (λ e. linked w e.0) w.objects) (left_numbered (λ e. linked w e.0) w.objects h.objects.objects_in_order))
    (λ q. made.0 q ∙ same_members w q h) int_cmp-IsAntisymmetric

listed_so : (w : World) (es : Numbered Object) → connected_among w es ≡ map object (keys (filter (λ e. linked w e.0) es))
listed_so w [] = refl
listed_so w (e ∷ es) = go (listed_so w es) (linked w e.0)
  where
    go : connected_among w es ≡ map object (keys (filter (λ x. linked w x.0) es)) → (b : Bool)
        → cond b (object e.0 ∷ connected_among w es) (connected_among w es) ≡ map object (keys (cond b (e ∷ filter (λ x. linked w x.0) es) (filter (λ x. linked w x.0) es)))
    go rest true = ap (λ vs. object e.0 ∷ vs) rest
    go rest false = rest

-- ---- the answer

pub connected_told : {V : Type 0} (holds : V → World → Type 0) (now : V → World → World) (a b : V) (ps : List (ℤ × ℤ)) (s : BTreeSet ℤ) (vs : List Datum) (x : Datum)
    → AreAgreeing holds now a → Tells holds now a b (λ w. connected w ≡ ps) → IsFromIterResult int_cmp (map (λ p. p.1) ps) s → vs ≡ map object s.keys → x ≡ list_value vs
    → Tells holds now a b (λ w. (who : ℤ) → Says (λ n c. connected_players_row n c []) w who (gives x))
connected_told holds now a b ps s vs x known told made items value w left =
    let t = told w left in
    let h = known w t.0 in
    let are : s.keys ≡ linked_objects (now a w) = in_order_are (now a w) s h (subst (λ (qs : List (ℤ × ℤ)). IsFromIterResult int_cmp (map (λ p. p.1) qs) s) (sym t.1.1) made) in
    let all : connected_among (now a w) (now a w).objects ≡ vs = listed_so (now a w) (now a w).objects ∙ ap (map object) (sym are) ∙ sym items in
    (t.0, (t.1.0, λ who n c. ap (λ us. answers_with (in_world n (now a w)) (list_value us)) all ∙ ap (λ u. answers_with (in_world n (now a w)) u) (sym value)))
