-- Players that are asked for number by number are those of the world.
use Rattle.std.proofs.Common.{◌≡◌, ◌⊎◌, inl, inr, ℕ, zero, suc, ◌+◌, ◌-◌, ◌<◌, ◌≤◌, ◌<ℤ◌, ℤ, pos, negsuc, Bool, true, false, ◌&&◌, ◌||◌, List, [], ◌∷◌, ◌++◌, Option, Some, None, refl, sym, ap, ◌∙◌, subst, cond, IsTrue, if◌then◌else◌, append_assoc, append-nil, arith, leb-true}
use Rattle.std.specs.Prelude.{int_le, neg_ℤ, option_map, map}
use Rattle.std.specs.Ordering.{int_cmp, int_eq}
use Rattle.std.specs.Ordering.{is_lt}
use Rattle.std.specs.FinMap.Entries.{below_all}
use Rattle.std.specs.declared.cmp.Ordering.{Ordering}
use Rattle.std.specs.declared.cmp.Ordering.TheVariants.{Less, Equal, Greater}
use Rattle.std.proofs.lemmas.Bool.{ltb-true, ltb-false}
use Rattle.std.proofs.lemmas.Cmp.{int_ranked}
use Rattle.std.proofs.lemmas.Int.{ints}
use Rattle.std.proofs.Math.Dec.{ltb}
use Rattle.spec_value.specs.Datum.{Datum, object}
use Rattle.spec_value.specs.Answer.{gives}
use Rattle.spec_value.specs.Table.{Numbered, at, is_numbered}
use Rattle.spec_value.proofs.Entries.{first_holds, second_holds}
use Rattle.spec_value.proofs.Same.{same_integer, integer_itself}
use Rattle.spec_world.specs.World.{World, Header, Object, object_at}
use Rattle.spec_world.specs.WellFormed.{OfEachObject, number_fits}
use Rattle.spec_world.proofs.Trees.{same_or_not, other, turned}
use Rattle.spec_world.proofs.Recycling.{below_none}
use Rattle.spec_world.specs.Questions.{header_at}
use Rattle.spec_moo.specs.Scene.{in_world}
use Rattle.spec_moo.specs.Natives.Rows.{list_value, answers_with}
use Rattle.spec_moo.specs.Natives.Objects.{as_objects, players_among, players_row}
use Rattle.rules.specs.Lines.{AreAgreeing}
use Rattle.view.specs.Law.{Tells}
use Rattle.builtins_view.specs.Said.{Says}
use Rattle.builtins_view.specs.Counting.{numbers_to, player_in, players_from}

abbrev shown : Numbered Object → ℤ → Option Header
shown es o = option_map (λ x. x.header) (at es o)

-- as `players_from`, of these objects
unfoldable players_at : Numbered Object → ℕ → ℕ → List ℤ
players_at es n zero = []
players_at es n (suc k) = player_in (pos n) (shown es (pos n)) ++ players_at es (suc n) k

same_players : (w : World) (n k : ℕ) → players_from w n k ≡ players_at w.objects n k
unfolding players_from players_at
same_players w n zero = refl
same_players w n (suc k) = ap (λ os. player_in (pos n) (shown w.objects (pos n)) ++ os) (same_players w (suc n) k)

-- a number among so many, from this one on
record IsAmong (n k : ℕ) (o : ℤ) : Type 0 where
  place : ℕ
  is : o ≡ pos place
  from : n ≤ place
  below : place < n + k

abbrev AreAmong : ℕ → ℕ → Numbered Object → Type 0
AreAmong n k es = (o : ℤ) (x : Object) → at es o ≡ Some x → IsAmong n k o

-- what stands behind a key is greater
greater : (a : ℤ) (es : Numbered Object) → IsTrue (below_all int_cmp a es) → (o : ℤ) (x : Object) → at es o ≡ Some x → a <ℤ o
greater a [] h o x found = cc found
greater a (e ∷ es) h o x found = by (greater a es (second_holds _ _ h) o x) (same_or_not o e.0)
  where
    less : (r : Ordering) → r ≡ int_cmp a e.0 → IsTrue (is_lt r) → a <ℤ e.0
    less Less is t = int_ranked a e.0 Less is
    less Equal is t = cc t
    less Greater is t = cc t

    by : (at es o ≡ Some x → a <ℤ o) → (o ≡ e.0) ⊎ (int_eq o e.0 ≡ false) → a <ℤ o
    by later (inl s) = subst (λ p. a <ℤ p) (sym s) (less (int_cmp a e.0) refl (first_holds _ _ h))
    by later (inr s) = later (sym (ap (λ b. cond b (Some e.1) (at es o)) s) ∙ found)

-- but the first
not_first : (n k : ℕ) (o : ℤ) → int_eq (pos n) o ≡ false → IsAmong n (suc k) o → IsAmong (suc n) k o
not_first n k o far h = record { place = h.place; is = h.is; from = later h.place h.is h.from; below = omega (arith, h.below) }
  where
    later : (m : ℕ) → o ≡ pos m → n ≤ m → suc n ≤ m
    later m is from = go (ltb n m) refl
      where
        go : (b : Bool) → ltb n m ≡ b → suc n ≤ m
        go true e = ltb-true n m e
        go false e = let same : n ≡ m = omega (arith, from, ltb-false n m e) in absurd (other (pos n) o far (ap pos same ∙ sym is))

-- an entry that is no more asked for
passed : (e : ℤ × Object) (es : Numbered Object) (m : ℕ) → e.0 ≡ pos m → (n k : ℕ) → m < n → players_at (e ∷ es) n k ≡ players_at es n k
unfolding players_at
passed e es m is n zero h = refl
passed e es m is n (suc k) h =
    (λ i. player_in (pos n) (option_map (λ x. x.header) (cond (far i) (Some e.1) (at es (pos n)))) ++ players_at (e ∷ es) (suc n) k)
    ∙ ap (λ os. player_in (pos n) (shown es (pos n)) ++ os) (passed e es m is (suc n) k (omega (arith, h)))
  where
    far : int_eq (pos n) e.0 ≡ false
    far = go (same_or_not (pos n) e.0)
      where
        go : (pos n ≡ e.0) ⊎ (int_eq (pos n) e.0 ≡ false) → int_eq (pos n) e.0 ≡ false
        go (inl s) = let t : pos n ≡ pos m = s ∙ is in let u : n ≡ m = cc t in absurd (omega (arith, u, h))
        go (inr f) = f

player_first : (e : ℤ × Object) (es : Numbered Object) → player_in e.0 (Some (e.1).header) ++ players_among es ≡ players_among (e ∷ es)
player_first e es = go (e.1).header.is_player
  where
    go : (b : Bool) → (if b then e.0 ∷ [] else []) ++ players_among es ≡ (if b then e.0 ∷ players_among es else players_among es)
    go true = refl
    go false = refl

-- those of objects in their order
all_players : (es : Numbered Object) (n k : ℕ) → IsTrue (is_numbered es) → AreAmong n k es → players_at es n k ≡ players_among es
unfolding players_at
all_players [] n zero h within = refl
all_players [] n (suc k) h within = all_players [] (suc n) k h (λ o x is. cc is)
all_players (e ∷ es) n zero h within =
    let f = within e.0 e.1 (ap (λ b. cond b (Some e.1) (at es e.0)) (integer_itself e.0)) in absurd (omega (arith, f.from, f.below))
all_players (e ∷ es) n (suc k) h within = go (all_players es (suc n) k (second_holds _ _ h)) (all_players (e ∷ es) (suc n) k h) (same_or_not (pos n) e.0)
  where
    -- the others are behind the first
    behind : (o : ℤ) (x : Object) → at es o ≡ Some x → int_eq o e.0 ≡ false
    behind o x found = by (same_or_not o e.0)
      where
        by : (o ≡ e.0) ⊎ (int_eq o e.0 ≡ false) → int_eq o e.0 ≡ false
        by (inl s) = let clash : None ≡ Some x = sym (below_none e.0 es (first_holds _ _ h)) ∙ ap (at es) (sym s) ∙ found in absurd (cc clash)
        by (inr s) = s

    rest : pos n ≡ e.0 → AreAmong (suc n) k es
    rest is o x found =
        let far : int_eq o e.0 ≡ false = behind o x found in
        not_first n k o (turned o (pos n) (subst (λ p. int_eq o p ≡ false) (sym is) far)) (within o x (ap (λ b. cond b (Some e.1) (at es o)) far ∙ found))

    first : IsAmong n (suc k) e.0
    first = within e.0 e.1 (ap (λ b. cond b (Some e.1) (at es e.0)) (integer_itself e.0))

    -- none has the first number
    far_from_all : int_eq (pos n) e.0 ≡ false → (o : ℤ) (x : Object) → at (e ∷ es) o ≡ Some x → int_eq (pos n) o ≡ false
    far_from_all far o x found = by (same_or_not (pos n) o) (same_or_not o e.0)
      where
        by : (pos n ≡ o) ⊎ (int_eq (pos n) o ≡ false) → (o ≡ e.0) ⊎ (int_eq o e.0 ≡ false) → int_eq (pos n) o ≡ false
        by (inr s) _ = s
        by (inl s) (inl t) = absurd (other (pos n) e.0 far (s ∙ t))
        by (inl s) (inr t) =
            let more = greater e.0 es (first_holds _ _ h) o x (sym (ap (λ b. cond b (Some e.1) (at es o)) t) ∙ found) in
            let above : pos first.place <ℤ pos n = subst (λ p. p <ℤ pos n) first.is (subst (λ p. e.0 <ℤ p) (sym s) more) in
            absurd (omega (arith, ints, above, first.from))

    none : int_eq (pos n) e.0 ≡ false → at (e ∷ es) (pos n) ≡ None
    none far = by (at (e ∷ es) (pos n)) refl
      where
        by : (m : Option Object) → at (e ∷ es) (pos n) ≡ m → at (e ∷ es) (pos n) ≡ None
        by None is = is
        by (Some x) is = absurd (other (pos n) (pos n) (far_from_all far (pos n) x is) refl)

    go : (AreAmong (suc n) k es → players_at es (suc n) k ≡ players_among es) → (AreAmong (suc n) k (e ∷ es) → players_at (e ∷ es) (suc n) k ≡ players_among (e ∷ es))
        → (pos n ≡ e.0) ⊎ (int_eq (pos n) e.0 ≡ false) → players_at (e ∷ es) n (suc k) ≡ players_among (e ∷ es)
    go others all (inl is) =
        let found : at (e ∷ es) (pos n) ≡ Some e.1 = ap (λ b. cond b (Some e.1) (at es (pos n))) (subst (λ o. int_eq o e.0 ≡ true) (sym is) (integer_itself e.0)) in
        ap (λ m. player_in (pos n) (option_map (λ x. x.header) m) ++ players_at (e ∷ es) (suc n) k) found
        ∙ ap (λ o. player_in o (Some (e.1).header) ++ players_at (e ∷ es) (suc n) k) is
        ∙ ap (λ os. player_in e.0 (Some (e.1).header) ++ os) (passed e es n (sym is) (suc n) k (omega arith) ∙ others (rest is))
        ∙ player_first e es
    go others all (inr far) =
        ap (λ m. player_in (pos n) (option_map (λ x. x.header) m) ++ players_at (e ∷ es) (suc n) k) (none far)
        ∙ all (λ o x found. not_first n k o (far_from_all far o x found) (within o x found))

-- all of a world's, where its numbers go up to the greatest
are_players : (w : World) → IsTrue (is_numbered w.objects) → OfEachObject w number_fits → players_from w 0 (numbers_to w.greatest) ≡ players_among w.objects
are_players w h numbers = same_players w 0 (numbers_to w.greatest) ∙ all_players w.objects 0 (numbers_to w.greatest) h (λ o x found. fits w.greatest o (numbers o x found))
  where
    within : (m g : ℕ) → IsTrue (int_le (pos m) (pos g)) → m < 0 + suc g
    within m g k = let le : m ≤ g = leb-true m g k in omega arith

    fits : (g o : ℤ) → IsTrue (int_le (pos 0) o && int_le o g) → IsAmong 0 (numbers_to g) o
    fits (pos g) (pos m) k = record { place = m; is = refl; from = omega arith; below = within m g (second_holds _ _ k) }
    fits (negsuc g) (pos m) k = let no : false ≡ true = second_holds (int_le (pos 0) (pos m)) (int_le (pos m) (negsuc g)) k in absurd (cc no)
    fits g (negsuc m) k = let no : false ≡ true = k in absurd (cc no)

-- ---- one number more

snoc_front : (w : World) (n j k : ℕ) → j ≡ suc k → players_from w n j ≡ player_in (pos n) (header_at w (pos n)) ++ players_from w (n + 1) k
unfolding players_from
snoc_front w n j k is = ap (players_from w n) is ∙ ap (λ m. player_in (pos n) (header_at w (pos n)) ++ players_from w m k) (next n)
  where
    next : (n : ℕ) → suc n ≡ n + 1
    next n = omega arith

asked_one : (w : World) (n k : ℕ) (before after : List ℤ) → n < k → before ++ players_from w n (k - n) ≡ players_from w 0 k
    → after ≡ before ++ player_in (pos n) (header_at w (pos n)) → after ++ players_from w (n + 1) (k - (n + 1)) ≡ players_from w 0 k
asked_one w n k before after inside so more =
    let left : k - n ≡ suc (k - (n + 1)) = omega (arith, inside) in
    ap (λ os. os ++ players_from w (n + 1) (k - (n + 1))) more
    ∙ append_assoc before (player_in (pos n) (header_at w (pos n))) (players_from w (n + 1) (k - (n + 1)))
    ∙ ap (λ os. before ++ os) (sym (snoc_front w n (k - n) (k - (n + 1)) left)) ∙ so

asked_all : (w : World) (n k : ℕ) (all : List ℤ) → k ≤ n → all ++ players_from w n (k - n) ≡ players_from w 0 k → players_from w 0 k ≡ all
unfolding players_from
asked_all w n k all past so =
    let none : k - n ≡ 0 = omega (arith, past) in sym so ∙ ap (λ m. all ++ players_from w n m) none ∙ append-nil all

as_mapped : (os : List ℤ) → as_objects os ≡ map object os
as_mapped [] = refl
as_mapped (o ∷ os) = ap (λ vs. object o ∷ vs) (as_mapped os)

-- ---- over a view

module _ {V : Type 0} (holds : V → World → Type 0) (now : V → World → World) where
  pub one_more : (a b c : V) (n k : ℕ) (before after : List ℤ) → n < k → Tells holds now a b (λ w. before ++ players_from w n (k - n) ≡ players_from w 0 k)
      → Tells holds now b c (λ w. after ≡ before ++ player_in (pos n) (header_at w (pos n)))
      → Tells holds now a c (λ w. after ++ players_from w (n + 1) (k - (n + 1)) ≡ players_from w 0 k)
  one_more a b c n k before after inside so more w left =
      let m = more w left in
      let t = so w m.0 in
      let put = subst (λ (u : World). after ≡ before ++ player_in (pos n) (header_at u (pos n))) t.1.0 m.1.1 in
      (t.0, (m.1.0 ∙ t.1.0, asked_one (now a w) n k before after inside t.1.1 put))

  pub no_more : (a b : V) (n k : ℕ) (all : List ℤ) → k ≤ n → Tells holds now a b (λ w. all ++ players_from w n (k - n) ≡ players_from w 0 k) → Tells holds now a b (λ w. players_from w 0 k ≡ all)
  no_more a b n k all past so w left = let t = so w left in (t.0, (t.1.0, asked_all (now a w) n k all past t.1.1))

  pub players_told : (a b c : V) (g : ℤ) (k : ℕ) (all : List ℤ) (vs : List Datum) (x : Datum) → AreAgreeing holds now a → Tells holds now a b (λ w. w.greatest ≡ g) → k ≡ numbers_to g
      → Tells holds now b c (λ w. players_from w 0 k ≡ all) → vs ≡ map object all → x ≡ list_value vs → Tells holds now a c (λ w. (who : ℤ) → Says (λ s c. players_row s c []) w who (gives x))
  players_told a b c g k all vs x known greatest count so items value w left =
      let t = so w left in
      let u = greatest w t.0 in
      let h = (known w u.0).objects in
      let listed : players_from (now a w) 0 k ≡ all = subst (λ (v : World). players_from v 0 k ≡ all) u.1.0 t.1.1 in
      let are : players_among (now a w).objects ≡ all =
      sym (are_players (now a w) h.objects_in_order h.numbers) ∙ ap (players_from (now a w) 0) (ap numbers_to u.1.1 ∙ sym count) ∙ listed in
      let shown : as_objects (players_among (now a w).objects) ≡ vs = ap as_objects are ∙ as_mapped all ∙ sym items in (
        u.0,
        (
          t.1.0 ∙ u.1.0,
          λ who s k. ap (λ us. answers_with (in_world s (now a w)) (list_value us)) shown ∙ ap (λ v. answers_with (in_world s (now a w)) v) (sym value),
        ),
      )
