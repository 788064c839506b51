-- Which names an object keeps, and which it loses, when one above it or itself gets another parent.
use Rattle.std.proofs.Common.{◌≡◌, ◌⊎◌, inl, inr, ℤ, Bool, true, false, not, ◌||◌, List, [], ◌∷◌, ◌++◌, map, filter, refl, sym, ap, ◌∙◌, subst, cond, IsTrue}
use Rattle.std.specs.Ordering.{int_eq}
use Rattle.spec_value.specs.Datum.{Text, fold_case}
use Rattle.spec_value.proofs.Same.{same_integer, integer_itself}
use Rattle.spec_world.specs.World.{World, object_at}
use Rattle.spec_world.specs.Inherit.{ancestors}
use Rattle.spec_world.specs.WellFormed.{defined_on, folded_names, has_name, names_once, lists}
use Rattle.spec_world.specs.Families.{up_to, parent_of, common_ancestors, kept_names}
use Rattle.spec_world.proofs.Trees.{Node, Path, one_path, either, first_of, second_of, path_from}
use Rattle.spec_world.proofs.WorldTrees.{parents, ancestors_of, object_there}
use Rattle.spec_world.proofs.Households.{Household, names_along}
use Rattle.spec_world.proofs.SlotTables.{has_both, once_second, once_apart}
use Rattle.spec_world.proofs.Reparenting.{name_of_member}
use Rattle.builtins_view.specs.Along.{but_for}
use Rattle.builtins_view.specs.Heirs.{names_beside}
use Rattle.builtins_view.proofs.Inherited.{names_are}

-- ---- names along a list of objects, in two parts by a test

in_first : (ts us : List Text) (t : Text) → IsTrue (has_name ts t) → IsTrue (has_name (ts ++ us) t)
in_first ts us t k = has_both ts us t ∙ first_of (has_name ts t) (has_name us t) k

in_second : (ts us : List Text) (t : Text) → IsTrue (has_name us t) → IsTrue (has_name (ts ++ us) t)
in_second ts us t k = has_both ts us t ∙ second_of (has_name ts t) (has_name us t) k

in_either : (ts us : List Text) (t : Text) → IsTrue (has_name (ts ++ us) t) → IsTrue (has_name ts t) ⊎ IsTrue (has_name us t)
in_either ts us t k = either (has_name ts t) (has_name us t) (sym (has_both ts us t) ∙ k)

some_of : (w : World) (f : ℤ → Bool) (ps : List ℤ) (t : Text) → IsTrue (has_name (defined_on w (filter f ps)) t) → IsTrue (has_name (defined_on w ps) t)
unfolding defined_on
some_of w f [] t k = k
some_of w f (p ∷ ps) t k = go (some_of w f ps t) (f p) k
  where
    here : List Text
    here = folded_names (object_at w p)

    go : (IsTrue (has_name (defined_on w (filter f ps)) t) → IsTrue (has_name (defined_on w ps) t)) → (b : Bool)
        → IsTrue (has_name (defined_on w (cond b (p ∷ filter f ps) (filter f ps))) t) → IsTrue (has_name (here ++ defined_on w ps) t)
    go later false j = in_second here (defined_on w ps) t (later j)
    go later true j = by (in_either here (defined_on w (filter f ps)) t j)
      where
        by : IsTrue (has_name here t) ⊎ IsTrue (has_name (defined_on w (filter f ps)) t) → IsTrue (has_name (here ++ defined_on w ps) t)
        by (inl i) = in_first here (defined_on w ps) t i
        by (inr i) = in_second here (defined_on w ps) t (later i)

-- each name is in the one part or in the other
parted : (w : World) (f : ℤ → Bool) (ps : List ℤ) (t : Text) → IsTrue (has_name (defined_on w ps) t)
    → IsTrue (has_name (defined_on w (filter f ps)) t) ⊎ IsTrue (has_name (defined_on w (filter (λ p. not (f p)) ps)) t)
unfolding defined_on
parted w f [] t k = cc
parted w f (p ∷ ps) t k = go (parted w f ps t) (f p) (in_either here (defined_on w ps) t k)
  where
    here : List Text
    here = folded_names (object_at w p)

    go : (IsTrue (has_name (defined_on w ps) t) → IsTrue (has_name (defined_on w (filter f ps)) t) ⊎ IsTrue (has_name (defined_on w (filter (λ q. not (f q)) ps)) t))
        → (b : Bool) → IsTrue (has_name here t) ⊎ IsTrue (has_name (defined_on w ps) t)
        → IsTrue (has_name (defined_on w (cond b (p ∷ filter f ps) (filter f ps))) t)
        ⊎ IsTrue (has_name (defined_on w (cond (not b) (p ∷ filter (λ q. not (f q)) ps) (filter (λ q. not (f q)) ps))) t)
    go later true (inl i) = inl (in_first here (defined_on w (filter f ps)) t i)
    go later false (inl i) = inr (in_first here (defined_on w (filter (λ q. not (f q)) ps)) t i)
    go later true (inr i) = by (later i)
      where
        by : IsTrue (has_name (defined_on w (filter f ps)) t) ⊎ IsTrue (has_name (defined_on w (filter (λ q. not (f q)) ps)) t)
            → IsTrue (has_name (here ++ defined_on w (filter f ps)) t) ⊎ IsTrue (has_name (defined_on w (filter (λ q. not (f q)) ps)) t)
        by (inl j) = inl (in_second here (defined_on w (filter f ps)) t j)
        by (inr j) = inr j
    go later false (inr i) = by (later i)
      where
        by : IsTrue (has_name (defined_on w (filter f ps)) t) ⊎ IsTrue (has_name (defined_on w (filter (λ q. not (f q)) ps)) t)
            → IsTrue (has_name (defined_on w (filter f ps)) t) ⊎ IsTrue (has_name (here ++ defined_on w (filter (λ q. not (f q)) ps)) t)
        by (inl j) = inl j
        by (inr j) = inr (in_second here (defined_on w (filter (λ q. not (f q)) ps)) t j)

-- where no name stands twice, it is not in both
apart_by : (w : World) (f : ℤ → Bool) (ps : List ℤ) (t : Text) → IsTrue (names_once (defined_on w ps)) → IsTrue (has_name (defined_on w (filter f ps)) t)
    → IsTrue (has_name (defined_on w (filter (λ p. not (f p)) ps)) t) → ⊥
unfolding defined_on
apart_by w f [] t once k j = absurd (cc k)
apart_by w f (p ∷ ps) t once k j = go (apart_by w f ps t (once_second here (defined_on w ps) once)) (f p) k j
  where
    here : List Text
    here = folded_names (object_at w p)

    never : IsTrue (has_name here t) → IsTrue (has_name (defined_on w ps) t) → ⊥
    never i l = let far : has_name (defined_on w ps) t ≡ false = once_apart here (defined_on w ps) once t i in let clash : true ≡ false = sym l ∙ far in absurd (cc clash)

    go : (IsTrue (has_name (defined_on w (filter f ps)) t) → IsTrue (has_name (defined_on w (filter (λ q. not (f q)) ps)) t) → ⊥) → (b : Bool)
        → IsTrue (has_name (defined_on w (cond b (p ∷ filter f ps) (filter f ps))) t)
        → IsTrue (has_name (defined_on w (cond (not b) (p ∷ filter (λ q. not (f q)) ps) (filter (λ q. not (f q)) ps))) t) → ⊥
    go later true k j = by (in_either here (defined_on w (filter f ps)) t k)
      where
        by : IsTrue (has_name here t) ⊎ IsTrue (has_name (defined_on w (filter f ps)) t) → ⊥
        by (inl i) = never i (some_of w (λ q. not (f q)) ps t j)
        by (inr i) = later i j
    go later false k j = by (in_either here (defined_on w (filter (λ q. not (f q)) ps)) t j)
      where
        by : IsTrue (has_name here t) ⊎ IsTrue (has_name (defined_on w (filter (λ q. not (f q)) ps)) t) → ⊥
        by (inl i) = never i (some_of w f ps t k)
        by (inr i) = later k i

-- one of those that pass defines it
definer : (w : World) (f : ℤ → Bool) (ps : List ℤ) (t : Text) → IsTrue (has_name (defined_on w (filter f ps)) t)
    → (r : ℤ) × IsTrue (lists ps r) × IsTrue (f r) × IsTrue (has_name (folded_names (object_at w r)) t)
unfolding defined_on
definer w f [] t k = absurd (cc k)
definer w f (p ∷ ps) t k = go (definer w f ps t) (f p) refl k
  where
    go : (IsTrue (has_name (defined_on w (filter f ps)) t) → (r : ℤ) × IsTrue (lists ps r) × IsTrue (f r) × IsTrue (has_name (folded_names (object_at w r)) t))
        → (b : Bool) → f p ≡ b → IsTrue (has_name (defined_on w (cond b (p ∷ filter f ps) (filter f ps))) t)
        → (r : ℤ) × IsTrue (lists (p ∷ ps) r) × IsTrue (f r) × IsTrue (has_name (folded_names (object_at w r)) t)
    go later false e j = further (later j)
      where
        further : (r : ℤ) × IsTrue (lists ps r) × IsTrue (f r) × IsTrue (has_name (folded_names (object_at w r)) t)
            → (r : ℤ) × IsTrue (lists (p ∷ ps) r) × IsTrue (f r) × IsTrue (has_name (folded_names (object_at w r)) t)
        further d = (d.0, second_of (int_eq d.0 p) (lists ps d.0) d.1, d.2, d.3)
    go later true e j = by (in_either (folded_names (object_at w p)) (defined_on w (filter f ps)) t j)
      where
        by : IsTrue (has_name (folded_names (object_at w p)) t) ⊎ IsTrue (has_name (defined_on w (filter f ps)) t)
            → (r : ℤ) × IsTrue (lists (p ∷ ps) r) × IsTrue (f r) × IsTrue (has_name (folded_names (object_at w r)) t)
        by (inl i) = (p, first_of (int_eq p p) (lists ps p) (integer_itself p), e, i)
        by (inr i) = let d = later i in (d.0, second_of (int_eq d.0 p) (lists ps d.0) d.1, d.2, d.3)

passing : (f : ℤ → Bool) (ps : List ℤ) (r : ℤ) → IsTrue (lists ps r) → IsTrue (f r) → IsTrue (lists (filter f ps) r)
passing f [] r l k = l
passing f (p ∷ ps) r l k = go (passing f ps r) (f p) refl (either (int_eq r p) (lists ps r) l)
  where
    go : (IsTrue (lists ps r) → IsTrue (f r) → IsTrue (lists (filter f ps) r)) → (b : Bool) → f p ≡ b → IsTrue (int_eq r p) ⊎ IsTrue (lists ps r)
        → IsTrue (lists (cond b (p ∷ filter f ps) (filter f ps)) r)
    go later true e (inl i) = first_of (int_eq r p) (lists (filter f ps) r) i
    go later false e (inl i) = let clash : true ≡ false = sym k ∙ ap f (same_integer r p i) ∙ e in absurd (cc clash)
    go later true e (inr i) = second_of (int_eq r p) (lists (filter f ps) r) (later i k)
    go later false e (inr i) = later i k

-- ---- a line through an object

module _ (w : World) (h : Household w) (o before : ℤ) (parent_is : parent_of (object_at w o) ≡ before) where
  -- it is the line up to the object, and then the one of its parent
  cut : (q : ℤ) (ps os : List ℤ) → Path (parents w) q ps → IsTrue (lists ps o) → Path (parents w) before os → ps ≡ up_to o ps ++ os
  cut q [] os way l up = absurd (cc l)
  cut q (r ∷ ps) os way l up = go (cut way.1.0.0 ps os way.1.2) (int_eq o r) refl
    where
      go : (IsTrue (lists ps o) → Path (parents w) before os → ps ≡ up_to o ps ++ os) → (b : Bool) → int_eq o r ≡ b → r ∷ ps ≡ cond b (r ∷ []) (r ∷ up_to o ps) ++ os
      go later true e =
          let same : o ≡ q = same_integer o r e ∙ way.0 in
          let x = object_there (λ z. z.header.parent) (λ z. z.children) w q way.1.0 way.1.1 in
          let on : way.1.0.0 ≡ before = ap (λ (n : Node). n.0) x.2 ∙ sym (ap parent_of x.1) ∙ ap (λ z. parent_of (object_at w z)) (sym same) ∙ parent_is in
          ap (λ us. r ∷ us) (one_path (parents w) before ps os (subst (λ z. Path (parents w) z ps) on way.1.2) up)
      go later false e = ap (λ us. r ∷ us) (later (ap (λ b. b || lists ps o) (sym e) ∙ l) up)

  module _ (p : ℤ) (q : ℤ) (ps : List ℤ) (way : Path (parents w) q ps) (l : IsTrue (lists ps o)) (once : IsTrue (names_once (defined_on w ps))) where
    old : (os : List ℤ) × Path (parents w) before os
    old = path_from (parents w) h.family before

    abbrev among : ℤ → Bool
    among = lists (ancestors w p)

    split : defined_on w ps ≡ defined_on w (up_to o ps) ++ defined_on w old.0
    split = ap (defined_on w) (cut q ps old.0 way l old.1) ∙ names_along w (up_to o ps) old.0

    once_split : IsTrue (names_once (defined_on w (up_to o ps) ++ defined_on w old.0))
    once_split = subst (λ ts. IsTrue (names_once ts)) split once

    line_before : ancestors w before ≡ old.0
    line_before = ancestors_of w before old.0 h.numbers old.1

    kept_is : (t : Text) → has_name (kept_names w o p q) t ≡ (has_name (defined_on w (up_to o ps)) t || has_name (defined_on w (filter among old.0)) t)
    kept_is t =
        ap (λ us. has_name (defined_on w (up_to o us) ++ defined_on w (common_ancestors w o p)) t) (ancestors_of w q ps h.numbers way)
        ∙ ap (λ us. has_name (defined_on w (up_to o ps) ++ defined_on w (filter among us)) t) (ap (ancestors w) parent_is ∙ line_before)
        ∙ has_both (defined_on w (up_to o ps)) (defined_on w (filter among old.0)) t

    lost_is : (t : Text) → has_name (map fold_case (names_beside w before p)) t ≡ has_name (defined_on w (filter (λ r. not (among r)) old.0)) t
    lost_is t =
        ap (λ ts. has_name ts t) (names_are w (but_for (ancestors w p) (ancestors w before)))
        ∙ ap (λ us. has_name (defined_on w (filter (λ r. not (among r)) us)) t) line_before

    -- of the names on the line, those that are not lost are kept
    pub kept_or_lost : (t : Text) → IsTrue (has_name (defined_on w ps) t) → has_name (kept_names w o p q) t ≡ not (has_name (map fold_case (names_beside w before p)) t)
    kept_or_lost t k =
        kept_is t ∙ go (has_name (defined_on w (up_to o ps)) t) (has_name (defined_on w (filter among old.0)) t) (has_name (defined_on w (filter (λ r. not (among r)) old.0)) t)
        refl refl refl (in_either (defined_on w (up_to o ps)) (defined_on w old.0) t (subst (λ ts. IsTrue (has_name ts t)) split k))
        ∙ ap not (sym (lost_is t))
      where
        go : (a b c : Bool) → has_name (defined_on w (up_to o ps)) t ≡ a → has_name (defined_on w (filter among old.0)) t ≡ b → has_name (defined_on w (filter (λ r. not (among r)) old.0)) t ≡ c
            → IsTrue (has_name (defined_on w (up_to o ps)) t) ⊎ IsTrue (has_name (defined_on w old.0) t) → (a || b) ≡ not c
        go true b false ea eb ec on = refl
        go true b true ea eb ec on =
            let far : has_name (defined_on w old.0) t ≡ false = once_apart (defined_on w (up_to o ps)) (defined_on w old.0) once_split t ea in
            let clash : true ≡ false = sym (some_of w (λ r. not (among r)) old.0 t ec) ∙ far in absurd (cc clash)
        go false true true ea eb ec on = absurd (apart_by w among old.0 t (once_second (defined_on w (up_to o ps)) (defined_on w old.0) once_split) eb ec)
        go false true false ea eb ec on = refl
        go false false true ea eb ec on = refl
        go false false false ea eb ec (inl i) = let clash : true ≡ false = sym i ∙ ea in absurd (cc clash)
        go false false false ea eb ec (inr i) = by (parted w among old.0 t i)
          where
            by : IsTrue (has_name (defined_on w (filter among old.0)) t) ⊎ IsTrue (has_name (defined_on w (filter (λ r. not (among r)) old.0)) t) → false ≡ true
            by (inl j) = sym eb ∙ j
            by (inr j) = sym ec ∙ j

    -- what stands on the new line, and is not new there, is kept and on the line
    pub old_or_new : (us : List ℤ) → ancestors w p ≡ us → (t : Text) → IsTrue (has_name (defined_on w us) t) → has_name (map fold_case (names_beside w p before)) t ≡ false
        → IsTrue (has_name (kept_names w o p q) t) × IsTrue (has_name (defined_on w ps) t)
    old_or_new us line t k gone = by (parted w (lists old.0) us t k)
      where
        shared : IsTrue (has_name (defined_on w (filter (lists old.0) us)) t) → IsTrue (has_name (defined_on w (filter among old.0)) t)
        shared j =
            let d = definer w (lists old.0) us t j in
            let within : IsTrue (among d.0) = subst (λ rs. IsTrue (lists rs d.0)) (sym line) d.1 in
            name_of_member w (filter among old.0) d.0 t (passing among old.0 d.0 d.2 within) d.3

        by : IsTrue (has_name (defined_on w (filter (lists old.0) us)) t) ⊎ IsTrue (has_name (defined_on w (filter (λ r. not (lists old.0 r)) us)) t)
            → IsTrue (has_name (kept_names w o p q) t) × IsTrue (has_name (defined_on w ps) t)
        by (inl j) =
            let m = shared j in (
              kept_is t ∙ second_of (has_name (defined_on w (up_to o ps)) t) (has_name (defined_on w (filter among old.0)) t) m,
              subst (λ ts. IsTrue (has_name ts t)) (sym split) (in_second (defined_on w (up_to o ps)) (defined_on w old.0) t (some_of w among old.0 t m)),
            )
        by (inr j) =
            let new : has_name (map fold_case (names_beside w p before)) t ≡ has_name (defined_on w (filter (λ r. not (lists old.0 r)) us)) t =
            ap (λ ts. has_name ts t) (names_are w (but_for (ancestors w before) (ancestors w p)))
            ∙ (λ i. has_name (defined_on w (filter (λ r. not (lists (line_before i) r)) (line i))) t)
            in
            let clash : true ≡ false = sym j ∙ sym new ∙ gone in absurd (cc clash)
