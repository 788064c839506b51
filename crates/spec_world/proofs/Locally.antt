-- What objects agree on along their lines, from what each agrees on with its parent.
use Rattle.std.proofs.Common.{◌≡◌, ◌⊎◌, ◌↔◌, inl, inr, ℕ, zero, suc, ◌+◌, ◌<◌, ◌≤◌, ℤ, Bool, true, false, not, ◌&&◌, ◌||◌, List, [], ◌∷◌, ◌++◌, length, map, Option, Some, None, refl, sym, ap, ◌∙◌, subst, IsTrue, is_none, arith}
use Rattle.std.specs.Prelude.{option_map}
use Rattle.std.specs.List.{list_all}
use Rattle.spec_value.specs.Datum.{Text, fold_case}
use Rattle.spec_world.specs.World.{World, Object, object_at}
use Rattle.spec_world.specs.Inherit.{line_bound, ancestors}
use Rattle.spec_world.specs.WellFormed.{OfEachObject, comes_out, number_fits, has_no_cycle, line_names_once, slots_agree, has_name, names_once, slot_names, folded_names, defined_on}
use Rattle.spec_world.specs.Locally.{Falls, ends_along, RanksTell, own_names, names_of, inherited_names, slots_follow, ParentsTell}
use Rattle.spec_value.proofs.Entries.{first_holds, second_holds, both_hold}
use Rattle.spec_world.proofs.Trees.{Nodes, Path, one_path, some_same}
use Rattle.spec_world.proofs.WorldTrees.{node, nodes, object_there, node_there, object_none, path_of, path_ends, short, parents, ancestors_of}
use Rattle.spec_world.proofs.Households.{all_named, of_named, same_tests}
use Rattle.spec_world.proofs.SlotTables.{has_both, Apart, once_both, once_first, once_second, once_apart}

-- ---- ranks

-- any children will do: only the way up counts
abbrev childless : Object → List ℤ
childless x = []

module _ (w : World) (up : Object → ℤ) where
  abbrev ways : Nodes
  ways = nodes up childless w

  -- a lower rank at each object on the way: the way ends
  way_of : (rank : ℤ → ℕ) → Falls w up rank → (n : ℕ) (q : ℤ) → rank q < n → (ps : List ℤ) × Path ways q ps
  way_of rank falls zero q lt = absurd (omega arith)
  way_of rank falls (suc n) q lt = go (way_of rank falls n) (object_at w q) refl
    where
      go : ((p : ℤ) → rank p < n → (ps : List ℤ) × Path ways p ps) → (y : Option Object) → object_at w q ≡ y → (ps : List ℤ) × Path ways q ps
      go above None e = ([], ap (option_map (node up childless w)) e)
      go above (Some x) e = on (falls q x e)
        where
          none_there : (y : Option Object) → IsTrue (is_none y) → y ≡ None
          none_there None h = refl
          none_there (Some z) h = cc

          on : IsTrue (is_none (object_at w (up x))) ⊎ (rank (up x) < rank q) → (ps : List ℤ) × Path ways q ps
          on (inl h) =
              (q ∷ [], (refl, (node up childless w x, node_there up childless w q x e, ap (option_map (node up childless w)) (none_there (object_at w (up x)) h))))
          on (inr lower) = let r = above (up x) (omega arith) in (q ∷ r.0, (refl, (node up childless w x, node_there up childless w q x e, r.1)))

  ends_by_rank : OfEachObject w number_fits → (rank : ℤ → ℕ) → Falls w up rank → OfEachObject w (ends_along up)
  ends_by_rank numbers rank falls o x e =
      let r = way_of rank falls (suc (rank o)) o (omega arith) in
      path_ends up childless w (line_bound w) o r.0 r.1 (short up childless w numbers o r.0 r.1)

  -- how many objects there are on a way
  way_from : OfEachObject w (ends_along up) → (o : ℤ) → (ps : List ℤ) × Path ways o ps
  way_from ends o = go (object_at w o) refl
    where
      go : (y : Option Object) → object_at w o ≡ y → (ps : List ℤ) × Path ways o ps
      go None e = ([], ap (option_map (node up childless w)) e)
      go (Some x) e = path_of up childless w (line_bound w) o (ends o x e)

  ranked : OfEachObject w (ends_along up) → (rank : ℤ → ℕ) × Falls w up rank
  ranked ends = (λ o. length (way_from ends o).0, falls)
    where
      falls : Falls w up (λ o. length (way_from ends o).0)
      falls o x e = go (way_from ends o).0 (way_from ends o).1 refl
        where
          go : (ps : List ℤ) → Path ways o ps → (way_from ends o).0 ≡ ps
              → IsTrue (is_none (object_at w (up x))) ⊎ (length (way_from ends (up x)).0 < length (way_from ends o).0)
          go [] h is = let clash : None ≡ Some (node up childless w x) = sym h ∙ node_there up childless w o x e in absurd (cc (clash))
          go (p ∷ ps) h is =
              let same : h.1.0 ≡ node up childless w x = some_same (sym h.1.1 ∙ node_there up childless w o x e) in
              let rest : Path ways (up x) ps = subst (λ (z : ℤ × List ℤ). Path ways z.0 ps) same h.1.2 in
              let one : (way_from ends (up x)).0 ≡ ps = one_path ways (up x) (way_from ends (up x)).0 ps (way_from ends (up x)).1 rest in
              let here : length (way_from ends o).0 ≡ suc (length ps) = ap length is in
              let there : length (way_from ends (up x)).0 ≡ length ps = ap length one in
              inr (omega (arith, here, there))

pub ranks_tell : RanksTell
ranks_tell w up numbers = (λ ends. ranked w up ends, λ r. ends_by_rank w up numbers r.0 r.1)

-- ---- names

abbrev SameNames : List Text → List Text → Type 0
SameNames ts us = (t : Text) → has_name ts t ≡ has_name us t

more_names : (ts us vs : List Text) → SameNames us vs → SameNames (ts ++ us) (ts ++ vs)
more_names ts us vs same t = has_both ts us t ∙ ap (λ b. has_name ts t || b) (same t) ∙ sym (has_both ts vs t)

all_known : (ts us : List Text) → ((t : Text) → IsTrue (has_name ts t) → IsTrue (has_name us t)) → IsTrue (list_all (has_name us) ts)
all_known ts us = all_named (has_name us) ts

names_same : (ts us : List Text) → IsTrue (list_all (has_name us) ts) → IsTrue (list_all (has_name ts) us) → SameNames ts us
names_same ts us h k t = same_tests (has_name ts t) (has_name us t) (of_named (has_name us) ts h t) (of_named (has_name ts) us k t)

none_told : (b : Bool) → IsTrue (not b) → b ≡ false
none_told true h = cc
none_told false h = refl

told_none : (b : Bool) → b ≡ false → IsTrue (not b)
told_none b e = ap not e

apart_by : (ts us : List Text) → IsTrue (list_all (λ t. not (has_name us t)) ts) → Apart ts us
apart_by ts us h t k = none_told (has_name us t) (of_named (λ s. not (has_name us s)) ts h t k)

by_apart : (ts us : List Text) → Apart ts us → IsTrue (list_all (λ t. not (has_name us t)) ts)
by_apart ts us apart = all_named (λ s. not (has_name us s)) ts (λ t k. told_none (has_name us t) (apart t k))

module _ (w : World) (numbers : OfEachObject w number_fits) (ends : OfEachObject w has_no_cycle) where
  path_up : (o : ℤ) → (ps : List ℤ) × Path (parents w) o ps
  path_up o = go (object_at w o) refl
    where
      go : (y : Option Object) → object_at w o ≡ y → (ps : List ℤ) × Path (parents w) o ps
      go None e = ([], ap (option_map (node (λ z. z.header.parent) (λ z. z.children) w)) e)
      go (Some x) e = path_of (λ z. z.header.parent) (λ z. z.children) w (line_bound w) o (ends o x e)

  line_up : (o : ℤ) (ps : List ℤ) → Path (parents w) o ps → ancestors w o ≡ ps
  line_up o ps = ancestors_of w o ps numbers

  -- from an object the way goes on at its parent
  behind : (o p : ℤ) (x : Object) (ps : List ℤ) → object_at w o ≡ Some x → Path (parents w) o (p ∷ ps) → Path (parents w) x.header.parent ps
  behind o p x ps e h =
      let same : h.1.0 ≡ (x.header.parent, x.children) = some_same (sym h.1.1 ∙ node_there (λ z. z.header.parent) (λ z. z.children) w o x e) in
      subst (λ (z : ℤ × List ℤ). Path (parents w) z.0 ps) same h.1.2

  no_way : (o : ℤ) (x : Object) → object_at w o ≡ Some x → Path (parents w) o [] → ⊥
  no_way o x e h = let clash : None ≡ Some (x.header.parent, x.children) = sym h ∙ node_there (λ z. z.header.parent) (λ z. z.children) w o x e in cc (clash)

  names_here : (o p : ℤ) (x : Object) (ps : List ℤ) → object_at w o ≡ Some x → Path (parents w) o (p ∷ ps) → defined_on w (p ∷ ps) ≡ own_names x ++ defined_on w ps
  unfolding defined_on
  names_here o p x ps e h = ap (λ z. folded_names z ++ defined_on w ps) (ap (object_at w) h.0 ∙ e)

  nobody_here : (q p : ℤ) (ps : List ℤ) → object_at w q ≡ None → Path (parents w) q (p ∷ ps) → ⊥
  nobody_here q p ps e h = let x = object_there (λ z. z.header.parent) (λ z. z.children) w q h.1.0 h.1.1 in let clash : None ≡ Some x.0 = sym e ∙ x.1 in cc (clash)

  -- ---- from the lines

  module _ (once : OfEachObject w line_names_once) (slots : OfEachObject w slots_agree) where
    line_slots : (o : ℤ) (x : Object) (ps : List ℤ) → object_at w o ≡ Some x → Path (parents w) o ps → SameNames (slot_names x) (defined_on w ps)
    line_slots o x ps e way =
        let both = subst (λ qs. IsTrue (list_all (has_name (defined_on w qs)) (slot_names x) && list_all (has_name (slot_names x)) (defined_on w qs))) (line_up o ps way) (slots o x e) in
        names_same (slot_names x) (defined_on w ps) (first_holds (list_all (has_name (defined_on w ps)) (slot_names x)) _ both)
        (second_holds (list_all (has_name (defined_on w ps)) (slot_names x)) _ both)

    inherited_line : (q : ℤ) (ps : List ℤ) → Path (parents w) q ps → SameNames (names_of (object_at w q)) (defined_on w ps)
    unfolding defined_on
    inherited_line q ps way = go (object_at w q) refl ps way
      where
        go : (y : Option Object) → object_at w q ≡ y → (ps : List ℤ) → Path (parents w) q ps → SameNames (names_of y) (defined_on w ps)
        go None e [] way = λ t. refl
        go None e (p ∷ ps) way = absurd (nobody_here q p ps e way)
        go (Some x) e ps way = line_slots q x ps e way

    follow_at : (o : ℤ) (x : Object) (ps : List ℤ) → object_at w o ≡ Some x → Path (parents w) o ps → IsTrue (slots_follow w o x)
    follow_at o x [] e way = absurd (no_way o x e way)
    follow_at o x (p ∷ ps) e way =
        let up : Path (parents w) x.header.parent ps = behind o p x ps e way in
        let above : SameNames (inherited_names w x) (defined_on w ps) = inherited_line x.header.parent ps up in
        let whole : defined_on w (p ∷ ps) ≡ own_names x ++ defined_on w ps = names_here o p x ps e way in
        let all_once : IsTrue (names_once (own_names x ++ defined_on w ps)) = subst (λ ts. IsTrue (names_once ts)) (ap (defined_on w) (line_up o (p ∷ ps) way) ∙ whole) (once o x e) in
        let mine : SameNames (slot_names x) (own_names x ++ inherited_names w x) =
        λ t. line_slots o x (p ∷ ps) e way t ∙ ap (λ ts. has_name ts t) whole ∙ sym (more_names (own_names x) (inherited_names w x) (defined_on w ps) above t) in
        both_hold _ _
        (both_hold _ _ (once_first (own_names x) (defined_on w ps) all_once)
        (by_apart (own_names x) (inherited_names w x) (λ t k. above t ∙ once_apart (own_names x) (defined_on w ps) all_once t k)))
        (both_hold _ _ (all_known (slot_names x) (own_names x ++ inherited_names w x) (λ t k. sym (mine t) ∙ k))
        (all_known (own_names x ++ inherited_names w x) (slot_names x) (λ t k. mine t ∙ k)))

    follow : OfEachObject w slots_follow
    follow o x e = let r = path_up o in follow_at o x r.0 e r.1

  -- ---- from the parents

  module _ (follow : OfEachObject w slots_follow) where
    abbrev LineHolds : ℤ → List ℤ → Type 0
    LineHolds q ps = SameNames (names_of (object_at w q)) (defined_on w ps) × IsTrue (names_once (defined_on w ps))

    holds_at : (o p : ℤ) (x : Object) (ps : List ℤ) → object_at w o ≡ Some x → Path (parents w) o (p ∷ ps) → LineHolds x.header.parent ps
        → SameNames (slot_names x) (defined_on w (p ∷ ps)) × IsTrue (names_once (defined_on w (p ∷ ps)))
    holds_at o p x ps e way above =
        let whole : defined_on w (p ∷ ps) ≡ own_names x ++ defined_on w ps = names_here o p x ps e way in
        let test = follow o x e in
        let first = first_holds (names_once (own_names x) && list_all (λ t. not (has_name (inherited_names w x) t)) (own_names x)) _ test in
        let second = second_holds (names_once (own_names x) && list_all (λ t. not (has_name (inherited_names w x) t)) (own_names x)) _ test in
        let apart : Apart (own_names x) (inherited_names w x) = apart_by (own_names x) (inherited_names w x) (second_holds (names_once (own_names x)) _ first) in
        let mine : SameNames (slot_names x) (own_names x ++ inherited_names w x) =
        names_same (slot_names x) (own_names x ++ inherited_names w x) (first_holds (list_all (has_name (own_names x ++ inherited_names w x)) (slot_names x)) _ second)
        (second_holds (list_all (has_name (own_names x ++ inherited_names w x)) (slot_names x)) _ second) in (
          λ t. mine t ∙ more_names (own_names x) (inherited_names w x) (defined_on w ps) above.0 t ∙ ap (λ ts. has_name ts t) (sym whole),
          subst (λ ts. IsTrue (names_once ts)) (sym whole)
              (once_both (own_names x) (defined_on w ps) (first_holds (names_once (own_names x)) _ first) above.1 (λ t k. sym (above.0 t) ∙ apart t k)),
        )

    line_holds : (q : ℤ) (ps : List ℤ) → Path (parents w) q ps → LineHolds q ps
    unfolding defined_on names_once
    line_holds q [] way = go (object_at w q) refl
      where
        go : (y : Option Object) → object_at w q ≡ y → SameNames (names_of y) [] × IsTrue (names_once [])
        go None e = (λ t. refl, refl)
        go (Some x) e = absurd (no_way q x e way)
    line_holds q (p ∷ ps) way = go (λ r. line_holds r ps) (object_at w q) refl
      where
        go : ((r : ℤ) → Path (parents w) r ps → LineHolds r ps) → (y : Option Object) → object_at w q ≡ y
            → SameNames (names_of y) (defined_on w (p ∷ ps)) × IsTrue (names_once (defined_on w (p ∷ ps)))
        go above None e = absurd (nobody_here q p ps e way)
        go above (Some x) e = holds_at q p x ps e way (above x.header.parent (behind q p x ps e way))

    each_once : OfEachObject w line_names_once
    each_once o x e = let r = path_up o in subst (λ qs. IsTrue (names_once (defined_on w qs))) (sym (line_up o r.0 r.1)) (line_holds o r.0 r.1).1

    each_agrees : OfEachObject w slots_agree
    each_agrees o x e =
        let r = path_up o in
        let same : SameNames (slot_names x) (defined_on w r.0) = λ t. ap (λ y. has_name (names_of y) t) (sym e) ∙ (line_holds o r.0 r.1).0 t in
        subst (λ qs. IsTrue (list_all (has_name (defined_on w qs)) (slot_names x) && list_all (has_name (slot_names x)) (defined_on w qs))) (sym (line_up o r.0 r.1))
        (both_hold _ _ (all_known (slot_names x) (defined_on w r.0) (λ t k. sym (same t) ∙ k)) (all_known (defined_on w r.0) (slot_names x) (λ t k. same t ∙ k)))

pub parents_tell : ParentsTell
parents_tell w numbers ends = (λ h. follow w numbers ends h.0 h.1, λ h. (each_once w numbers ends h, each_agrees w numbers ends h))
