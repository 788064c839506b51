-- Links that each fit, no two of one person.
use Rattle.std.proofs.Common.{◌≡◌, ◌⊎◌, inl, inr, ℕ, zero, suc, ◌+◌, ◌≤◌, ℤ, pos, negsuc, true, false, List, [], ◌∷◌, map, Option, Some, None, refl, sym, ap, ◌∙◌, subst, IsTrue, All, leb-true, arith}
use Rattle.std.proofs.lemmas.Bool.{lt-ltb}
use Rattle.std.specs.Prelude.{slice_get, int_le, neg_ℤ, ◌-ℤ◌}
use Rattle.std.specs.Ordering.{int_cmp, int_eq}
use Rattle.std.specs.List.{list_all}
use Rattle.spec_value.proofs.Entries.{first_holds, second_holds, both_hold}
use Rattle.spec_value.proofs.Same.{same_integer}
use Rattle.spec_world.proofs.Trees.{either}
use Rattle.std.specs.List.Sorted.{IsStrictlySortedBy}
use Rattle.spec_value.specs.Table.{Numbered, at, is_numbered}
use Rattle.spec_world.specs.World.{World, Object, Link, object_at}
use Rattle.spec_world.specs.WellFormed.{once, passes, on_object, is_connection, link_fits}
use Rattle.spec_world.specs.Agreeing.{ObjectsAgree, LinksAgree}
use Rattle.world_checks.proofs.Numbered.{numbered_from, numbers_rise, of_each, found_there}
use Rattle.world_checks.proofs.Agreed.{all_may_be_marked}
use Rattle.world_checks.specs.Marks.{may_mark}
use Rattle.world_checks.specs.Persons.{person_of}

-- the entries of a table are found there, so the persons that are found are those of the entries
module _ (all : Numbered Link) where
  found : (es : Numbered Link) → ((n : ℕ) (e : ℤ × Link) → slice_get es n ≡ Some e → at all e.0 ≡ Some e.1)
      → map (λ c. person_of (at all c)) (map (λ e. e.0) es) ≡ map (λ e. (e.1).person) es
  found [] h = refl
  found (e ∷ es) h = λ i. person_of (h 0 e refl i) ∷ found es (λ n d is. h (suc n) d is) i

  pub persons_found : IsTrue (is_numbered all) → map (λ c. person_of (at all c)) (map (λ e. e.0) all) ≡ map (λ e. (e.1).person) all
  persons_found sorted = found all (λ n e is. found_there all n e sorted is)

abbrev pub FitsThere : World → ℤ → Type 0
FitsThere w c = (k : Link) → at w.links c ≡ Some k → IsTrue (link_fits w c k)

pub links_agree : (w : World) (numbers persons list : List ℤ) → numbers ≡ map (λ e. e.0) w.links → IsStrictlySortedBy int_cmp numbers → All (FitsThere w) numbers
    → persons ≡ map (λ c. person_of (at w.links c)) numbers → list ≡ persons → IsTrue (once list) → LinksAgree w
links_agree w numbers persons list are rise all found_persons same single =
    let sorted : IsTrue (is_numbered w.links) = numbered_from w.links (subst (λ (cs : List ℤ). IsStrictlySortedBy int_cmp cs) are rise) in
    let whole : All (FitsThere w) (map (λ e. e.0) w.links) = subst (λ (cs : List ℤ). All (FitsThere w) cs) are all in
    let those : list ≡ map (λ e. (e.1).person) w.links = same ∙ found_persons ∙ ap (map (λ c. person_of (at w.links c))) are ∙ persons_found w.links sorted in
    record {
      links_in_order = sorted;
      links = λ c k e. of_each (FitsThere w) w.links whole c k e k e;
      persons = subst (λ (ps : List ℤ). IsTrue (once ps)) those single;
    }

-- ---- and the other way round

below_three : (c : ℕ) → neg_ℤ (pos 3) -ℤ pos (suc c) ≡ negsuc (suc (2 + c))
below_three c = refl

marked_nobody : (c p : ℤ) → IsTrue (is_connection c) → IsTrue (int_eq p (neg_ℤ (pos 3) -ℤ c)) → IsTrue (may_mark p)
marked_nobody (pos zero) p h e = cc
marked_nobody (pos (suc c)) p h e =
    let most : suc c ≤ 999999 = leb-true (suc c) 999999 (second_holds (int_le (pos 1) (pos (suc c))) _ h) in
    let small : IsTrue (may_mark (negsuc (suc (2 + c)))) = lt-ltb (suc (2 + c)) 1048576 (omega (arith, most)) in
    let is : p ≡ negsuc (suc (2 + c)) = same_integer p (neg_ℤ (pos 3) -ℤ pos (suc c)) e ∙ below_three c in
    subst (λ z. IsTrue (may_mark z)) (sym is) small
marked_nobody (negsuc c) p h e = absurd (cc (first_holds (int_le (pos 1) (negsuc c)) (int_le (negsuc c) (pos 999999)) h))

module _ (w : World) (objects : ObjectsAgree w) where
  marked_player : (p : ℤ) → IsTrue (on_object w p (λ x. x.header.is_player)) → IsTrue (may_mark p)
  marked_player p h = go (object_at w p) refl h
    where
      go : (y : Option Object) → object_at w p ≡ y → IsTrue (passes y (λ x. x.header.is_player)) → IsTrue (may_mark p)
      go None e h = cc
      go (Some x) e h = all_may_be_marked w objects p x e

  marked_person : (c : ℤ) (k : Link) → IsTrue (link_fits w c k) → IsTrue (may_mark k.person)
  marked_person c k h = go (either (int_eq k.person (neg_ℤ (pos 3) -ℤ c)) _ (second_holds (is_connection c) _ h))
    where
      go : IsTrue (int_eq k.person (neg_ℤ (pos 3) -ℤ c)) ⊎ IsTrue (on_object w k.person (λ x. x.header.is_player)) → IsTrue (may_mark k.person)
      go (inl e) = marked_nobody c k.person (first_holds (is_connection c) _ h) e
      go (inr e) = marked_player k.person e

  marked_persons : (es : Numbered Link) → ((n : ℕ) (e : ℤ × Link) → slice_get es n ≡ Some e → IsTrue (link_fits w e.0 e.1)) → IsTrue (list_all may_mark (map (λ e. (e.1).person) es))
  marked_persons [] h = refl
  marked_persons (e ∷ es) h = both_hold (may_mark (e.1).person) _ (marked_person e.0 e.1 (h 0 e refl)) (marked_persons es (λ n d is. h (suc n) d is))

  -- the persons on the links stand once, and can be marked
  pub persons_once : LinksAgree w → (numbers persons list : List ℤ) → numbers ≡ map (λ e. e.0) w.links → persons ≡ map (λ c. person_of (at w.links c)) numbers → list ≡ persons
      → IsTrue (once list) × IsTrue (list_all may_mark list)
  persons_once links numbers persons list are found_persons same =
      let those : list ≡ map (λ e. (e.1).person) w.links =
      same ∙ found_persons ∙ ap (map (λ c. person_of (at w.links c))) are ∙ persons_found w.links links.links_in_order in
      let marked : IsTrue (list_all may_mark (map (λ e. (e.1).person) w.links)) =
      marked_persons w.links (λ n e is. links.links e.0 e.1 (found_there w.links n e links.links_in_order is)) in (
        subst (λ (ps : List ℤ). IsTrue (once ps)) (sym those) links.persons,
        subst (λ (ps : List ℤ). IsTrue (list_all may_mark ps)) (sym those) marked,
      )

pub links_rise : (w : World) (numbers : List ℤ) → LinksAgree w → numbers ≡ map (λ e. e.0) w.links → IsStrictlySortedBy int_cmp numbers
links_rise w numbers links are = subst (λ (cs : List ℤ). IsStrictlySortedBy int_cmp cs) (sym are) (numbers_rise w.links links.links_in_order)

pub fits_connection : (w : World) (c : ℤ) (k : Link) → IsTrue (link_fits w c k) → IsTrue (is_connection c)
fits_connection w c k h = first_holds (is_connection c) _ h

pub fits_player : (w : World) (c : ℤ) (k : Link) → IsTrue (link_fits w c k) → int_eq k.person (neg_ℤ (pos 3) -ℤ c) ≡ false → IsTrue (on_object w k.person (λ x. x.header.is_player))
fits_player w c k h none = go (either (int_eq k.person (neg_ℤ (pos 3) -ℤ c)) _ (second_holds (is_connection c) _ h))
  where
    go : IsTrue (int_eq k.person (neg_ℤ (pos 3) -ℤ c)) ⊎ IsTrue (on_object w k.person (λ x. x.header.is_player)) → IsTrue (on_object w k.person (λ x. x.header.is_player))
    go (inl e) = let clash : false ≡ true = sym none ∙ e in absurd (cc (clash))
    go (inr e) = e
