-- The numbers of entries of which one comes, is another one, or goes.
use Rattle.std.proofs.Common.{◌≡◌, ℕ, Bool, true, false, List, [], ◌∷◌, Option, Some, None, MatchOption, unwrap_or, cond, is_eq, nat_lt, IsTrue, refl, sym, ◌∙◌, ap, subst, arith, Ordering, Less, Equal, Greater}
use Rattle.std.proofs.lemmas.Bool.Decides.{nat_tests}
use Rattle.std.proofs.lemmas.Cmp.{then_total, on_total}
use Rattle.std.specs.List.{AllByRecursion}
use Rattle.std.specs.List.Sorted.{IsStrictlySortedBy}
use Rattle.std.specs.Option.{option_and_then}
use Rattle.std.specs.Ordering.{nat_cmp, eq_by_cmp, ordering_then, is_lt, ordering_reverse}
use Rattle.std.specs.Cmp.{IsTotalOrder, nat_cmp_total}
use Rattle.std.specs.FinMap.{find, is_sorted, IsAntisymmetric, nat_cmp-IsAntisymmetric}
use Rattle.std.specs.FinMap.Entries.{below_all}
use Rattle.spec_value.proofs.Entries.{first_holds, second_holds, both_hold}
use Rattle.due_table.specs.Pairs.{pair_cmp, with_pair}
use Rattle.world.specs.Paired.{put_pair, put_if_any, paired}
use Rattle.world.specs.Moved.{with_number, without_number, moved}
use Rattle.world.specs.Picked.{pick, changed}
use Rattle.world.proofs.Picked.{less_is, below_less, changed_first, changed_there, changed_behind, sorted_changed}
use Rattle.world.proofs.Ordered.{IsNone, with_before, with_behind, with_with, without_with, sorted_with as one_more, comes_and_goes}

-- ---- the order of pairs

pub pairs_total : IsTotalOrder (pair_cmp nat_cmp)
pairs_total = then_total (on_total (λ (p : ℕ × ℕ). p.0) nat_cmp_total) (on_total (λ (p : ℕ × ℕ). p.1) nat_cmp_total)

pub pairs_exact : IsAntisymmetric (pair_cmp nat_cmp)
pairs_exact p q e = let both = parts (nat_cmp p.0 q.0) (nat_cmp p.1 q.1) e in λ i. (nat_cmp-IsAntisymmetric p.0 q.0 both.0 i, nat_cmp-IsAntisymmetric p.1 q.1 both.1 i)
  where
    parts : (r s : Ordering) → ordering_then r s ≡ Equal → (r ≡ Equal) × (s ≡ Equal)
    parts Less s h = cc
    parts Equal s h = (refl, h)
    parts Greater s h = cc

abbrev pub AreSorted : List (ℕ × ℕ) → Type 0
AreSorted = IsStrictlySortedBy (pair_cmp nat_cmp)

-- ---- keys above all others

abbrev AreAbove : ℕ → List (ℕ × ℕ) → Type 0
AreAbove k ds = AllByRecursion (λ d. nat_cmp k d.1 ≡ Less) ds

put_above : (i m k : ℕ) (ds : List (ℕ × ℕ)) → nat_cmp i k ≡ Less → AreAbove i ds → AreAbove i (put_pair m k ds)
put_above i m k [] e h = (e, tt)
put_above i m k (d ∷ ds) e h = go (nat_lt d.0 m) (put_above i m k ds e h.1)
  where
    go : (b : Bool) → AreAbove i (put_pair m k ds) → AreAbove i (cond b (d ∷ put_pair m k ds) ((m, k) ∷ d ∷ ds))
    go true rest = (h.0, rest)
    go false rest = (e, h)

put_if_above : (i k : ℕ) (m : Option ℕ) (ds : List (ℕ × ℕ)) → nat_cmp i k ≡ Less → AreAbove i ds → AreAbove i (put_if_any m k ds)
put_if_above i k None ds e h = h
put_if_above i k (Some m) ds e h = put_above i m k ds e h

-- what is put before all keys of its number is put in its place
put_in_place : (m k : ℕ) (ds : List (ℕ × ℕ)) → AreAbove k ds → put_pair m k ds ≡ with_pair (m, k) ds
put_in_place m k [] h = refl
put_in_place m k (d ∷ ds) h = go (nat_lt d.0 m) refl (put_in_place m k ds h.1)
  where
    earlier : (r : Ordering) → nat_cmp m d.0 ≡ r → nat_lt d.0 m ≡ false → pair_cmp nat_cmp (m, k) d ≡ Less
    earlier Less e t = ap (λ s. ordering_then s (nat_cmp k d.1)) e
    earlier Equal e t = ap (λ s. ordering_then s (nat_cmp k d.1)) e ∙ h.0
    earlier Greater e t = absurd (grind (arith, nat_tests))

    go : (b : Bool) → nat_lt d.0 m ≡ b → put_pair m k ds ≡ with_pair (m, k) ds → cond b (d ∷ put_pair m k ds) ((m, k) ∷ d ∷ ds) ≡ with_pair (m, k) (d ∷ ds)
    go true t later =
        let later_one : nat_cmp m d.0 ≡ Greater = grind (arith, nat_tests) in
        ap (λ xs. d ∷ xs) later ∙ sym (with_behind pairs_total pairs_exact (m, k) d ds (ap (λ s. ordering_then s (nat_cmp k d.1)) later_one))
    go false t later = sym (with_before pairs_total pairs_exact (m, k) d ds (earlier (nat_cmp m d.0) refl t))

put_if_in_place : (m : Option ℕ) (k : ℕ) (ds : List (ℕ × ℕ)) → AreAbove k ds → put_if_any m k ds ≡ with_number m k ds
put_if_in_place None k ds h = refl
put_if_in_place (Some m) k ds h = put_in_place m k ds h

above_are_others : (m k : ℕ) (ds : List (ℕ × ℕ)) → AreAbove k ds → IsNone pairs_total pairs_exact (m, k) ds
above_are_others m k [] h = tt
above_are_others m k (d ∷ ds) h = (go (nat_cmp m d.0) ∙ refl, above_are_others m k ds h.1)
  where
    go : (r : Ordering) → is_eq (ordering_then r (nat_cmp k d.1)) ≡ false
    go Less = refl
    go Equal = ap is_eq h.0
    go Greater = refl

-- ---- numbers come and go

pub sorted_with : (m : Option ℕ) (k : ℕ) (ds : List (ℕ × ℕ)) → AreSorted ds → AreSorted (with_number m k ds)
sorted_with None k ds h = h
sorted_with (Some m) k ds h = one_more pairs_total pairs_exact (m, k) ds h

comes_and_goes_again : (m : Option ℕ) (k : ℕ) (ds : List (ℕ × ℕ)) → AreAbove k ds → without_number m k (with_number m k ds) ≡ ds
comes_and_goes_again None k ds h = refl
comes_and_goes_again (Some m) k ds h = comes_and_goes pairs_total pairs_exact (m, k) ds (above_are_others m k ds h)

other_pairs : (m n i k : ℕ) → nat_cmp i k ≡ Less → eq_by_cmp (pair_cmp nat_cmp) (m, i) (n, k) ≡ false
other_pairs m n i k e = go (nat_cmp m n)
  where
    go : (r : Ordering) → is_eq (ordering_then r (nat_cmp i k)) ≡ false
    go Less = refl
    go Equal = ap is_eq e
    go Greater = refl

other_pairs_too : (m n i k : ℕ) → nat_cmp i k ≡ Less → eq_by_cmp (pair_cmp nat_cmp) (n, k) (m, i) ≡ false
other_pairs_too m n i k e = go (nat_cmp n m)
  where
    go : (r : Ordering) → is_eq (ordering_then r (nat_cmp k i)) ≡ false
    go Less = refl
    go Equal = ap is_eq (nat_cmp_total.antisymm k i ∙ ap ordering_reverse e)
    go Greater = refl

both_come : (m n : Option ℕ) (i k : ℕ) (ds : List (ℕ × ℕ)) → nat_cmp i k ≡ Less → with_number m i (with_number n k ds) ≡ with_number n k (with_number m i ds)
both_come None n i k ds e = refl
both_come (Some m) None i k ds e = refl
both_come (Some m) (Some n) i k ds e = with_with pairs_total pairs_exact (m, i) (n, k) ds (other_pairs m n i k e)

one_comes_one_goes : (m n : Option ℕ) (i k : ℕ) (ds : List (ℕ × ℕ)) → nat_cmp i k ≡ Less → AreSorted ds → with_number m i (without_number n k ds) ≡ without_number n k (with_number m i ds)
one_comes_one_goes None n i k ds e h = refl
one_comes_one_goes (Some m) None i k ds e h = refl
one_comes_one_goes (Some m) (Some n) i k ds e h = sym (without_with pairs_total pairs_exact (n, k) (m, i) ds (other_pairs_too m n i k e) h)

moved_beside : (m old new : Option ℕ) (i k : ℕ) (ds : List (ℕ × ℕ)) → nat_cmp i k ≡ Less → AreSorted ds → with_number m i (moved old new k ds) ≡ moved old new k (with_number m i ds)
moved_beside m old new i k ds e h = both_come m new i k (without_number old k ds) e ∙ ap (with_number new k) (one_comes_one_goes m old i k ds e h)

-- ---- those of entries

module _ {X : Type 0} (f : X → Option ℕ) where
  pairs_above : (k : ℕ) (es : List (ℕ × X)) → IsTrue (below_all nat_cmp k es) → AreAbove k (paired f es)
  pairs_above k [] h = tt
  pairs_above k (e ∷ es) h = put_if_above k e.0 (f e.1) (paired f es) (less_is (nat_cmp k e.0) (first_holds _ _ h)) (pairs_above k es (second_holds _ _ h))

  pub sorted_pairs : (es : List (ℕ × X)) → IsTrue (is_sorted nat_cmp es) → AreSorted (paired f es)
  unfolding IsStrictlySortedBy
  sorted_pairs [] h = tt
  sorted_pairs (e ∷ es) h =
      subst AreSorted (sym (put_if_in_place (f e.1) e.0 (paired f es) (pairs_above e.0 es (first_holds _ _ h))))
      (sorted_with (f e.1) e.0 (paired f es) (sorted_pairs es (second_holds _ _ h)))

  -- the number of an entry, if there is one and it has one
  abbrev pub number_of : Option X → Option ℕ
  number_of x = option_and_then f x

  picked_pairs : (k : ℕ) (x : Option X) (es : List (ℕ × X)) → paired f (pick k x es) ≡ put_if_any (number_of x) k (paired f es)
  picked_pairs k None es = refl
  picked_pairs k (Some x) es = refl

  -- the numbers behind a first entry, when what is behind it changes
  changed_above : (k : ℕ) (x : Option X) (e : ℕ × X) (es : List (ℕ × X)) → nat_cmp k e.0 ≡ Greater → IsTrue (is_sorted nat_cmp (e ∷ es)) → AreAbove e.0 (paired f (changed nat_cmp k x es))
  changed_above k x e es is sorted =
      pairs_above e.0 (changed nat_cmp k x es)
      (first_holds (below_all nat_cmp e.0 (changed nat_cmp k x es)) (is_sorted nat_cmp (changed nat_cmp k x es))
      (subst (λ ds. IsTrue (is_sorted nat_cmp ds)) (changed_behind nat_cmp_total nat_cmp-IsAntisymmetric k e.0 x (Some e.1) es is) (sorted_changed nat_cmp_total nat_cmp-IsAntisymmetric k x (e ∷ es) sorted)))

  none_at : (k : ℕ) (es : List (ℕ × X)) → IsTrue (below_all nat_cmp k es) → find nat_cmp k es ≡ None
  none_at k [] h = refl
  none_at k (e ∷ es) h = ap (λ r. cond (is_eq r) (Some e.1) (find nat_cmp k es)) (less_is (nat_cmp k e.0) (first_holds _ _ h)) ∙ none_at k es (second_holds _ _ h)

  all_below : (k j : ℕ) (x : X) (es : List (ℕ × X)) → nat_cmp k j ≡ Less → IsTrue (below_all nat_cmp j es) → IsTrue (below_all nat_cmp k ((j, x) ∷ es))
  all_below k j x es e h = both_hold (is_lt (nat_cmp k j)) (below_all nat_cmp k es) (ap is_lt e) (below_less nat_cmp_total nat_cmp-IsAntisymmetric k j es e h)

  -- another entry for a key: its number moves
  pub number_moves : (k : ℕ) (x : Option X) (es : List (ℕ × X)) → IsTrue (is_sorted nat_cmp es)
      → paired f (changed nat_cmp k x es) ≡ moved (number_of (find nat_cmp k es)) (number_of x) k (paired f es)
  number_moves k x [] h = ap (paired f) (changed_first nat_cmp_total nat_cmp-IsAntisymmetric k x [] refl) ∙ picked_pairs k x [] ∙ put_if_in_place (number_of x) k [] tt
  number_moves k x (e ∷ es) h = go (nat_cmp k e.0) refl (number_moves k x es sorted)
    where
      above : IsTrue (below_all nat_cmp e.0 es)
      above = first_holds (below_all nat_cmp e.0 es) (is_sorted nat_cmp es) h

      sorted : IsTrue (is_sorted nat_cmp es)
      sorted = second_holds (below_all nat_cmp e.0 es) (is_sorted nat_cmp es) h

      own : Option ℕ
      own = f e.1

      go : (r : Ordering) → nat_cmp k e.0 ≡ r → paired f (changed nat_cmp k x es) ≡ moved (number_of (find nat_cmp k es)) (number_of x) k (paired f es)
          → paired f (changed nat_cmp k x (e ∷ es)) ≡ moved (number_of (find nat_cmp k (e ∷ es))) (number_of x) k (paired f (e ∷ es))
      go Less is later =
          let below : IsTrue (below_all nat_cmp k (e ∷ es)) = all_below k e.0 e.1 es is above in
          ap (paired f) (changed_first nat_cmp_total nat_cmp-IsAntisymmetric k x (e ∷ es) below) ∙ picked_pairs k x (e ∷ es) ∙ put_if_in_place (number_of x) k (paired f (e ∷ es)) (pairs_above k (e ∷ es) below)
          ∙ ap (λ y. moved (number_of y) (number_of x) k (paired f (e ∷ es))) (sym (none_at k (e ∷ es) below))
      go Equal is later =
          let same : k ≡ e.0 = nat_cmp-IsAntisymmetric k e.0 is in
          let high : AreAbove e.0 (paired f es) = pairs_above e.0 es above in
          let there : find nat_cmp k (e ∷ es) ≡ Some e.1 = ap (λ r. cond (is_eq r) (Some e.1) (find nat_cmp k es)) is in
          let left : without_number own k (paired f (e ∷ es)) ≡ paired f es =
          ap (without_number own k) (put_if_in_place own e.0 (paired f es) high) ∙ ap (λ i. without_number own i (with_number own e.0 (paired f es))) same ∙ comes_and_goes_again own e.0 (paired f es) high in
          ap (paired f) (changed_there nat_cmp_total nat_cmp-IsAntisymmetric k e.0 x (Some e.1) es is above) ∙ picked_pairs e.0 x es ∙ put_if_in_place (number_of x) e.0 (paired f es) high
          ∙ ap (λ i. with_number (number_of x) i (paired f es)) (sym same) ∙ ap (with_number (number_of x) k) (sym left) ∙ ap (λ y. moved (number_of y) (number_of x) k (paired f (e ∷ es))) (sym there)
      go Greater is later =
          let behind : nat_cmp e.0 k ≡ Less = nat_cmp_total.antisymm e.0 k ∙ ap ordering_reverse is in
          let old : find nat_cmp k (e ∷ es) ≡ find nat_cmp k es = ap (λ r. cond (is_eq r) (Some e.1) (find nat_cmp k es)) is in
          ap (paired f) (changed_behind nat_cmp_total nat_cmp-IsAntisymmetric k e.0 x (Some e.1) es is)
          ∙ put_if_in_place own e.0 (paired f (changed nat_cmp k x es)) (changed_above k x e es is h) ∙ ap (with_number own e.0) later
          ∙ moved_beside own (number_of (find nat_cmp k es)) (number_of x) e.0 k (paired f es) behind (sorted_pairs es sorted)
          ∙ ap (moved (number_of (find nat_cmp k es)) (number_of x) k) (sym (put_if_in_place own e.0 (paired f es) (pairs_above e.0 es above)))
          ∙ ap (λ y. moved (number_of y) (number_of x) k (paired f (e ∷ es))) (sym old)

  -- where the number is the same, none moves
  pub pairs_stay : (k : ℕ) (x : Option X) (es : List (ℕ × X)) → IsTrue (is_sorted nat_cmp es) → number_of (find nat_cmp k es) ≡ number_of x → paired f (changed nat_cmp k x es) ≡ paired f es
  pairs_stay k x [] h stays = ap (paired f) (changed_first nat_cmp_total nat_cmp-IsAntisymmetric k x [] refl) ∙ picked_pairs k x [] ∙ ap (λ m. put_if_any m k []) (sym stays)
  pairs_stay k x (e ∷ es) h stays = go (nat_cmp k e.0) refl (pairs_stay k x es sorted)
    where
      above : IsTrue (below_all nat_cmp e.0 es)
      above = first_holds (below_all nat_cmp e.0 es) (is_sorted nat_cmp es) h

      sorted : IsTrue (is_sorted nat_cmp es)
      sorted = second_holds (below_all nat_cmp e.0 es) (is_sorted nat_cmp es) h

      go : (r : Ordering) → nat_cmp k e.0 ≡ r → (number_of (find nat_cmp k es) ≡ number_of x → paired f (changed nat_cmp k x es) ≡ paired f es)
          → paired f (changed nat_cmp k x (e ∷ es)) ≡ paired f (e ∷ es)
      go Less is later =
          let below : IsTrue (below_all nat_cmp k (e ∷ es)) = all_below k e.0 e.1 es is above in
          ap (paired f) (changed_first nat_cmp_total nat_cmp-IsAntisymmetric k x (e ∷ es) below) ∙ picked_pairs k x (e ∷ es)
          ∙ ap (λ m. put_if_any m k (paired f (e ∷ es))) (sym stays ∙ ap number_of (none_at k (e ∷ es) below))
      go Equal is later =
          let there : find nat_cmp k (e ∷ es) ≡ Some e.1 = ap (λ r. cond (is_eq r) (Some e.1) (find nat_cmp k es)) is in
          ap (paired f) (changed_there nat_cmp_total nat_cmp-IsAntisymmetric k e.0 x (Some e.1) es is above) ∙ picked_pairs e.0 x es
          ∙ ap (λ m. put_if_any m e.0 (paired f es)) (sym stays ∙ ap number_of there)
      go Greater is later =
          let old : find nat_cmp k (e ∷ es) ≡ find nat_cmp k es = ap (λ r. cond (is_eq r) (Some e.1) (find nat_cmp k es)) is in
          ap (paired f) (changed_behind nat_cmp_total nat_cmp-IsAntisymmetric k e.0 x (Some e.1) es is) ∙ ap (put_if_any (f e.1) e.0) (later (ap number_of (sym old) ∙ stays))

  -- the pairs that are known, when the entry of a key is another one
  pub pairs_kept : (es : List (ℕ × X)) (known after : List (ℕ × ℕ)) (k : ℕ) (x : Option X) (old new : Option ℕ) (found : Option (List (ℕ × ℕ))) → IsTrue (is_sorted nat_cmp es)
      → known ≡ paired f es → old ≡ number_of (find nat_cmp k es) → new ≡ number_of x → MatchOption found (old ≡ new) (λ ds. ds ≡ moved old new k known) → after ≡ unwrap_or found known
      → after ≡ paired f (changed nat_cmp k x es)
  pairs_kept es known after k x old new None sorted known_is old_is new_is same after_is =
      after_is ∙ known_is ∙ sym (pairs_stay k x es sorted (sym old_is ∙ same ∙ new_is))
  pairs_kept es known after k x old new (Some ds) sorted known_is old_is new_is is after_is =
      after_is ∙ is ∙ (λ i. moved (old_is i) (new_is i) k (known_is i)) ∙ sym (number_moves k x es sorted)
