-- The keys of a number are found by a walk of the pairs.
use Rattle.std.proofs.Common.{◌≡◌, ◌≢◌, ◌<◌, ℕ, ℤ, pos, Bool, true, false, List, [], ◌∷◌, map, filter, Some, None, cond, is_eq, nat_lt, nat_le, IsTrue, refl, sym, ◌∙◌, ap, subst, arith, Ordering, Less, Equal, Greater}
use Rattle.std.proofs.lemmas.Bool.Decides.{nat_tests}
use Rattle.std.specs.List.{AllByRecursion}
use Rattle.std.specs.List.Sorted.{IsStrictlySortedBy}
use Rattle.std.specs.Ordering.{nat_cmp, int_cmp, int_eq, eq_by_cmp, ordering_then, ordering_reverse, is_lt, is_le}
use Rattle.std.specs.Cmp.{tied_itself, nat_cmp_total, int_cmp_total}
use Rattle.std.specs.FinMap.{is_sorted, nat_cmp-IsAntisymmetric}
use Rattle.std.specs.FinMap.Entries.{below_all}
use Rattle.spec_value.proofs.Entries.{both_hold}
use Rattle.spec_value.specs.Table.{Numbered}
use Rattle.spec_world.specs.World.{Link}
use Rattle.due_table.specs.Pairs.{pair_cmp, first_pair_from}
use Rattle.world_table.specs.Entries.{first_from}
use Rattle.world.specs.LinkTable.{IsKeyed, AreKeyed, by_person, AreLinks}
use Rattle.world.specs.Numbered.{numbered, unsigned_key}
use Rattle.world.specs.Paired.{put_pair, keys_of}
use Rattle.world.proofs.Maps.{signed_cmp}
use Rattle.world.proofs.PairsKept.{AreSorted}

-- ---- one pair before others

abbrev is_of : ℕ → ℕ × ℕ → Bool
is_of m d = eq_by_cmp nat_cmp m d.0

abbrev those : ℕ → List (ℕ × ℕ) → List (ℕ × ℕ)
those m ds = filter (is_of m) ds

abbrev named : ℕ → List (ℕ × ℕ) → List (ℕ × ℕ)
named m ds = map (λ d. (d.1, m)) ds

of_it : (m : ℕ) (d : ℕ × ℕ) (ds : List (ℕ × ℕ)) → nat_cmp m d.0 ≡ Equal → keys_of m (d ∷ ds) ≡ (d.1, m) ∷ keys_of m ds
of_it m d ds e = ap (λ r. named m (cond (is_eq r) (d ∷ those m ds) (those m ds))) e

of_another : (m : ℕ) (d : ℕ × ℕ) (ds : List (ℕ × ℕ)) → is_eq (nat_cmp m d.0) ≡ false → keys_of m (d ∷ ds) ≡ keys_of m ds
of_another m d ds e = ap (λ b. named m (cond b (d ∷ those m ds) (those m ds))) e

-- ---- a walk

pub of_sorted : (m : ℕ) (ds : List (ℕ × ℕ)) → AreSorted ds → IsTrue (is_sorted nat_cmp (keys_of m ds))
unfolding IsStrictlySortedBy
of_sorted m [] h = refl
of_sorted m (d ∷ ds) h = go (nat_cmp m d.0) refl (of_sorted m ds h.1)
  where
    below : nat_cmp m d.0 ≡ Equal → (xs : List (ℕ × ℕ)) → AllByRecursion (λ x. pair_cmp nat_cmp d x ≡ Less) xs → IsTrue (below_all nat_cmp d.1 (keys_of m xs))
    below own [] all = refl
    below own (x ∷ xs) all = here (nat_cmp m x.0) refl (below own xs all.1)
      where
        less : nat_cmp m x.0 ≡ Equal → nat_cmp d.1 x.1 ≡ Less
        less e =
            let same : nat_cmp d.0 x.0 ≡ Equal = ap (λ i. nat_cmp i x.0) (sym (nat_cmp-IsAntisymmetric m d.0 own)) ∙ e in
            ap (λ r. ordering_then r (nat_cmp d.1 x.1)) (sym same) ∙ all.0

        here : (r : Ordering) → nat_cmp m x.0 ≡ r → IsTrue (below_all nat_cmp d.1 (keys_of m xs)) → IsTrue (below_all nat_cmp d.1 (named m (cond (is_eq r) (x ∷ those m xs) (those m xs))))
        here Less e rest = rest
        here Equal e rest = both_hold (is_lt (nat_cmp d.1 x.1)) (below_all nat_cmp d.1 (keys_of m xs)) (ap is_lt (less e)) rest
        here Greater e rest = rest

    go : (r : Ordering) → nat_cmp m d.0 ≡ r → IsTrue (is_sorted nat_cmp (keys_of m ds)) → IsTrue (is_sorted nat_cmp (named m (cond (is_eq r) (d ∷ those m ds) (those m ds))))
    go Less e rest = rest
    go Equal e rest = both_hold (below_all nat_cmp d.1 (keys_of m ds)) (is_sorted nat_cmp (keys_of m ds)) (below e ds h.0) rest
    go Greater e rest = rest

-- behind a pair of a later number there are none
none_later : (m : ℕ) (d : ℕ × ℕ) (ds : List (ℕ × ℕ)) → nat_cmp m d.0 ≡ Less → AllByRecursion (λ x. pair_cmp nat_cmp d x ≡ Less) ds → keys_of m ds ≡ []
none_later m d [] e h = refl
none_later m d (x ∷ xs) e h = of_another m x xs (go (nat_cmp d.0 x.0) refl h.0) ∙ none_later m d xs e h.1
  where
    go : (r : Ordering) → nat_cmp d.0 x.0 ≡ r → ordering_then r (nat_cmp d.1 x.1) ≡ Less → is_eq (nat_cmp m x.0) ≡ false
    go Less t less = ap is_eq (nat_cmp_total.trans m d.0 x.0 e t)
    go Equal t less = ap (λ i. is_eq (nat_cmp m i)) (sym (nat_cmp-IsAntisymmetric d.0 x.0 t)) ∙ ap is_eq e
    go Greater t less = cc

le_is : (k j : ℕ) → is_le (nat_cmp k j) ≡ nat_le k j
le_is k j = grind (arith, nat_tests)

some_same : (d e : ℕ × ℕ) → Some d ≡ Some e → d ≡ e
some_same d e is = cc

-- a first pair of this number has its first key
pub own_first : (m k : ℕ) (f : ℕ × ℕ) (ds : List (ℕ × ℕ)) → f.0 ≡ m → Some f ≡ first_pair_from (m, k) ds → Some (f.1, m) ≡ first_from k (keys_of m ds)
own_first m k f [] own is = cc
own_first m k f (d ∷ ds) own is = go (nat_cmp m d.0) refl (own_first m k f ds own) is
  where
    here : (b : Bool) → is_le (nat_cmp k d.1) ≡ b → (Some f ≡ first_pair_from (m, k) ds → Some (f.1, m) ≡ first_from k (keys_of m ds)) → Some f ≡ cond b (Some d) (first_pair_from (m, k) ds)
        → Some (f.1, m) ≡ cond (nat_le k d.1) (Some (d.1, m)) (first_from k (keys_of m ds))
    here true t later found =
        ap (λ x. Some (x.1, m)) (some_same f d found) ∙ ap (λ b. cond b (Some (d.1, m)) (first_from k (keys_of m ds))) (sym t ∙ le_is k d.1)
    here false t later found = later found ∙ ap (λ b. cond b (Some (d.1, m)) (first_from k (keys_of m ds))) (sym t ∙ le_is k d.1)

    go : (r : Ordering) → nat_cmp m d.0 ≡ r → (Some f ≡ first_pair_from (m, k) ds → Some (f.1, m) ≡ first_from k (keys_of m ds))
        → Some f ≡ cond (is_le (ordering_then r (nat_cmp k d.1))) (Some d) (first_pair_from (m, k) ds) → Some (f.1, m) ≡ first_from k (named m (cond (is_eq r) (d ∷ those m ds) (those m ds)))
    go Less e later found =
        let tied : nat_cmp m d.0 ≡ Equal = ap (λ x. nat_cmp m x.0) (sym (some_same f d found)) ∙ ap (nat_cmp m) own ∙ tied_itself nat_cmp_total m in
        let no : Less ≡ Equal = sym e ∙ tied in cc
    go Equal e later found = here (is_le (nat_cmp k d.1)) refl later found
    go Greater e later found = later found

-- a first pair of another number is behind all of this one
pub another_first : (m k : ℕ) (f : ℕ × ℕ) (ds : List (ℕ × ℕ)) → AreSorted ds → f.0 ≢ m → Some f ≡ first_pair_from (m, k) ds → None ≡ first_from k (keys_of m ds)
unfolding IsStrictlySortedBy
another_first m k f [] h other is = cc
another_first m k f (d ∷ ds) h other is = go (nat_cmp m d.0) refl (another_first m k f ds h.1 other) is
  where
    here : nat_cmp m d.0 ≡ Equal → (b : Bool) → is_le (nat_cmp k d.1) ≡ b → (Some f ≡ first_pair_from (m, k) ds → None ≡ first_from k (keys_of m ds)) → Some f ≡ cond b (Some d) (first_pair_from (m, k) ds)
        → None ≡ cond (nat_le k d.1) (Some (d.1, m)) (first_from k (keys_of m ds))
    here e true t later found = absurd (other (ap (λ x. x.0) (some_same f d found) ∙ sym (nat_cmp-IsAntisymmetric m d.0 e)))
    here e false t later found = later found ∙ ap (λ b. cond b (Some (d.1, m)) (first_from k (keys_of m ds))) (sym t ∙ le_is k d.1)

    go : (r : Ordering) → nat_cmp m d.0 ≡ r → (Some f ≡ first_pair_from (m, k) ds → None ≡ first_from k (keys_of m ds))
        → Some f ≡ cond (is_le (ordering_then r (nat_cmp k d.1))) (Some d) (first_pair_from (m, k) ds) → None ≡ first_from k (named m (cond (is_eq r) (d ∷ those m ds) (those m ds)))
    go Less e later found = ap (first_from k) (sym (none_later m d ds e h.0))
    go Equal e later found = here e (is_le (nat_cmp k d.1)) refl later found
    go Greater e later found = later found

pub none_first : (m k : ℕ) (ds : List (ℕ × ℕ)) → None ≡ first_pair_from (m, k) ds → None ≡ first_from k (keys_of m ds)
none_first m k [] is = refl
none_first m k (d ∷ ds) is = go (nat_cmp m d.0) refl (none_first m k ds) is
  where
    here : (b : Bool) → is_le (nat_cmp k d.1) ≡ b → (None ≡ first_pair_from (m, k) ds → None ≡ first_from k (keys_of m ds)) → None ≡ cond b (Some d) (first_pair_from (m, k) ds)
        → None ≡ cond (nat_le k d.1) (Some (d.1, m)) (first_from k (keys_of m ds))
    here true t later found = cc
    here false t later found = later found ∙ ap (λ b. cond b (Some (d.1, m)) (first_from k (keys_of m ds))) (sym t ∙ le_is k d.1)

    go : (r : Ordering) → nat_cmp m d.0 ≡ r → (None ≡ first_pair_from (m, k) ds → None ≡ first_from k (keys_of m ds))
        → None ≡ cond (is_le (ordering_then r (nat_cmp k d.1))) (Some d) (first_pair_from (m, k) ds) → None ≡ first_from k (named m (cond (is_eq r) (d ∷ those m ds) (those m ds)))
    go Less e later found = cc
    go Equal e later found = here (is_le (nat_cmp k d.1)) refl later found
    go Greater e later found = later found

-- ---- the pairs of entries

put_of : (m n k : ℕ) (ds : List (ℕ × ℕ)) → keys_of m (put_pair n k ds) ≡ keys_of m ((n, k) ∷ ds)
put_of m n k [] = refl
put_of m n k (d ∷ ds) = go (nat_lt d.0 n) refl (put_of m n k ds)
  where
    both : (r s : Ordering) → nat_cmp m d.0 ≡ r → nat_cmp m n ≡ s → nat_lt d.0 n ≡ true → keys_of m (put_pair n k ds) ≡ named m (cond (is_eq s) ((n, k) ∷ those m ds) (those m ds))
        → named m (cond (is_eq r) (d ∷ those m (put_pair n k ds)) (those m (put_pair n k ds)))
        ≡ named m (cond (is_eq s) ((n, k) ∷ cond (is_eq r) (d ∷ those m ds) (those m ds)) (cond (is_eq r) (d ∷ those m ds) (those m ds)))
    both Less s e t lt later = later
    both Greater s e t lt later = later
    both Equal Less e t lt later = ap (λ xs. (d.1, m) ∷ xs) later
    both Equal Greater e t lt later = ap (λ xs. (d.1, m) ∷ xs) later
    both Equal Equal e t lt later =
        let first : m ≡ d.0 = nat_cmp-IsAntisymmetric m d.0 e in
        let second : m ≡ n = nat_cmp-IsAntisymmetric m n t in
        let no : nat_lt d.0 n ≡ false = grind (arith, nat_tests) in
        let never : true ≡ false = sym lt ∙ no in cc

    go : (b : Bool) → nat_lt d.0 n ≡ b → keys_of m (put_pair n k ds) ≡ keys_of m ((n, k) ∷ ds) → keys_of m (cond b (d ∷ put_pair n k ds) ((n, k) ∷ d ∷ ds)) ≡ keys_of m ((n, k) ∷ d ∷ ds)
    go true lt later = both (nat_cmp m d.0) (nat_cmp m n) refl refl lt later
    go false lt later = refl

-- ---- links

same_person : (i j : ℤ) → IsKeyed i → IsKeyed j → eq_by_cmp nat_cmp (unsigned_key j) (unsigned_key i) ≡ int_eq i j
same_person i j i_is j_is =
    ap is_eq (sym (signed_cmp (unsigned_key j) (unsigned_key i)) ∙ (λ k. int_cmp (j_is k) (i_is k)) ∙ int_cmp_total.antisymm j i) ∙ turned (int_cmp i j)
  where
    turned : (r : Ordering) → is_eq (ordering_reverse r) ≡ is_eq r
    turned Less = refl
    turned Equal = refl
    turned Greater = refl

abbrev firsts : {X : Type 0} → List (ℕ × X) → List ℤ
firsts es = map (λ e. e.0) (numbered es)

of_person : (o : ℤ) (es : List (ℕ × Link)) → IsKeyed o → AreKeyed es → firsts (keys_of (unsigned_key o) (by_person es)) ≡ map (λ e. e.0) (filter (λ e. int_eq (e.1).person o) (numbered es))
of_person o [] own h = refl
of_person o (e ∷ es) own h =
    ap firsts (put_of m n e.0 (by_person es)) ∙ ap (λ b. firsts (named m (cond b ((n, e.0) ∷ those m (by_person es)) (those m (by_person es))))) (same_person (e.1).person o h.0 own)
    ∙ go (int_eq (e.1).person o) (of_person o es own h.1)
  where
    m : ℕ
    m = unsigned_key o

    n : ℕ
    n = unsigned_key (e.1).person

    rest : Numbered Link
    rest = filter (λ x. int_eq (x.1).person o) (numbered es)

    go : (b : Bool) → firsts (keys_of m (by_person es)) ≡ map (λ x. x.0) rest
        → firsts (named m (cond b ((n, e.0) ∷ those m (by_person es)) (those m (by_person es)))) ≡ map (λ x. x.0) (cond b ((pos e.0, e.1) ∷ rest) rest)
    go true later = ap (λ ns. pos e.0 ∷ ns) later
    go false later = later

-- the same from the pairs that are known
pub known_of : (o : ℤ) (es : List (ℕ × Link)) (ds : List (ℕ × ℕ)) → IsKeyed o → AreLinks es ds
    → map (λ e. e.0) (numbered (keys_of (unsigned_key o) ds)) ≡ map (λ e. e.0) (filter (λ e. int_eq (e.1).person o) (numbered es))
known_of o es ds own h = ap (λ xs. firsts (keys_of (unsigned_key o) xs)) h.persons ∙ of_person o es own h.keyed

-- their keys are those of links
put_within : (m n k bound : ℕ) (ds : List (ℕ × ℕ)) → k < bound → AllByRecursion (λ e. e.0 < bound) (keys_of m ds) → AllByRecursion (λ e. e.0 < bound) (keys_of m ((n, k) ∷ ds))
put_within m n k bound ds lt h = go (eq_by_cmp nat_cmp m n)
  where
    go : (b : Bool) → AllByRecursion (λ e. e.0 < bound) (named m (cond b ((n, k) ∷ those m ds) (those m ds)))
    go true = (lt, h)
    go false = h

pairs_within : (m bound : ℕ) (es : List (ℕ × Link)) → AllByRecursion (λ e. e.0 < bound) es → AllByRecursion (λ e. e.0 < bound) (keys_of m (by_person es))
pairs_within m bound [] h = tt
pairs_within m bound (e ∷ es) h =
    subst (λ (xs : List (ℕ × ℕ)). AllByRecursion (λ x. x.0 < bound) xs) (sym (put_of m (unsigned_key (e.1).person) e.0 (by_person es)))
    (put_within m (unsigned_key (e.1).person) e.0 bound (by_person es) h.0 (pairs_within m bound es h.1))

pub known_within : (m bound : ℕ) (es : List (ℕ × Link)) (ds : List (ℕ × ℕ)) → AllByRecursion (λ e. e.0 < bound) es → AreLinks es ds → AllByRecursion (λ e. e.0 < bound) (keys_of m ds)
known_within m bound es ds within h = subst (λ (xs : List (ℕ × ℕ)). AllByRecursion (λ x. x.0 < bound) (keys_of m xs)) (sym h.persons) (pairs_within m bound es within)
