-- Names in order of two lists together: each of the whole is the next of one of them.
use Rattle.std.proofs.Common.{◌≡◌, ◌⊎◌, inl, inr, ℕ, zero, suc, ◌+◌, ◌<◌, ◌≤◌, Bool, true, false, List, [], ◌∷◌, map, length, take, drop, Some, refl, sym, ap, ◌∙◌, subst, cond, IsTrue, Ordering, Less, Equal, Greater, get_or, arith}
use Rattle.std.specs.Prelude.{slice_get}
use Rattle.std.specs.Ordering.{nat_cmp, is_lt, is_eq, ordering_reverse}
use Rattle.std.specs.Cmp.{IsStrictWeakOrder}
use Rattle.std.specs.Cmp.Lexicographic.{slice_cmp}
use Rattle.std.specs.List.Sorted.{IsSorted}
use Rattle.std.specs.FinMap.Entries.{below_all}
use Rattle.std.proofs.lemmas.Cmp.{nat_list_cmp_total}
use Rattle.std.proofs.lemmas.Option.{slice_get_within, slice_get-get_or, get_or_from_slice_get}
use Rattle.std.proofs.lemmas.List.{length-map}
use Rattle.std.proofs.lemmas.List.Sorted.{sorted_far}
use Rattle.spec_value.specs.Datum.{Text, same_text}
use Rattle.spec_value.specs.Table.{Named, is_named}
use Rattle.spec_value.proofs.Entries.{first_holds, second_holds}
use Rattle.spec_value.proofs.Same.{same_texts, text_itself}
use Rattle.spec_world.proofs.Trees.{some_same}
use Rattle.spec_world.proofs.SlotTables.{sought}
use Rattle.world_checks.specs.Merge.{how_many, IsMerge, InOrder}
use Rattle.world_checks.proofs.Merged.{Merged}

-- ---- the order of names

abbrev R : Text → Text → Ordering
R = slice_cmp nat_cmp

is_less : (r : Ordering) → is_lt r ≡ true → r ≡ Less
is_less Less h = refl
is_less Equal h = cc
is_less Greater h = cc

weak : IsStrictWeakOrder (λ x y. is_lt (R x y))
weak =
    record {
      one_way = λ x y h. ap is_lt (nat_list_cmp_total.antisymm y x ∙ ap ordering_reverse (is_less (R x y) h));
      chain = λ x y z h k. chain x y z (R x y) refl h k;
    }
  where
    none : (x y z : Text) → R y z ≡ Less → is_lt (R y z) ≡ false → ⊥
    none x y z e k = let clash : false ≡ true = sym k ∙ ap is_lt e in cc (clash)

    chain : (x y z : Text) (r : Ordering) → R x y ≡ r → is_lt (R x y) ≡ false → is_lt (R y z) ≡ false → is_lt (R x z) ≡ false
    chain x y z Less e h k = let clash : false ≡ true = sym h ∙ ap is_lt e in absurd (cc (clash))
    chain x y z Equal e h k = ap is_lt (nat_list_cmp_total.congr x y z e) ∙ k
    chain x y z Greater e h k = go (R x z) refl
      where
        back : R y x ≡ Less
        back = nat_list_cmp_total.antisymm y x ∙ ap ordering_reverse e

        go : (s : Ordering) → R x z ≡ s → is_lt (R x z) ≡ false
        go Less f = absurd (none x y z (nat_list_cmp_total.trans y x z back f) k)
        go Equal f = ap is_lt f
        go Greater f = ap is_lt f

-- of which neither is less
same_names : (s t : Text) → is_lt (R s t) ≡ false → is_lt (R t s) ≡ false → s ≡ t
same_names s t h k = go (R s t) refl
  where
    go : (r : Ordering) → R s t ≡ r → s ≡ t
    go Less e = let clash : false ≡ true = sym h ∙ ap is_lt e in absurd (cc (clash))
    go Equal e = same_texts s t (sym (sought s t) ∙ ap is_eq e)
    go Greater e = let clash : false ≡ true = sym k ∙ ap is_lt (nat_list_cmp_total.antisymm t s ∙ ap ordering_reverse e) in absurd (cc (clash))

-- ---- names that were sorted, and the names of a table, are in order

pub sorted_order : {V : Type 0} (f : V → Text) (vs : List V) → IsSorted (λ v w. R (f v) (f w)) vs → InOrder (map f vs)
sorted_order f vs up i j s t le a b =
    let lt : j < length vs = let within = slice_get_within (map f vs) j t b in omega (arith, within, length-map vs f) in
    sorted vs f up i j s t le lt a b
  where
    weak_by : {V : Type 0} (f : V → Text) → IsStrictWeakOrder (λ v w. is_lt (R (f v) (f w)))
    weak_by f = record { one_way = λ x y. weak.one_way (f x) (f y); chain = λ x y z. weak.chain (f x) (f y) (f z) }

    from : {V : Type 0} (f : V → Text) (vs : List V) (k : ℕ) (t : Text) → slice_get (map f vs) k ≡ Some t → (v : V) × (slice_get vs k ≡ Some v) × (f v ≡ t)
    from f [] k t is = cc
    from f (v ∷ vs) zero t is = (v, refl, some_same is)
    from f (v ∷ vs) (suc k) t is = from f vs k t is

    sorted : {V : Type 0} (vs : List V) (f : V → Text) → IsSorted (λ v w. R (f v) (f w)) vs → (i j : ℕ) (s t : Text) → i ≤ j → j < length vs
        → slice_get (map f vs) i ≡ Some s → slice_get (map f vs) j ≡ Some t → is_lt (R t s) ≡ false
    sorted vs f up i j s t le lt a b =
        let v = from f vs i s a in
        let w = from f vs j t b in
        let far = sorted_far (λ x y. is_lt (R (f x) (f y))) (weak_by f) vs up i j v.0 le lt in
        let at_i : f (get_or vs i v.0) ≡ s = ap f (get_or_from_slice_get vs i v.0 v.0 v.1) ∙ v.2 in
        let at_j : f (get_or vs j v.0) ≡ t = ap f (get_or_from_slice_get vs j w.0 v.0 w.1) ∙ w.2 in
        subst (λ x. is_lt (R x s) ≡ false) at_j (subst (λ y. is_lt (R (f (get_or vs j v.0)) y) ≡ false) at_i far)

module _ {X : Type 0} where
  none_less : (k : Text) (es : Named X) (j : ℕ) (t : Text) → IsTrue (below_all R k es) → slice_get (map (λ e. e.0) es) j ≡ Some t → is_lt (R t k) ≡ false
  none_less k [] j t h b = cc
  none_less k (e ∷ es) zero t h b = weak.one_way k t (subst (λ z. is_lt (R k z) ≡ true) (some_same b) (first_holds (is_lt (R k e.0)) _ h))
  none_less k (e ∷ es) (suc j) t h b = none_less k es j t (second_holds (is_lt (R k e.0)) _ h) b

  pub named_order : (es : Named X) → IsTrue (is_named es) → InOrder (map (λ e. e.0) es)
  named_order [] h i j s t le a b = cc
  named_order (e ∷ es) h zero zero s t le a b = subst (λ z. is_lt (R z s) ≡ false) (some_same (sym a ∙ b)) (itself s)
    where
      itself : (s : Text) → is_lt (R s s) ≡ false
      itself s = go (R s s) (nat_list_cmp_total.antisymm s s)
        where
          go : (r : Ordering) → r ≡ ordering_reverse r → is_lt r ≡ false
          go Less h = cc
          go Equal h = refl
          go Greater h = refl
  named_order (e ∷ es) h zero (suc j) s t le a b =
      subst (λ z. is_lt (R t z) ≡ false) (some_same a) (none_less e.0 es j t (first_holds (below_all R e.0 es) _ h) b)
  named_order (e ∷ es) h (suc i) zero s t le a b = absurd (omega arith)
  named_order (e ∷ es) h (suc i) (suc j) s t le a b = named_order es (second_holds (below_all R e.0 es) _ h) i j s t (omega arith) a b

-- ---- how often a name stands from an index on

two_parts : (t : Text) (xs : List Text) (k : ℕ) → how_many t (take k xs) + how_many t (drop k xs) ≡ how_many t xs
two_parts t [] zero = refl
two_parts t [] (suc k) = refl
two_parts t (x ∷ xs) zero = omega arith
two_parts t (x ∷ xs) (suc k) = let rest = two_parts t xs k in omega (arith, rest)

found_from : (t : Text) (xs : List Text) (k : ℕ) → 1 ≤ how_many t (drop k xs) → (n : ℕ) × (k ≤ n) × (slice_get xs n ≡ Some t)
found_from t [] zero h = absurd (omega arith)
found_from t [] (suc k) h = absurd (omega arith)
found_from t (x ∷ xs) (suc k) h = let r = found_from t xs k h in (suc r.0, omega (arith, r.1), r.2)
found_from t (x ∷ xs) zero h = go (found_from t xs zero) (same_text t x) refl h
  where
    go : (1 ≤ how_many t xs → (n : ℕ) × (0 ≤ n) × (slice_get xs n ≡ Some t)) → (b : Bool) → same_text t x ≡ b → 1 ≤ cond b 1 0 + how_many t xs
        → (n : ℕ) × (0 ≤ n) × (slice_get (x ∷ xs) n ≡ Some t)
    go later true e h = (0, omega arith, ap Some (sym (same_texts t x e)))
    go later false e h = let r = later (omega (arith, h)) in (suc r.0, omega arith, r.2)

counted_from : (t : Text) (xs : List Text) (k : ℕ) → slice_get xs k ≡ Some t → 1 ≤ how_many t (drop k xs)
counted_from t [] k is = cc
counted_from t (x ∷ xs) (suc k) is = counted_from t xs k is
counted_from t (x ∷ xs) zero is =
    let same : same_text t x ≡ true = subst (λ z. same_text t z ≡ true) (sym (some_same is)) (text_itself t) in
    let one : ◌≡◌ {A = ℕ} (cond (same_text t x) 1 0) 1 = ap (λ b. cond b 1 0) same in
    omega (arith, one)

-- ---- the walk

left_over : (ts us vs : List Text) (i j k : ℕ) → Merged ts us vs i j k → IsMerge ts us vs → (t : Text) → how_many t (drop k vs) ≡ how_many t (drop i ts) + how_many t (drop j us)
left_over ts us vs i j k m h t =
    let whole = h t in
    let so_far = m.counts t in
    let p = two_parts t ts i in
    let q = two_parts t us j in
    let r = two_parts t vs k in
    omega (arith, whole, so_far, p, q, r)

some_at : (xs : List Text) (i : ℕ) → i < length xs → (x : Text) × (slice_get xs i ≡ Some x)
some_at xs i lt = (get_or xs i [], slice_get-get_or xs i [] lt)

-- the next of the whole is among what is left of a part: it is the next there
next_of : (ts vs : List Text) (i k : ℕ) (x : Text) → InOrder ts → InOrder vs → slice_get vs k ≡ Some x → 1 ≤ how_many x (drop i ts)
    → ((t : Text) → how_many t (drop i ts) ≤ how_many t (drop k vs)) → slice_get ts i ≡ Some x
next_of ts vs i k x in_part in_whole is some among =
    let there = found_from x ts i some in
    let first = some_at ts i (let lt = slice_get_within ts there.0 x there.2 in omega (arith, lt, there.1)) in
    let back = found_from first.0 vs k (let one = counted_from first.0 ts i first.1 in let most = among first.0 in omega (arith, one, most)) in
    let same : first.0 ≡ x =
    same_names first.0 x (in_whole k back.0 x first.0 back.1 is back.2) (in_part i there.0 first.0 x there.1 first.1 there.2) in
    first.1 ∙ ap Some same

pub next_known : (ts us vs : List Text) (i j k : ℕ) (x : Text) → Merged ts us vs i j k → IsMerge ts us vs → InOrder ts → InOrder us → InOrder vs → slice_get vs k ≡ Some x
    → (slice_get ts i ≡ Some x) ⊎ (slice_get us j ≡ Some x)
next_known ts us vs i j k x m h a b c is = go (how_many x (drop i ts)) refl
  where
    left : (t : Text) → how_many t (drop k vs) ≡ how_many t (drop i ts) + how_many t (drop j us)
    left = left_over ts us vs i j k m h

    go : (n : ℕ) → how_many x (drop i ts) ≡ n → (slice_get ts i ≡ Some x) ⊎ (slice_get us j ≡ Some x)
    go (suc n) e = inl (next_of ts vs i k x a c is (omega (arith, e)) (λ t. let all = left t in omega (arith, all)))
    go zero e =
        let here = counted_from x vs k is in
        let all = left x in
        inr (next_of us vs j k x b c is (omega (arith, e, here, all)) (λ t. let all = left t in omega (arith, all)))

none_left : (ts vs : List Text) (i k : ℕ) → ((t : Text) → how_many t (drop i ts) ≤ how_many t (drop k vs)) → i ≤ length ts → length vs ≤ k → i ≡ length ts
none_left ts vs i k among le all = go (some_or i (length ts) le)
  where
    some_or : (i n : ℕ) → i ≤ n → (i < n) ⊎ (i ≡ n)
    some_or zero zero le = inr refl
    some_or zero (suc n) le = inl (omega arith)
    some_or (suc i) zero le = absurd (omega arith)
    some_or (suc i) (suc n) le = more (some_or i n (omega arith))
      where
        more : (i < n) ⊎ (i ≡ n) → (suc i < suc n) ⊎ (suc i ≡ suc n)
        more (inl h) = inl (omega arith)
        more (inr h) = inr (ap suc h)

    go : (i < length ts) ⊎ (i ≡ length ts) → i ≡ length ts
    go (inr e) = e
    go (inl lt) =
        let first = some_at ts i lt in
        let back = found_from first.0 vs k (let one = counted_from first.0 ts i first.1 in let most = among first.0 in omega (arith, one, most)) in
        absurd (let within = slice_get_within vs back.0 first.0 back.2 in omega (arith, within, back.1, all))

pub all_known : (ts us vs : List Text) (i j k : ℕ) → Merged ts us vs i j k → IsMerge ts us vs → length vs ≤ k → (i ≡ length ts) × (j ≡ length us)
all_known ts us vs i j k m h all =
    let left = left_over ts us vs i j k m h in (
      none_left ts vs i k (λ t. let e = left t in omega (arith, e)) m.names all,
      none_left us vs j k (λ t. let e = left t in omega (arith, e)) m.others all,
    )
