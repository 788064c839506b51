-- Names of two lists together, by how often each stands there.
use Rattle.std.proofs.Common.{◌≡◌, ℕ, zero, suc, ◌+◌, ◌<◌, ◌≤◌, Bool, true, false, not, ◌&&◌, ◌||◌, List, [], ◌∷◌, ◌++◌, map, length, take, Some, refl, sym, ap, ◌∙◌, subst, cond, IsTrue, Ordering, Less, Equal, Greater, get_or, arith, add-one}
use Rattle.std.specs.Prelude.{slice_get}
use Rattle.std.specs.Ordering.{nat_cmp, is_lt, is_eq}
use Rattle.std.specs.Cmp.Lexicographic.{slice_cmp}
use Rattle.std.specs.FinMap.Entries.{below_all}
use Rattle.std.specs.List.{list_all, sum_by}
use Rattle.std.specs.List.Sorted.{IsPermutation}
use Rattle.std.proofs.lemmas.Option.{slice_get_within}
use Rattle.std.proofs.lemmas.List.Sums.{sum_by-cons}
use Rattle.std.proofs.lemmas.List.Folds.{list_any-append}
use Rattle.std.proofs.lemmas.List.Sorted.{sum_by-IsPermutation, IsPermutation-map}
use Rattle.spec_value.specs.Datum.{Text, same_text}
use Rattle.spec_value.specs.Table.{Named, is_named}
use Rattle.spec_value.proofs.Entries.{first_holds, second_holds, both_hold}
use Rattle.spec_value.proofs.Same.{same_texts, text_itself}
use Rattle.spec_world.specs.WellFormed.{has_name, names_once}
use Rattle.spec_world.proofs.Trees.{some_same}
use Rattle.spec_world.proofs.Households.{all_named, of_named}
use Rattle.spec_world.proofs.SlotTables.{sought}
use Rattle.world_checks.specs.Merge.{how_many, IsMerge}

-- ---- how often a name stands in a list

how_many_sum : (t : Text) (ts : List Text) → how_many t ts ≡ sum_by (λ s. cond (same_text t s) 1 0) ts
how_many_sum t [] = refl
how_many_sum t (s ∷ ts) = ap (λ n. cond (same_text t s) 1 0 + n) (how_many_sum t ts) ∙ sym (sum_by-cons (λ r. cond (same_text t r) 1 0) s ts)

pub permuted : {V : Type 0} (f : V → Text) (vs ws : List V) (t : Text) → IsPermutation vs ws → how_many t (map f ws) ≡ how_many t (map f vs)
permuted f vs ws t p =
    how_many_sum t (map f ws) ∙ sum_by-IsPermutation (λ s. cond (same_text t s) 1 0) (map f vs) (map f ws) (IsPermutation-map f vs ws p) ∙ sym (how_many_sum t (map f vs))

both_counted : (t : Text) (ts us : List Text) → how_many t (ts ++ us) ≡ how_many t ts + how_many t us
both_counted t [] us = omega arith
both_counted t (s ∷ ts) us = let later = both_counted t ts us in omega (arith, later)

counted : (t : Text) (ts : List Text) → IsTrue (has_name ts t) → 1 ≤ how_many t ts
counted t [] h = cc
counted t (s ∷ ts) h = go (counted t ts) (same_text t s) h
  where
    go : (IsTrue (has_name ts t) → 1 ≤ how_many t ts) → (b : Bool) → IsTrue (b || has_name ts t) → 1 ≤ cond b 1 0 + how_many t ts
    go later true k = omega arith
    go later false k = omega (arith, later k)

named_there : (t : Text) (ts : List Text) → 1 ≤ how_many t ts → IsTrue (has_name ts t)
named_there t [] h = absurd (omega arith)
named_there t (s ∷ ts) h = go (named_there t ts) (same_text t s) h
  where
    go : (1 ≤ how_many t ts → IsTrue (has_name ts t)) → (b : Bool) → 1 ≤ cond b 1 0 + how_many t ts → IsTrue (b || has_name ts t)
    go later true k = refl
    go later false k = later (omega (arith, k))

none_counted : (t : Text) (ts : List Text) → has_name ts t ≡ false → how_many t ts ≡ 0
none_counted t [] h = refl
none_counted t (s ∷ ts) h = go (none_counted t ts) (same_text t s) h
  where
    go : (has_name ts t ≡ false → how_many t ts ≡ 0) → (b : Bool) → (b || has_name ts t) ≡ false → cond b 1 0 + how_many t ts ≡ 0
    go later true k = cc
    go later false k = let rest = later k in omega (arith, rest)

not_true : (b : Bool) → IsTrue (not b) → b ≡ false
not_true true h = cc
not_true false h = refl

once_counted : (ts : List Text) → IsTrue (names_once ts) → (t : Text) → how_many t ts ≤ 1
unfolding names_once
once_counted [] h t = omega arith
once_counted (s ∷ ts) h t = go (once_counted ts (second_holds (not (has_name ts s)) _ h) t) (same_text t s) refl
  where
    go : how_many t ts ≤ 1 → (b : Bool) → same_text t s ≡ b → cond b 1 0 + how_many t ts ≤ 1
    go later false e = omega (arith, later)
    go later true e =
        let none : how_many t ts ≡ 0 = subst (λ r. how_many r ts ≡ 0) (sym (same_texts t s e)) (none_counted s ts (not_true (has_name ts s) (first_holds (not (has_name ts s)) _ h))) in
        omega (arith, none)

counted_once : (ts : List Text) → ((t : Text) → how_many t ts ≤ 1) → IsTrue (names_once ts)
unfolding names_once
counted_once [] h = refl
counted_once (s ∷ ts) h = both_hold (not (has_name ts s)) (names_once ts) (go (has_name ts s) refl) (counted_once ts (λ t. let more = h t in omega (arith, more)))
  where
    go : (b : Bool) → has_name ts s ≡ b → IsTrue (not b)
    go false e = refl
    go true e =
        let here : same_text s s ≡ true = text_itself s in
        let two : cond (same_text s s) 1 0 + how_many s ts ≤ 1 = h s in
        let one : cond true 1 0 + how_many s ts ≤ 1 = subst (λ b. cond b 1 0 + how_many s ts ≤ 1) here two in
        absurd (omega (arith, one, counted s ts e))

-- ---- names in order stand once

abbrev R : Text → Text → Ordering
R = slice_cmp nat_cmp

module _ {X : Type 0} where
  none_behind : (k : Text) (es : Named X) → IsTrue (below_all R k es) → has_name (map (λ e. e.0) es) k ≡ false
  none_behind k [] h = refl
  none_behind k (e ∷ es) h = go (none_behind k es (second_holds (is_lt (R k e.0)) _ h)) (R k e.0) refl (first_holds (is_lt (R k e.0)) _ h)
    where
      go : has_name (map (λ d. d.0) es) k ≡ false → (r : Ordering) → R k e.0 ≡ r → IsTrue (is_lt r) → (same_text k e.0 || has_name (map (λ d. d.0) es) k) ≡ false
      go rest Less t b = (λ i. sym (sought k e.0) i || has_name (map (λ d. d.0) es) k) ∙ (λ i. is_eq (t i) || has_name (map (λ d. d.0) es) k) ∙ rest
      go rest Equal t b = cc
      go rest Greater t b = cc

  pub sorted_once : (es : Named X) → IsTrue (is_named es) → IsTrue (names_once (map (λ e. e.0) es))
  unfolding names_once
  sorted_once [] h = refl
  sorted_once (e ∷ es) h =
      both_hold _ _ (ap not (none_behind e.0 es (first_holds (below_all R e.0 es) _ h))) (sorted_once es (second_holds (below_all R e.0 es) _ h))

-- ---- what follows of names together

pub merge_follows : (ts us vs : List Text) → IsMerge ts us vs → IsTrue (names_once vs)
    → IsTrue ((names_once ts && list_all (λ t. not (has_name us t)) ts) && (list_all (has_name (ts ++ us)) vs && list_all (has_name vs) (ts ++ us)))
merge_follows ts us vs merge once =
    both_hold _ _
    (both_hold _ _ (counted_once ts (λ t. let all = merge t in let most = once_counted vs once t in omega (arith, all, most))) (all_named (λ t. not (has_name us t)) ts apart))
    (both_hold _ _ (all_named (has_name (ts ++ us)) vs known) (all_named (has_name vs) (ts ++ us) there))
  where
    apart : (t : Text) → IsTrue (has_name ts t) → IsTrue (not (has_name us t))
    apart t h = go (has_name us t) refl
      where
        go : (b : Bool) → has_name us t ≡ b → IsTrue (not b)
        go false e = refl
        go true e = absurd (omega (arith, counted t ts h, counted t us e, merge t, once_counted vs once t))

    known : (t : Text) → IsTrue (has_name vs t) → IsTrue (has_name (ts ++ us) t)
    known t h = named_there t (ts ++ us) (omega (arith, counted t vs h, merge t, both_counted t ts us))

    there : (t : Text) → IsTrue (has_name (ts ++ us) t) → IsTrue (has_name vs t)
    there t h = named_there t vs (omega (arith, counted t (ts ++ us) h, merge t, both_counted t ts us))

once_there : (ts : List Text) (t : Text) → IsTrue (names_once ts) → IsTrue (has_name ts t) → how_many t ts ≡ 1
once_there ts t once h = let some = counted t ts h in let most = once_counted ts once t in omega (arith, some, most)

-- and the other way round
pub follows_merge : (ts us vs : List Text)
    → IsTrue ((names_once ts && list_all (λ t. not (has_name us t)) ts) && (list_all (has_name (ts ++ us)) vs && list_all (has_name vs) (ts ++ us)))
    → IsTrue (names_once us) → IsTrue (names_once vs) → IsMerge ts us vs
follows_merge ts us vs h once_us once_vs t = go (has_name ts t) (has_name us t) refl refl
  where
    own : IsTrue (names_once ts && list_all (λ s. not (has_name us s)) ts)
    own = first_holds (names_once ts && list_all (λ t. not (has_name us t)) ts) _ h

    both : IsTrue (list_all (has_name (ts ++ us)) vs && list_all (has_name vs) (ts ++ us))
    both = second_holds (names_once ts && list_all (λ t. not (has_name us t)) ts) _ h

    once_ts : IsTrue (names_once ts)
    once_ts = first_holds (names_once ts) _ own

    there : IsTrue (has_name (ts ++ us) t) → IsTrue (has_name vs t)
    there = of_named (has_name vs) (ts ++ us) (second_holds (list_all (has_name (ts ++ us)) vs) _ both) t

    known : IsTrue (has_name vs t) → IsTrue (has_name (ts ++ us) t)
    known = of_named (has_name (ts ++ us)) vs (first_holds (list_all (has_name (ts ++ us)) vs) _ both) t

    in_both : has_name (ts ++ us) t ≡ (has_name ts t || has_name us t)
    in_both = list_any-append (same_text t) ts us

    go : (a b : Bool) → has_name ts t ≡ a → has_name us t ≡ b → how_many t vs ≡ how_many t ts + how_many t us
    go true true e f =
        let apart : not (has_name us t) ≡ true = of_named (λ s. not (has_name us s)) ts (second_holds (names_once ts) _ own) t e in
        let clash : false ≡ true = ap not (sym f) ∙ apart in
        absurd (cc (clash))
    go true false e f =
        let one = once_there ts t once_ts e in
        let none = none_counted t us f in
        let all = once_there vs t once_vs (there (in_both ∙ ap (λ c. c || has_name us t) e)) in
        omega (arith, one, none, all)
    go false true e f =
        let none = none_counted t ts e in
        let one = once_there us t once_us f in
        let all = once_there vs t once_vs (there (in_both ∙ ap (λ c. c || has_name us t) e ∙ f)) in
        omega (arith, one, none, all)
    go false false e f = no_more (has_name vs t) refl
      where
        no_more : (c : Bool) → has_name vs t ≡ c → how_many t vs ≡ how_many t ts + how_many t us
        no_more true g =
            let clash : false ≡ true = sym (in_both ∙ ap (λ d. d || has_name us t) e ∙ f) ∙ known g in
            absurd (cc (clash))
        no_more false g = let all = none_counted t vs g in let first = none_counted t ts e in let second = none_counted t us f in omega (arith, all, first, second)

-- ---- the walk

one_more : (t x : Text) (xs : List Text) (k : ℕ) → slice_get xs k ≡ Some x → how_many t (take (suc k) xs) ≡ how_many t (take k xs) + cond (same_text t x) 1 0
one_more t x [] k is = cc
one_more t x (y ∷ xs) zero is = let same : ◌≡◌ {A = ℕ} (cond (same_text t y) 1 0) (cond (same_text t x) 1 0) = ap (λ z. cond (same_text t z) 1 0) (some_same is) in omega (arith, same)
one_more t x (y ∷ xs) (suc k) is = let later = one_more t x xs k is in omega (arith, later)

pub got_one : {A B : Type 0} (f : A → B) (xs : List A) (i : ℕ) (x : A) → i < length xs → x ≡ get_or xs i x → slice_get (map f xs) i ≡ Some (f x)
got_one f [] i x lt is = absurd (omega arith)
got_one f (y ∷ xs) zero x lt is = ap (λ z. Some (f z)) (sym is)
got_one f (y ∷ xs) (suc i) x lt is = got_one f xs i x (omega arith) is

pub record Merged (ts us vs : List Text) (i j k : ℕ) : Type 0 where
  pub places : i + j ≡ k
  pub names : i ≤ length ts
  pub others : j ≤ length us
  pub counts : (t : Text) → how_many t (take k vs) ≡ how_many t (take i ts) + how_many t (take j us)

pub none_merged : (ts us vs : List Text) → Merged ts us vs 0 0 0
none_merged ts us vs = record { places = refl; names = omega arith; others = omega arith; counts = λ t. refl }

pub name_merged : (ts us vs : List Text) (i j k : ℕ) (x : Text) → slice_get vs k ≡ Some x → slice_get ts i ≡ Some x → Merged ts us vs i j k → Merged ts us vs (i + 1) j (k + 1)
name_merged ts us vs i j k x is from h =
    record {
      places = let so_far = h.places in omega (arith, so_far);
      names = let lt = slice_get_within ts i x from in omega (arith, lt);
      others = h.others;
      counts = λ t.
          rw (add-one i, add-one k)
          (omega (arith, one_more t x vs k is, one_more t x ts i from, h.counts t));
    }

pub other_merged : (ts us vs : List Text) (i j k : ℕ) (x : Text) → slice_get vs k ≡ Some x → slice_get us j ≡ Some x → Merged ts us vs i j k → Merged ts us vs i (j + 1) (k + 1)
other_merged ts us vs i j k x is from h =
    record {
      places = let so_far = h.places in omega (arith, so_far);
      names = h.names;
      others = let lt = slice_get_within us j x from in omega (arith, lt);
      counts = λ t.
          rw (add-one j, add-one k)
          (omega (arith, one_more t x vs k is, one_more t x us j from, h.counts t));
    }

all_taken : (xs : List Text) (n : ℕ) → n ≡ length xs → take n xs ≡ xs
all_taken [] zero is = refl
all_taken [] (suc n) is = refl
all_taken (x ∷ xs) zero is = absurd (omega (arith, is))
all_taken (x ∷ xs) (suc n) is = ap (λ ys. x ∷ ys) (all_taken xs n (omega (arith, is)))

pub all_merged : (ts us vs : List Text) (i j k : ℕ) → i ≡ length ts → j ≡ length us → k ≡ length vs → Merged ts us vs i j k → IsMerge ts us vs
all_merged ts us vs i j k all_ts all_us all_vs h t =
    ap (how_many t) (sym (all_taken vs k all_vs)) ∙ h.counts t
    ∙ (λ n. how_many t (all_taken ts i all_ts n) + how_many t (all_taken us j all_us n))
