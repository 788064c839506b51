-- The first pair at a moment or after it.
use Rattle.std.proofs.Common.{◌≡◌, ℕ, ◌+◌, ◌<◌, ◌≤◌, Bool, true, false, cond, List, [], ◌∷◌, ◌++◌, length, Option, Some, None, option_map, IfSome, refl, sym, ap, subst, ◌∙◌, arith, nat_le, Less, Equal, Greater, ⊎_elim}
use Rattle.std.specs.List.{AllByRecursion, find as first}
use Rattle.std.specs.Option.{option_or, option_and_then}
use Rattle.std.specs.Ordering.{nat_cmp}
use Rattle.std.specs.Cmp.{ranked}
use Rattle.std.proofs.lemmas.Bool.{cases_lt}
use Rattle.std.proofs.lemmas.Bool.Decides.{nat_tests}
use Rattle.world_table.specs.Branch.{Rises}
use Rattle.world_table.specs.Entries.{first_from}
use Rattle.due_table.specs.Order.{first_item_from}
use Rattle.due_table.specs.Pairs.{first_pair_from}
use Rattle.due_table.specs.Held.{AreKeys, IsSound, at_moment, pairs_of, keys_at}
use Rattle.due_table.proofs.Ranked.{le_from_cmp}
use Rattle.due_table.proofs.Later.{pairs_later, first_at_or_after, first_of_later, from_behind, from_own}
use Rattle.due_table.proofs.Moments.{found, none_below}
use Rattle.due_table.proofs.Kept.{IsWithin, each_within}

abbrev Moments : Type 0
Moments = List (ℕ × List ℕ)

-- a key of the moment's own, or else a pair of a later one
abbrev own_or_later : ℕ → Option ℕ → Option (ℕ × ℕ) → Option (ℕ × ℕ)
own_or_later m o p = option_or (option_map (λ j. (m, j)) o) p

walk : (low high m k : ℕ) (es : Moments) → Rises low high es
    → first_pair_from (m, k) (pairs_of es) ≡ own_or_later m (first_item_from nat_cmp k (keys_at m es)) (first_pair_from (m + 1, 0) (pairs_of es))
walk low high m k [] h = refl
walk low high m k (e ∷ es) h =
    elim (nat_cmp m e.0) as (λ r. nat_cmp m e.0 ≡ r
    → first_pair_from (m, k) (pairs_of (e ∷ es)) ≡ own_or_later m (first_item_from nat_cmp k (keys_at m (e ∷ es))) (first_pair_from (m + 1, 0) (pairs_of (e ∷ es)))) [
      | Less ↦ λ r.
          let p : m < e.0 = ranked m e.0 Less (sym r) in
          first_of_later m k (pairs_of (e ∷ es)) (pairs_later m e.0 high (e ∷ es) p (omega arith, h.1))
          ∙ sym (keys_are (found m e es Less r ∙ none_below m (e.0 + 1) high es (omega arith) h.1))
      | Equal ↦ λ r.
          let p : m ≡ e.0 = ranked m e.0 Equal (sym r) in
          subst (λ (x : ℕ). first_pair_from (m, k) (at_moment x e.1 ++ pairs_of es) ≡ own_or_later m (first_item_from nat_cmp k e.1) (first_pair_from (m + 1, 0) (at_moment x e.1 ++ pairs_of es))) p
          (from_own m k e.1 (pairs_of es) (pairs_later m (e.0 + 1) high es (omega arith) h.1))
          ∙ sym (keys_are (found m e es Equal r))
      | Greater ↦ λ r.
          let p : e.0 < m = ranked m e.0 Greater (sym r) in
          from_behind m k e.0 e.1 (pairs_of es) p
          ∙ walk (e.0 + 1) high m k es h.1
          ∙ ap (own_or_later m (first_item_from nat_cmp k (keys_at m es))) (sym (from_behind (m + 1) 0 e.0 e.1 (pairs_of es) (omega arith)))
          ∙ sym (keys_are (found m e es Greater r))
    ] refl
  where
    keys_are : {ks : List ℕ} → keys_at m (e ∷ es) ≡ ks
        → own_or_later m (first_item_from nat_cmp k (keys_at m (e ∷ es))) (first_pair_from (m + 1, 0) (pairs_of (e ∷ es))) ≡ own_or_later m (first_item_from nat_cmp k ks) (first_pair_from (m + 1, 0) (pairs_of (e ∷ es)))
    keys_are e' = ap (λ ks. own_or_later m (first_item_from nat_cmp k ks) (first_pair_from (m + 1, 0) (pairs_of (e ∷ es)))) e'

pub found_own : (m k j : ℕ) (es : Moments) → IsSound es → Some j ≡ first_item_from nat_cmp k (keys_at m es) → Some (m, j) ≡ first_pair_from (m, k) (pairs_of es)
found_own m k j es h is = ap (λ o. own_or_later m o (first_pair_from (m + 1, 0) (pairs_of es))) is ∙ sym (walk 0 4294967296 m k es h.0)

pub found_later : (m k : ℕ) (o : Option (ℕ × ℕ)) (es : Moments) → IsSound es → None ≡ first_item_from nat_cmp k (keys_at m es) → o ≡ first_pair_from (m + 1, 0) (pairs_of es) → o ≡ first_pair_from (m, k) (pairs_of es)
found_later m k o es h none is = is ∙ ap (λ o. own_or_later m o (first_pair_from (m + 1, 0) (pairs_of es))) none ∙ sym (walk 0 4294967296 m k es h.0)

-- ---- the first pair of later moments

abbrev pub first_of : ℕ × List ℕ → Option (ℕ × ℕ)
first_of e = option_map (λ k. (e.0, k)) (first_item_from nat_cmp 0 e.1)

first_there : (n m : ℕ) (ks : List ℕ) (ps : List (ℕ × ℕ)) → n ≤ m → 0 < length ks → first_pair_from (n, 0) (at_moment m ks ++ ps) ≡ option_map (λ k. (m, k)) (first_item_from nat_cmp 0 ks)
first_there n m [] ps p q = absurd (omega arith)
first_there n m (k ∷ ks) ps p q =
    first_at_or_after n (m, k) (at_moment m ks ++ ps) p
    ∙ sym (ap (λ b. option_map (λ k. (m, k)) (cond b (Some k) (first_item_from nat_cmp 0 ks))) (le_from_cmp 0 k (omega arith)))

pub first_later : (n : ℕ) (es : Moments) → AllByRecursion (λ e. AreKeys e.1) es → first_pair_from (n, 0) (pairs_of es) ≡ option_and_then first_of (first_from n es)
first_later n [] h = refl
first_later n (e ∷ es) h =
    ⊎_elim
    (λ (p : e.0 < n). from_behind n 0 e.0 e.1 (pairs_of es) p ∙ first_later n es h.1 ∙ sym (ap (λ b. option_and_then first_of (cond b (Some e) (first_from n es))) (let t : nat_le n e.0 ≡ false = grind (arith, nat_tests) in t)))
    (λ (p : n ≤ e.0). first_there n e.0 e.1 (pairs_of es) p h.0.some ∙ sym (ap (λ b. option_and_then first_of (cond b (Some e) (first_from n es))) (let t : nat_le n e.0 ≡ true = grind (arith, nat_tests) in t)))
    (cases_lt e.0 n)

-- ---- what is found is within bounds

found_within : (test : ℕ × ℕ → Bool) (ps : List (ℕ × ℕ)) → AllByRecursion IsWithin ps → IfSome (first test ps) (λ p. p.1 < 4294967296)
found_within test [] h = tt
found_within test (p ∷ ps) h = go (test p) (found_within test ps h.1)
  where
    go : (b : Bool) → IfSome (first test ps) (λ p. p.1 < 4294967296) → IfSome (cond b (Some p) (first test ps)) (λ p. p.1 < 4294967296)
    go true rest = h.0.1
    go false rest = rest

pub pair_within : (p : ℕ × ℕ) (o : Option (ℕ × ℕ)) (es : Moments) → IsSound es → o ≡ first_pair_from p (pairs_of es) → IfSome o (λ p. p.1 < 4294967296)
pair_within p o es h is = subst (λ o. IfSome o (λ p. p.1 < 4294967296)) (sym is) (found_within _ (pairs_of es) (each_within 0 es h.0 h.1))
