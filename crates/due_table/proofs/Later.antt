-- Pairs whose moments are later than one.
use Rattle.std.proofs.Common.{◌≡◌, ℕ, ◌+◌, ◌<◌, ◌≤◌, Bool, true, false, cond, not, List, [], ◌∷◌, ◌++◌, Some, None, option_map, refl, sym, ap, ◌∙◌, arith, Ordering, Less, Equal, Greater}
use Rattle.std.specs.List.{AllByRecursion}
use Rattle.std.specs.Option.{option_or}
use Rattle.std.specs.Ordering.{nat_cmp, eq_by_cmp, is_le, is_eq, ordering_then}
use Rattle.std.specs.Cmp.{ranked}
use Rattle.std.specs.FinMap.Entries.{by_order}
use Rattle.std.proofs.lemmas.List.Folds.{find-append}
use Rattle.std.proofs.lemmas.List.Elements.{filter-append}
use Rattle.world_table.specs.Branch.{Rises}
use Rattle.world_table.proofs.Rising.{cmp_less, cmp_equal, cmp_greater}
use Rattle.due_table.specs.Order.{with_item, without_item, first_item_from}
use Rattle.due_table.specs.Pairs.{pair_cmp, with_pair, without_pair, first_pair_from}
use Rattle.due_table.specs.Held.{at_moment, pairs_of}
use Rattle.due_table.proofs.Ranked.{le_from_cmp}

abbrev Pairs : Type 0
Pairs = List (ℕ × ℕ)

-- how a pair of another moment, or of the same, stands to one
pub earlier : (p q : ℕ × ℕ) → p.0 < q.0 → pair_cmp nat_cmp p q ≡ Less
earlier p q h = ap (λ r. ordering_then r (nat_cmp p.1 q.1)) (cmp_less p.0 q.0 h)

pub later : (p q : ℕ × ℕ) → q.0 < p.0 → pair_cmp nat_cmp p q ≡ Greater
later p q h = ap (λ r. ordering_then r (nat_cmp p.1 q.1)) (cmp_greater p.0 q.0 h)

pub same_moment : (m k j : ℕ) → pair_cmp nat_cmp (m, k) (m, j) ≡ nat_cmp k j
same_moment m k j = ap (λ r. ordering_then r (nat_cmp k j)) (cmp_equal m m refl)

abbrev pub AreLater : ℕ → Pairs → Type 0
AreLater m = AllByRecursion (λ q. m < q.0)

later_moment : (m x : ℕ) (ks : List ℕ) (ps : Pairs) → m < x → AreLater m ps → AreLater m (at_moment x ks ++ ps)
later_moment m x [] ps p h = h
later_moment m x (k ∷ ks) ps p h = (p, later_moment m x ks ps p h)

pub pairs_later : (m low high : ℕ) (es : List (ℕ × List ℕ)) → m < low → Rises low high es → AreLater m (pairs_of es)
pairs_later m low high [] p h = tt
pairs_later m low high (e ∷ es) p h =
    let own : low ≤ e.0 = h.0 in
    later_moment m e.0 e.1 (pairs_of es) (omega arith) (pairs_later m (e.0 + 1) high es (omega arith) h.1)

-- ---- one pair more

pub put_first : (m k : ℕ) (ps : Pairs) → AreLater m ps → with_pair (m, k) ps ≡ (m, k) ∷ ps
put_first m k [] h = refl
put_first m k (q ∷ qs) h = ap (λ r. by_order r ((m, k) ∷ q ∷ qs) (q ∷ qs) (q ∷ with_pair (m, k) qs)) (earlier (m, k) q h.0)

pub put_own : (m k : ℕ) (ks : List ℕ) (ps : Pairs) → AreLater m ps → with_pair (m, k) (at_moment m ks ++ ps) ≡ at_moment m (with_item nat_cmp k ks) ++ ps
put_own m k [] ps h = put_first m k ps h
put_own m k (j ∷ js) ps h =
    ap (λ r. by_order r ((m, k) ∷ (m, j) ∷ (at_moment m js ++ ps)) ((m, j) ∷ (at_moment m js ++ ps)) ((m, j) ∷ with_pair (m, k) (at_moment m js ++ ps))) (same_moment m k j)
    ∙ go (nat_cmp k j) (put_own m k js ps h)
  where
    go : (r : Ordering) → with_pair (m, k) (at_moment m js ++ ps) ≡ at_moment m (with_item nat_cmp k js) ++ ps
        → by_order r ((m, k) ∷ (m, j) ∷ (at_moment m js ++ ps)) ((m, j) ∷ (at_moment m js ++ ps)) ((m, j) ∷ with_pair (m, k) (at_moment m js ++ ps)) ≡ at_moment m (by_order r (k ∷ j ∷ js) (j ∷ js) (j ∷ with_item nat_cmp k js)) ++ ps
    go Less rest = refl
    go Equal rest = refl
    go Greater rest = ap (λ qs. (m, j) ∷ qs) rest

pub put_behind : (m k x : ℕ) (ks : List ℕ) (ps : Pairs) → x < m → with_pair (m, k) (at_moment x ks ++ ps) ≡ at_moment x ks ++ with_pair (m, k) ps
put_behind m k x [] ps h = refl
put_behind m k x (j ∷ js) ps h =
    ap (λ r. by_order r ((m, k) ∷ (x, j) ∷ (at_moment x js ++ ps)) ((x, j) ∷ (at_moment x js ++ ps)) ((x, j) ∷ with_pair (m, k) (at_moment x js ++ ps))) (later (m, k) (x, j) h)
    ∙ ap (λ qs. (x, j) ∷ qs) (put_behind m k x js ps h)

-- ---- one pair less

pub none_later : (m k : ℕ) (ps : Pairs) → AreLater m ps → without_pair (m, k) ps ≡ ps
none_later m k [] h = refl
none_later m k (q ∷ qs) h =
    ap (λ r. cond (not (is_eq r)) (q ∷ without_pair (m, k) qs) (without_pair (m, k) qs)) (earlier (m, k) q h.0) ∙ ap (λ ps. q ∷ ps) (none_later m k qs h.1)

none_earlier : (m k x : ℕ) (ks : List ℕ) → x < m → without_pair (m, k) (at_moment x ks) ≡ at_moment x ks
none_earlier m k x [] h = refl
none_earlier m k x (j ∷ js) h =
    ap (λ r. cond (not (is_eq r)) ((x, j) ∷ without_pair (m, k) (at_moment x js)) (without_pair (m, k) (at_moment x js))) (later (m, k) (x, j) h)
    ∙ ap (λ ps. (x, j) ∷ ps) (none_earlier m k x js h)

own_left : (m k : ℕ) (ks : List ℕ) → without_pair (m, k) (at_moment m ks) ≡ at_moment m (without_item nat_cmp k ks)
own_left m k [] = refl
own_left m k (j ∷ js) =
    ap (λ r. cond (not (is_eq r)) ((m, j) ∷ without_pair (m, k) (at_moment m js)) (without_pair (m, k) (at_moment m js))) (same_moment m k j)
    ∙ go (not (eq_by_cmp nat_cmp k j)) (own_left m k js)
  where
    go : (b : Bool) → without_pair (m, k) (at_moment m js) ≡ at_moment m (without_item nat_cmp k js)
        → cond b ((m, j) ∷ without_pair (m, k) (at_moment m js)) (without_pair (m, k) (at_moment m js)) ≡ at_moment m (cond b (j ∷ without_item nat_cmp k js) (without_item nat_cmp k js))
    go true rest = ap (λ ps. (m, j) ∷ ps) rest
    go false rest = rest

pub left_own : (m k : ℕ) (ks : List ℕ) (ps : Pairs) → AreLater m ps → without_pair (m, k) (at_moment m ks ++ ps) ≡ at_moment m (without_item nat_cmp k ks) ++ ps
left_own m k ks ps h =
    filter-append (λ q. not (eq_by_cmp (pair_cmp nat_cmp) (m, k) q)) (at_moment m ks) ps
    ∙ ap (λ qs. qs ++ without_pair (m, k) ps) (own_left m k ks)
    ∙ ap (λ qs. at_moment m (without_item nat_cmp k ks) ++ qs) (none_later m k ps h)

pub left_behind : (m k x : ℕ) (ks : List ℕ) (ps : Pairs) → x < m → without_pair (m, k) (at_moment x ks ++ ps) ≡ at_moment x ks ++ without_pair (m, k) ps
left_behind m k x ks ps h =
    filter-append (λ q. not (eq_by_cmp (pair_cmp nat_cmp) (m, k) q)) (at_moment x ks) ps
    ∙ ap (λ qs. qs ++ without_pair (m, k) ps) (none_earlier m k x ks h)

-- ---- the first pair

at_or_after : (n : ℕ) (q : ℕ × ℕ) → n ≤ q.0 → is_le (pair_cmp nat_cmp (n, 0) q) ≡ true
at_or_after n q p =
    elim (nat_cmp n q.0) as (λ r. nat_cmp n q.0 ≡ r → is_le (ordering_then r (nat_cmp 0 q.1)) ≡ true) [
      | Less ↦ λ e. refl
      | Equal ↦ λ e. le_from_cmp 0 q.1 (omega arith)
      | Greater ↦ λ e. absurd (let l : q.0 < n = ranked n q.0 Greater (sym e) in omega arith)
    ] refl

pub first_at_or_after : (n : ℕ) (q : ℕ × ℕ) (qs : Pairs) → n ≤ q.0 → first_pair_from (n, 0) (q ∷ qs) ≡ Some q
first_at_or_after n q qs p = ap (λ b. cond b (Some q) (first_pair_from (n, 0) qs)) (at_or_after n q p)

-- where all are later, the key does not matter
pub first_of_later : (m k : ℕ) (ps : Pairs) → AreLater m ps → first_pair_from (m, k) ps ≡ first_pair_from (m + 1, 0) ps
first_of_later m k [] h = refl
first_of_later m k (q ∷ qs) h =
    ap (λ r. cond (is_le r) (Some q) (first_pair_from (m, k) qs)) (earlier (m, k) q h.0)
    ∙ sym (first_at_or_after (m + 1) q qs (let p : m < q.0 = h.0 in omega arith))

first_earlier : (m k x : ℕ) (ks : List ℕ) → x < m → first_pair_from (m, k) (at_moment x ks) ≡ None
first_earlier m k x [] h = refl
first_earlier m k x (j ∷ js) h =
    ap (λ r. cond (is_le r) (Some (x, j)) (first_pair_from (m, k) (at_moment x js))) (later (m, k) (x, j) h) ∙ first_earlier m k x js h

first_own : (m k : ℕ) (ks : List ℕ) → first_pair_from (m, k) (at_moment m ks) ≡ option_map (λ j. (m, j)) (first_item_from nat_cmp k ks)
first_own m k [] = refl
first_own m k (j ∷ js) =
    ap (λ r. cond (is_le r) (Some (m, j)) (first_pair_from (m, k) (at_moment m js))) (same_moment m k j) ∙ go (is_le (nat_cmp k j)) (first_own m k js)
  where
    go : (b : Bool) → first_pair_from (m, k) (at_moment m js) ≡ option_map (λ j. (m, j)) (first_item_from nat_cmp k js)
        → cond b (Some (m, j)) (first_pair_from (m, k) (at_moment m js)) ≡ option_map (λ j. (m, j)) (cond b (Some j) (first_item_from nat_cmp k js))
    go true rest = refl
    go false rest = rest

pub from_behind : (m k x : ℕ) (ks : List ℕ) (ps : Pairs) → x < m → first_pair_from (m, k) (at_moment x ks ++ ps) ≡ first_pair_from (m, k) ps
from_behind m k x ks ps h =
    find-append (λ q. is_le (pair_cmp nat_cmp (m, k) q)) (at_moment x ks) ps ∙ ap (λ o. option_or o (first_pair_from (m, k) ps)) (first_earlier m k x ks h)

pub from_own : (m k : ℕ) (ks : List ℕ) (ps : Pairs) → AreLater m ps
    → first_pair_from (m, k) (at_moment m ks ++ ps) ≡ option_or (option_map (λ j. (m, j)) (first_item_from nat_cmp k ks)) (first_pair_from (m + 1, 0) (at_moment m ks ++ ps))
from_own m k ks ps h =
    find-append (λ q. is_le (pair_cmp nat_cmp (m, k) q)) (at_moment m ks) ps
    ∙ ap (λ o. option_or o (first_pair_from (m, k) ps)) (first_own m k ks)
    ∙ ap (λ o. option_or (option_map (λ j. (m, j)) (first_item_from nat_cmp k ks)) o) (first_of_later m k ps h ∙ sym (from_behind (m + 1) 0 m ks ps (omega arith)))
