-- Entries whose keys rise within bounds.
use Rattle.std.proofs.Common.{◌≡◌, ℕ, ◌+◌, ◌<◌, ◌≤◌, ◌≢◌, Bool, true, false, cond, not, ◌&&◌, T, List, [], ◌∷◌, ◌++◌, length, Some, None, is_some, refl, sym, ap, subst, ◌∙◌, arith}
use Rattle.std.specs.Ordering.{nat_cmp, eq_by_cmp, is_eq, is_lt}
use Rattle.std.specs.declared.cmp.Ordering.TheVariants.{Less, Equal, Greater}
use Rattle.std.specs.Cmp.{nat_cmp_is, ranked}
use Rattle.std.specs.FinMap.{find, put, is_sorted}
use Rattle.std.specs.FinMap.Entries.{by_order, below_all}
use Rattle.world_table.specs.Branch.{Rises, raised}
use Rattle.world_table.specs.Entries.{without}

pub cmp_less : (k x : ℕ) → k < x → nat_cmp k x ≡ Less
cmp_less k x h = sym (nat_cmp_is k x Less h)

pub cmp_equal : (k x : ℕ) → k ≡ x → nat_cmp k x ≡ Equal
cmp_equal k x h = sym (nat_cmp_is k x Equal h)

pub cmp_greater : (k x : ℕ) → x < k → nat_cmp k x ≡ Greater
cmp_greater k x h = sym (nat_cmp_is k x Greater h)

pub cmp_moved : (n k x : ℕ) → nat_cmp (n + k) (n + x) ≡ nat_cmp k x
cmp_moved n k x =
    elim (nat_cmp k x) as (λ r. nat_cmp k x ≡ r → nat_cmp (n + k) (n + x) ≡ r) [
      | Less ↦ λ e. let h : k < x = ranked k x Less (sym e) in cmp_less (n + k) (n + x) (omega arith)
      | Equal ↦ λ e. let h : k ≡ x = ranked k x Equal (sym e) in cmp_equal (n + k) (n + x) (omega arith)
      | Greater ↦ λ e. let h : x < k = ranked k x Greater (sym e) in cmp_greater (n + k) (n + x) (omega arith)
    ] refl

-- the test that `find` and `without` make
pub eq_by_apart : (k x : ℕ) → k ≢ x → eq_by_cmp nat_cmp k x ≡ false
eq_by_apart k x h =
    elim (nat_cmp k x) as (λ r. nat_cmp k x ≡ r → is_eq r ≡ false) [
      | Less ↦ λ e. refl
      | Equal ↦ λ e. absurd (h (ranked k x Equal (sym e)))
      | Greater ↦ λ e. refl
    ] refl

both : (a b : Bool) → T a → T b → T (a && b)
both true b p q = q
both false b p q = p

module _ {V : Type 0} where
  pub bounds : (low high : ℕ) (es : List (ℕ × V)) → Rises low high es → low ≤ high
  bounds low high [] h = h
  bounds low high (e ∷ es) h = let rest = bounds (e.0 + 1) high es h.1 in let own = h.0 in omega arith

  pub from_lower : (low low' high : ℕ) (es : List (ℕ × V)) → low' ≤ low → Rises low high es → Rises low' high es
  from_lower low low' high [] p h = omega arith
  from_lower low low' high (e ∷ es) p h = let own = h.0 in (omega arith, h.1)

  pub to_higher : (low high high' : ℕ) (es : List (ℕ × V)) → high ≤ high' → Rises low high es → Rises low high' es
  to_higher low high high' [] p h = omega arith
  to_higher low high high' (e ∷ es) p h = (h.0, to_higher (e.0 + 1) high high' es p h.1)

  pub Rises-append : (a b c : ℕ) (xs ys : List (ℕ × V)) → Rises a b xs → Rises b c ys → Rises a c (xs ++ ys)
  Rises-append a b c [] ys g h = from_lower b a c ys g h
  Rises-append a b c (x ∷ xs) ys g h = (g.0, Rises-append (x.0 + 1) b c xs ys g.1 h)

  pub Rises-raised : (n a b : ℕ) (es : List (ℕ × V)) → Rises a b es → Rises (n + a) (n + b) (raised n es)
  Rises-raised n a b [] h = omega arith
  Rises-raised n a b (e ∷ es) h =
      let own = h.0 in
      (omega arith, from_lower (n + (e.0 + 1)) (n + e.0 + 1) (n + b) (raised n es) (omega arith) (Rises-raised n (e.0 + 1) b es h.1))

  pub Rises-put : (a b k : ℕ) (v : V) (es : List (ℕ × V)) → a ≤ k → k < b → Rises a b es → Rises a b (put nat_cmp k v es)
  Rises-put a b k v [] p q h = (p, omega arith)
  Rises-put a b k v (e ∷ es) p q h =
      elim (nat_cmp k e.0) as (λ r. nat_cmp k e.0 ≡ r → Rises a b (by_order r ((k, v) ∷ e ∷ es) ((e.0, v) ∷ es) (e ∷ put nat_cmp k v es))) [
        | Less ↦ λ e'. let l : k < e.0 = ranked k e.0 Less (sym e') in (p, (omega arith, h.1))
        | Equal ↦ λ e'. (h.0, h.1)
        | Greater ↦ λ e'. let l : e.0 < k = ranked k e.0 Greater (sym e') in (h.0, Rises-put (e.0 + 1) b k v es (omega arith) q h.1)
      ] refl

  pub Rises-without : (a b k : ℕ) (es : List (ℕ × V)) → Rises a b es → Rises a b (without k es)
  Rises-without a b k [] h = h
  Rises-without a b k (e ∷ es) h =
      let rest = Rises-without (e.0 + 1) b k es h.1 in
      let own = h.0 in
      elim (not (eq_by_cmp nat_cmp k e.0)) as (λ r. Rises a b (cond r (e ∷ without k es) (without k es))) [
        | true ↦ (h.0, rest)
        | false ↦ from_lower (e.0 + 1) a b (without k es) (omega arith) rest
      ]

  below : (x a b : ℕ) (es : List (ℕ × V)) → x < a → Rises a b es → T (below_all nat_cmp x es)
  below x a b [] p h = tt
  below x a b (e ∷ es) p h =
      let own = h.0 in
      both _ _ (subst (λ r. T (is_lt r)) (sym (cmp_less x e.0 (omega arith))) tt) (below x (e.0 + 1) b es (omega arith) h.1)

  pub sorted : (a b : ℕ) (es : List (ℕ × V)) → Rises a b es → T (is_sorted nat_cmp es)
  sorted a b [] h = tt
  sorted a b (e ∷ es) h = both _ _ (below e.0 (e.0 + 1) b es (omega arith) h.1) (sorted (e.0 + 1) b es h.1)

  pub find_missed : (k : ℕ) (e : ℕ × V) (es : List (ℕ × V)) → k ≢ e.0 → find nat_cmp k (e ∷ es) ≡ find nat_cmp k es
  find_missed k e es h = ap (λ b. cond b (Some e.1) (find nat_cmp k es)) (eq_by_apart k e.0 h)

  pub find_below : (k a b : ℕ) (es : List (ℕ × V)) → k < a → Rises a b es → find nat_cmp k es ≡ None
  find_below k a b [] p h = refl
  find_below k a b (e ∷ es) p h =
      let own = h.0 in
      find_missed k e es (omega arith) ∙ find_below k (e.0 + 1) b es (omega arith) h.1

  pub find_above : (k a b : ℕ) (es : List (ℕ × V)) → b ≤ k → Rises a b es → find nat_cmp k es ≡ None
  find_above k a b [] p h = refl
  find_above k a b (e ∷ es) p h =
      let most = bounds (e.0 + 1) b es h.1 in
      find_missed k e es (omega arith) ∙ find_above k (e.0 + 1) b es p h.1

  pub find_before : (k a b : ℕ) (xs ys : List (ℕ × V)) → k < a → Rises a b ys → find nat_cmp k (xs ++ ys) ≡ find nat_cmp k xs
  find_before k a b [] ys p h = find_below k a b ys p h
  find_before k a b (x ∷ xs) ys p h = ap (cond (eq_by_cmp nat_cmp k x.0) (Some x.1)) (find_before k a b xs ys p h)

  pub find_after : (k a b : ℕ) (xs ys : List (ℕ × V)) → b ≤ k → Rises a b xs → find nat_cmp k (xs ++ ys) ≡ find nat_cmp k ys
  find_after k a b [] ys p h = refl
  find_after k a b (x ∷ xs) ys p h =
      let most = bounds (x.0 + 1) b xs h.1 in
      find_missed k x (xs ++ ys) (omega arith) ∙ find_after k (x.0 + 1) b xs ys p h.1

  pub find-raised : (n k : ℕ) (es : List (ℕ × V)) → find nat_cmp (n + k) (raised n es) ≡ find nat_cmp k es
  find-raised n k [] = refl
  find-raised n k (e ∷ es) = λ i. cond (is_eq (cmp_moved n k e.0 i)) (Some e.1) (find-raised n k es i)

  pub put_below : (k a b : ℕ) (v : V) (es : List (ℕ × V)) → k < a → Rises a b es → put nat_cmp k v es ≡ (k, v) ∷ es
  put_below k a b v [] p h = refl
  put_below k a b v (e ∷ es) p h =
      let own = h.0 in
      ap (λ r. by_order r ((k, v) ∷ e ∷ es) ((e.0, v) ∷ es) (e ∷ put nat_cmp k v es)) (cmp_less k e.0 (omega arith))

  pub put_after : (k a b : ℕ) (v : V) (xs ys : List (ℕ × V)) → b ≤ k → Rises a b xs → put nat_cmp k v (xs ++ ys) ≡ xs ++ put nat_cmp k v ys
  put_after k a b v [] ys p h = refl
  put_after k a b v (x ∷ xs) ys p h =
      let most = bounds (x.0 + 1) b xs h.1 in
      ap (λ r. by_order r ((k, v) ∷ x ∷ (xs ++ ys)) ((x.0, v) ∷ (xs ++ ys)) (x ∷ put nat_cmp k v (xs ++ ys))) (cmp_greater k x.0 (omega arith))
      ∙ ap (λ es. x ∷ es) (put_after k (x.0 + 1) b v xs ys p h.1)

  pub put_before : (k a b : ℕ) (v : V) (xs ys : List (ℕ × V)) → k < a → Rises a b ys → put nat_cmp k v (xs ++ ys) ≡ put nat_cmp k v xs ++ ys
  put_before k a b v [] ys p h = put_below k a b v ys p h
  put_before k a b v (x ∷ xs) ys p h =
      elim (nat_cmp k x.0) as (λ r. by_order r ((k, v) ∷ x ∷ (xs ++ ys)) ((x.0, v) ∷ (xs ++ ys)) (x ∷ put nat_cmp k v (xs ++ ys)) ≡ by_order r ((k, v) ∷ x ∷ xs) ((x.0, v) ∷ xs) (x ∷ put nat_cmp k v xs) ++ ys) [
        | Less ↦ refl
        | Equal ↦ refl
        | Greater ↦ ap (λ es. x ∷ es) (put_before k a b v xs ys p h)
      ]

  pub put-raised : (n k : ℕ) (v : V) (es : List (ℕ × V)) → put nat_cmp (n + k) v (raised n es) ≡ raised n (put nat_cmp k v es)
  put-raised n k v [] = refl
  put-raised n k v (e ∷ es) =
      ap (λ r. by_order r ((n + k, v) ∷ raised n (e ∷ es)) ((n + e.0, v) ∷ raised n es) ((n + e.0, e.1) ∷ put nat_cmp (n + k) v (raised n es))) (cmp_moved n k e.0)
      ∙ elim (nat_cmp k e.0) as (λ r. by_order r ((n + k, v) ∷ raised n (e ∷ es)) ((n + e.0, v) ∷ raised n es) ((n + e.0, e.1) ∷ put nat_cmp (n + k) v (raised n es)) ≡ raised n (by_order r ((k, v) ∷ e ∷ es) ((e.0, v) ∷ es) (e ∷ put nat_cmp k v es))) [
        | Less ↦ refl
        | Equal ↦ refl
        | Greater ↦ ap (λ es. (n + e.0, e.1) ∷ es) (put-raised n k v es)
      ]

  without_missed : (k : ℕ) (e : ℕ × V) (es : List (ℕ × V)) → k ≢ e.0 → without k (e ∷ es) ≡ e ∷ without k es
  without_missed k e es h = ap (λ b. cond (not b) (e ∷ without k es) (without k es)) (eq_by_apart k e.0 h)

  pub without_below : (k a b : ℕ) (es : List (ℕ × V)) → k < a → Rises a b es → without k es ≡ es
  without_below k a b [] p h = refl
  without_below k a b (e ∷ es) p h =
      let own = h.0 in
      without_missed k e es (omega arith) ∙ ap (λ es. e ∷ es) (without_below k (e.0 + 1) b es (omega arith) h.1)

  pub without_before : (k a b : ℕ) (xs ys : List (ℕ × V)) → k < a → Rises a b ys → without k (xs ++ ys) ≡ without k xs ++ ys
  without_before k a b [] ys p h = without_below k a b ys p h
  without_before k a b (x ∷ xs) ys p h =
      elim (not (eq_by_cmp nat_cmp k x.0)) as (λ r. cond r (x ∷ without k (xs ++ ys)) (without k (xs ++ ys)) ≡ cond r (x ∷ without k xs) (without k xs) ++ ys) [
        | true ↦ ap (λ es. x ∷ es) (without_before k a b xs ys p h)
        | false ↦ without_before k a b xs ys p h
      ]

  pub without_after : (k a b : ℕ) (xs ys : List (ℕ × V)) → b ≤ k → Rises a b xs → without k (xs ++ ys) ≡ xs ++ without k ys
  without_after k a b [] ys p h = refl
  without_after k a b (x ∷ xs) ys p h =
      let most = bounds (x.0 + 1) b xs h.1 in
      without_missed k x (xs ++ ys) (omega arith) ∙ ap (λ es. x ∷ es) (without_after k (x.0 + 1) b xs ys p h.1)

  pub without-raised : (n k : ℕ) (es : List (ℕ × V)) → without (n + k) (raised n es) ≡ raised n (without k es)
  without-raised n k [] = refl
  without-raised n k (e ∷ es) =
      ap (λ r. cond (not (is_eq r)) ((n + e.0, e.1) ∷ without (n + k) (raised n es)) (without (n + k) (raised n es))) (cmp_moved n k e.0)
      ∙ elim (eq_by_cmp nat_cmp k e.0) as (λ r. cond (not r) ((n + e.0, e.1) ∷ without (n + k) (raised n es)) (without (n + k) (raised n es)) ≡ raised n (cond (not r) (e ∷ without k es) (without k es))) [
        | true ↦ without-raised n k es
        | false ↦ ap (λ es. (n + e.0, e.1) ∷ es) (without-raised n k es)
      ]

  pub length_within : (a b : ℕ) (es : List (ℕ × V)) → Rises a b es → a + length es ≤ b
  length_within a b [] h = omega arith
  length_within a b (e ∷ es) h = let rest = length_within (e.0 + 1) b es h.1 in let own = h.0 in omega arith

  pub without_absent : (key : ℕ) (es : List (ℕ × V)) → find nat_cmp key es ≡ None → without key es ≡ es
  without_absent key [] h = refl
  without_absent key (e ∷ es) h =
      elim (eq_by_cmp nat_cmp key e.0) as (λ b. cond b (Some e.1) (find nat_cmp key es) ≡ None → cond (not b) (e ∷ without key es) (without key es) ≡ e ∷ es) [
        | true ↦ λ f. absurd (subst T (ap is_some f) tt)
        | false ↦ λ f. ap (λ rest. e ∷ rest) (without_absent key es f)
      ] h
