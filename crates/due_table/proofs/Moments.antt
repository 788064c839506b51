-- What a change of one moment's keys makes of the pairs.
use Rattle.std.proofs.Common.{◌≡◌, ℕ, ◌+◌, ◌<◌, Bool, true, false, cond, not, T, List, [], ◌∷◌, ◌++◌, length, Option, Some, None, is_some, unwrap_or, Result, Ok, Err, IfOk, refl, sym, ap, subst, ◌∙◌, arith, Ordering, Less, Equal, Greater}
use Rattle.std.specs.List.{AllByRecursion}
use Rattle.std.specs.Ordering.{nat_cmp, eq_by_cmp, is_eq}
use Rattle.std.specs.Cmp.{ranked}
use Rattle.std.specs.FinMap.{find, put}
use Rattle.std.specs.FinMap.Entries.{by_order}
use Rattle.world_table.specs.Branch.{Rises}
use Rattle.world_table.specs.Contents.{Contents}
use Rattle.world_table.specs.Entries.{without}
use Rattle.world_table.proofs.Rising.{without_absent}
use Rattle.world_table.proofs.Rising.{find_below, without_below}
use Rattle.due_table.specs.Order.{with_item, without_item}
use Rattle.due_table.specs.Pairs.{with_pair, without_pair}
use Rattle.due_table.specs.Held.{AreKeys, IsSound, at_moment, pairs_of, keys_at, kept_at}
use Rattle.due_table.proofs.Later.{pairs_later, put_first, put_own, put_behind, none_later, left_own, left_behind}

abbrev Moments : Type 0
Moments = List (ℕ × List ℕ)

-- the keys that are found at a moment, by how it stands to the first
abbrev pub found_at : Ordering → ℕ × List ℕ → List ℕ → List ℕ
found_at Less e ks = ks
found_at Equal e ks = e.1
found_at Greater e ks = ks

pub found : (m : ℕ) (e : ℕ × List ℕ) (es : Moments) (r : Ordering) → nat_cmp m e.0 ≡ r → keys_at m (e ∷ es) ≡ found_at r e (keys_at m es)
found m e es Less h = ap (λ r. unwrap_or (cond (is_eq r) (Some e.1) (find nat_cmp m es)) []) h
found m e es Equal h = ap (λ r. unwrap_or (cond (is_eq r) (Some e.1) (find nat_cmp m es)) []) h
found m e es Greater h = ap (λ r. unwrap_or (cond (is_eq r) (Some e.1) (find nat_cmp m es)) []) h

put_by : (m : ℕ) (ks : List ℕ) (e : ℕ × List ℕ) (es : Moments) (r : Ordering) → nat_cmp m e.0 ≡ r → put nat_cmp m ks (e ∷ es) ≡ by_order r ((m, ks) ∷ e ∷ es) ((e.0, ks) ∷ es) (e ∷ put nat_cmp m ks es)
put_by m ks e es r h = ap (λ r. by_order r ((m, ks) ∷ e ∷ es) ((e.0, ks) ∷ es) (e ∷ put nat_cmp m ks es)) h

pub none_below : (m low high : ℕ) (es : Moments) → m < low → Rises low high es → keys_at m es ≡ []
none_below m low high es p h = ap (λ o. unwrap_or o []) (find_below m low high es p h)

pub pairs_with : (low high m k : ℕ) (es : Moments) → Rises low high es → pairs_of (put nat_cmp m (with_item nat_cmp k (keys_at m es)) es) ≡ with_pair (m, k) (pairs_of es)
pairs_with low high m k [] h = refl
pairs_with low high m k (e ∷ es) h =
    elim (nat_cmp m e.0) as (λ r. nat_cmp m e.0 ≡ r → pairs_of (put nat_cmp m (with_item nat_cmp k (keys_at m (e ∷ es))) (e ∷ es)) ≡ with_pair (m, k) (pairs_of (e ∷ es))) [
      | Less ↦ λ r.
          let p : m < e.0 = ranked m e.0 Less (sym r) in
          put_at Less r (found m e es Less r ∙ none_below m (e.0 + 1) high es (omega arith) h.1)
          ∙ sym (put_first m k (pairs_of (e ∷ es)) (pairs_later m e.0 high (e ∷ es) p (omega arith, h.1)))
      | Equal ↦ λ r.
          let p : m ≡ e.0 = ranked m e.0 Equal (sym r) in
          put_at Equal r (found m e es Equal r)
          ∙ subst (λ (x : ℕ). at_moment x (with_item nat_cmp k e.1) ++ pairs_of es ≡ with_pair (m, k) (at_moment x e.1 ++ pairs_of es)) p (sym (put_own m k e.1 (pairs_of es) (pairs_later m (e.0 + 1) high es (omega arith) h.1)))
      | Greater ↦ λ r.
          let p : e.0 < m = ranked m e.0 Greater (sym r) in
          put_at Greater r (found m e es Greater r)
          ∙ ap (λ ps. at_moment e.0 e.1 ++ ps) (pairs_with (e.0 + 1) high m k es h.1)
          ∙ sym (put_behind m k e.0 e.1 (pairs_of es) p)
    ] refl
  where
    put_at : (r : Ordering) → nat_cmp m e.0 ≡ r → {ks : List ℕ} → keys_at m (e ∷ es) ≡ ks
        → pairs_of (put nat_cmp m (with_item nat_cmp k (keys_at m (e ∷ es))) (e ∷ es)) ≡ pairs_of (by_order r ((m, with_item nat_cmp k ks) ∷ e ∷ es) ((e.0, with_item nat_cmp k ks) ∷ es) (e ∷ put nat_cmp m (with_item nat_cmp k ks) es))
    put_at r is {ks} e' = ap (λ ks. pairs_of (put nat_cmp m (with_item nat_cmp k ks) (e ∷ es))) e' ∙ ap pairs_of (put_by m (with_item nat_cmp k ks) e es r is)

-- ---- a moment of which a key goes

kept_before : (m : ℕ) (ks : List ℕ) (e : ℕ × List ℕ) (es : Moments) → nat_cmp m e.0 ≡ Greater → kept_at m ks (e ∷ es) ≡ e ∷ kept_at m ks es
kept_before m [] e es h = ap (λ r. cond (not (is_eq r)) (e ∷ without m es) (without m es)) h
kept_before m (k ∷ ks) e es h = put_by m (k ∷ ks) e es Greater h

kept_own : (m high : ℕ) (ks : List ℕ) (e : ℕ × List ℕ) (es : Moments) → nat_cmp m e.0 ≡ Equal → m < e.0 + 1 → Rises (e.0 + 1) high es → pairs_of (kept_at m ks (e ∷ es)) ≡ at_moment e.0 ks ++ pairs_of es
kept_own m high [] e es h p rises = ap (λ r. pairs_of (cond (not (is_eq r)) (e ∷ without m es) (without m es))) h ∙ ap pairs_of (without_below m (e.0 + 1) high es p rises)
kept_own m high (k ∷ ks) e es h p rises = ap pairs_of (put_by m (k ∷ ks) e es Equal h)

pub pairs_without : (low high m k : ℕ) (es : Moments) → Rises low high es → pairs_of (kept_at m (without_item nat_cmp k (keys_at m es)) es) ≡ without_pair (m, k) (pairs_of es)
pairs_without low high m k [] h = refl
pairs_without low high m k (e ∷ es) h =
    elim (nat_cmp m e.0) as (λ r. nat_cmp m e.0 ≡ r → pairs_of (kept_at m (without_item nat_cmp k (keys_at m (e ∷ es))) (e ∷ es)) ≡ without_pair (m, k) (pairs_of (e ∷ es))) [
      | Less ↦ λ r.
          let p : m < e.0 = ranked m e.0 Less (sym r) in
          keys_are (found m e es Less r ∙ none_below m (e.0 + 1) high es (omega arith) h.1)
          ∙ ap pairs_of (without_below m e.0 high (e ∷ es) p (omega arith, h.1))
          ∙ sym (none_later m k (pairs_of (e ∷ es)) (pairs_later m e.0 high (e ∷ es) p (omega arith, h.1)))
      | Equal ↦ λ r.
          let p : m ≡ e.0 = ranked m e.0 Equal (sym r) in
          keys_are (found m e es Equal r)
          ∙ kept_own m high (without_item nat_cmp k e.1) e es r (omega arith) h.1
          ∙ subst (λ (x : ℕ). at_moment x (without_item nat_cmp k e.1) ++ pairs_of es ≡ without_pair (m, k) (at_moment x e.1 ++ pairs_of es)) p (sym (left_own m k e.1 (pairs_of es) (pairs_later m (e.0 + 1) high es (omega arith) h.1)))
      | Greater ↦ λ r.
          let p : e.0 < m = ranked m e.0 Greater (sym r) in
          keys_are (found m e es Greater r)
          ∙ ap pairs_of (kept_before m (without_item nat_cmp k (keys_at m es)) e es r)
          ∙ ap (λ ps. at_moment e.0 e.1 ++ ps) (pairs_without (e.0 + 1) high m k es h.1)
          ∙ sym (left_behind m k e.0 e.1 (pairs_of es) p)
    ] refl
  where
    keys_are : {ks : List ℕ} → keys_at m (e ∷ es) ≡ ks → pairs_of (kept_at m (without_item nat_cmp k (keys_at m (e ∷ es))) (e ∷ es)) ≡ pairs_of (kept_at m (without_item nat_cmp k ks) (e ∷ es))
    keys_are e' = ap (λ ks. pairs_of (kept_at m (without_item nat_cmp k ks) (e ∷ es))) e'

-- ---- changes that change nothing

unwrapped : {X : Type 0} (x y : X) → Some x ≡ Some y → x ≡ y
unwrapped x y e = ap (λ o. unwrap_or o x) e

not_both : {X : Type 0} (x : X) (o : Option X) → o ≡ None → o ≡ Some x → ⊥
not_both x o none some = subst T (ap is_some (sym some ∙ none)) tt

put_same : (low high m : ℕ) (ks : List ℕ) (es : Moments) → Rises low high es → find nat_cmp m es ≡ Some ks → put nat_cmp m ks es ≡ es
put_same low high m ks [] h is = absurd (not_both ks None refl is)
put_same low high m ks (e ∷ es) h is =
    elim (nat_cmp m e.0) as (λ r. nat_cmp m e.0 ≡ r → cond (is_eq r) (Some e.1) (find nat_cmp m es) ≡ Some ks → by_order r ((m, ks) ∷ e ∷ es) ((e.0, ks) ∷ es) (e ∷ put nat_cmp m ks es) ≡ e ∷ es) [
      | Less ↦ λ r f. let p : m < e.0 = ranked m e.0 Less (sym r) in absurd (not_both ks (find nat_cmp m es) (find_below m (e.0 + 1) high es (omega arith) h.1) f)
      | Equal ↦ λ r f. ap (λ ks. (e.0, ks) ∷ es) (sym (unwrapped e.1 ks f))
      | Greater ↦ λ r f. ap (λ es. e ∷ es) (put_same (e.0 + 1) high m ks es h.1 f)
    ] refl is

pub with_there : (m k : ℕ) (ks : List ℕ) (es : Moments) → IsSound es → find nat_cmp m es ≡ Some ks → with_item nat_cmp k ks ≡ ks → put nat_cmp m (with_item nat_cmp k (keys_at m es)) es ≡ es
with_there m k ks es h is there =
    ap (λ o. put nat_cmp m (with_item nat_cmp k (unwrap_or o [])) es) is ∙ ap (λ js. put nat_cmp m js es) there ∙ put_same 0 4294967296 m ks es h.0 is

keys_found : (m : ℕ) (ks : List ℕ) (es : Moments) → AllByRecursion (λ e. AreKeys e.1) es → find nat_cmp m es ≡ Some ks → AreKeys ks
keys_found m ks [] h is = absurd (not_both ks None refl is)
keys_found m ks (e ∷ es) h is = go (eq_by_cmp nat_cmp m e.0) is (keys_found m ks es h.1)
  where
    go : (b : Bool) → cond b (Some e.1) (find nat_cmp m es) ≡ Some ks → (find nat_cmp m es ≡ Some ks → AreKeys ks) → AreKeys ks
    go true f rest = subst AreKeys (unwrapped e.1 ks f) h.0
    go false f rest = rest f

kept_same : (m : ℕ) (ks : List ℕ) (es : Moments) → 0 < length ks → put nat_cmp m ks es ≡ es → kept_at m ks es ≡ es
kept_same m [] es p h = absurd (omega arith)
kept_same m (k ∷ ks) es p h = h

pub kept_there : (m k : ℕ) (ks : List ℕ) (es : Moments) → IsSound es → find nat_cmp m es ≡ Some ks → without_item nat_cmp k ks ≡ ks → kept_at m (without_item nat_cmp k (keys_at m es)) es ≡ es
kept_there m k ks es h is there =
    ap (λ o. kept_at m (without_item nat_cmp k (unwrap_or o [])) es) is
    ∙ ap (λ js. kept_at m js es) there
    ∙ kept_same m ks es (keys_found m ks es h.1 is).some (put_same 0 4294967296 m ks es h.0 is)

pub kept_none : (m k : ℕ) (es : Moments) → find nat_cmp m es ≡ None → kept_at m (without_item nat_cmp k (keys_at m es)) es ≡ es
kept_none m k es none = ap (λ o. kept_at m (without_item nat_cmp k (unwrap_or o [])) es) none ∙ without_absent m es none

pub kept_some : (m : ℕ) (ks : List ℕ) (es : Moments) → 0 < length ks → put nat_cmp m ks es ≡ kept_at m ks es
kept_some m [] es p = absurd (omega arith)
kept_some m (k ∷ ks) es p = refl

-- a table that is shared in place of a changed one
pub shared : {E : Type 0} (r : Result (Contents (List ℕ)) E) (t : Contents (List ℕ)) (es : Moments) → es ≡ t.entries → IfOk r (λ s. s ≡ t) → IfOk r (λ s. s.entries ≡ es)
shared (Ok s) t es is h = ap (λ (s : Contents (List ℕ)). s.entries) h ∙ sym is
shared (Err e) t es is h = tt
