-- The keys of a table's entries.
use Rattle.std.proofs.Common.{◌≡◌, ℕ, ◌<◌, ◌≤◌, Bool, true, false, cond, not, ◌&&◌, T, IsTrue, List, [], ◌∷◌, map, Option, Some, None, is_some, option_map, refl, sym, ap, subst, ◌∙◌, arith, nat_le, Ordering, Less, Equal, Greater}
use Rattle.std.specs.Bool.{OnTrue, OnFalse}
use Rattle.std.specs.Ordering.{nat_cmp, eq_by_cmp, is_le, is_lt, is_eq}
use Rattle.std.specs.Cmp.{ranked}
use Rattle.std.specs.FinMap.{find, put, is_sorted}
use Rattle.std.specs.FinMap.Entries.{by_order, below_all}
use Rattle.std.proofs.lemmas.Bool.Decides.{nat_tests}
use Rattle.world_table.specs.Entries.{without, first_from}
use Rattle.world_table.proofs.Rising.{eq_by_apart}
use Rattle.due_table.specs.Order.{with_item, without_item, first_item_from}
use Rattle.due_table.proofs.Ranked.{le_from_cmp, gt_from_cmp}

abbrev pub Entries : Type 0
Entries = List (ℕ × Unit {0})

abbrev pub keys : Entries → List ℕ
keys = map (λ e. e.0)

pub keys_put : (k : ℕ) (u : Unit {0}) (es : Entries) → keys (put nat_cmp k u es) ≡ with_item nat_cmp k (keys es)
keys_put k u [] = refl
keys_put k u (e ∷ es) = go (nat_cmp k e.0) (keys_put k u es)
  where
    go : (r : Ordering) → keys (put nat_cmp k u es) ≡ with_item nat_cmp k (keys es)
        → keys (by_order r ((k, u) ∷ e ∷ es) ((e.0, u) ∷ es) (e ∷ put nat_cmp k u es)) ≡ by_order r (k ∷ keys (e ∷ es)) (keys (e ∷ es)) (e.0 ∷ with_item nat_cmp k (keys es))
    go Less rest = refl
    go Equal rest = refl
    go Greater rest = ap (λ ks. e.0 ∷ ks) rest

pub keys_left : (k : ℕ) (es : Entries) → keys (without k es) ≡ without_item nat_cmp k (keys es)
keys_left k [] = refl
keys_left k (e ∷ es) = go (not (eq_by_cmp nat_cmp k e.0)) (keys_left k es)
  where
    go : (b : Bool) → keys (without k es) ≡ without_item nat_cmp k (keys es)
        → keys (cond b (e ∷ without k es) (without k es)) ≡ cond b (e.0 ∷ without_item nat_cmp k (keys es)) (without_item nat_cmp k (keys es))
    go true rest = ap (λ ks. e.0 ∷ ks) rest
    go false rest = rest

le_same : (k x : ℕ) → nat_le k x ≡ is_le (nat_cmp k x)
le_same k x =
    elim (nat_le k x) as (λ b. nat_le k x ≡ b → b ≡ is_le (nat_cmp k x)) [
      | true ↦ λ e. let p : k ≤ x = grind (arith, nat_tests) in sym (le_from_cmp k x p)
      | false ↦ λ e. let p : x < k = grind (arith, nat_tests) in sym (gt_from_cmp k x p)
    ] refl

pub keys_from : (k : ℕ) (es : Entries) → option_map (λ e. e.0) (first_from k es) ≡ first_item_from nat_cmp k (keys es)
keys_from k [] = refl
keys_from k (e ∷ es) = ap (λ b. option_map (λ (e : ℕ × Unit {0}). e.0) (cond b (Some e) (first_from k es))) (le_same k e.0) ∙ go (is_le (nat_cmp k e.0)) (keys_from k es)
  where
    go : (b : Bool) → option_map (λ e. e.0) (first_from k es) ≡ first_item_from nat_cmp k (keys es)
        → option_map (λ e. e.0) (cond b (Some e) (first_from k es)) ≡ cond b (Some e.0) (first_item_from nat_cmp k (keys es))
    go true rest = refl
    go false rest = rest

first_of : (a b : Bool) → T (a && b) → T a
first_of true b p = tt
first_of false b p = p

second_of : (a b : Bool) → T (a && b) → T b
second_of true b p = p
second_of false b p = absurd p

above : (k x : ℕ) → T (is_lt (nat_cmp k x)) → k < x
above k x h =
    elim (nat_cmp k x) as (λ r. nat_cmp k x ≡ r → T (is_lt r) → k < x) [
      | Less ↦ λ e p. ranked k x Less (sym e)
      | Equal ↦ λ e p. absurd p
      | Greater ↦ λ e p. absurd p
    ] refl h

not_found : (k x : ℕ) (es : Entries) → k < x → T (below_all nat_cmp x es) → find nat_cmp k es ≡ None
not_found k x [] p h = refl
not_found k x (e ∷ es) p h =
    let q = above x e.0 (first_of _ _ h) in
    ap (λ b. cond b (Some e.1) (find nat_cmp k es)) (eq_by_apart k e.0 (omega arith)) ∙ not_found k x es p (second_of _ _ h)

pub key_there : (k : ℕ) (es : Entries) → T (is_sorted nat_cmp es) → T (is_some (find nat_cmp k es)) → with_item nat_cmp k (keys es) ≡ keys es
key_there k [] h found = absurd found
key_there k (e ∷ es) h found =
    elim (nat_cmp k e.0) as (λ r. nat_cmp k e.0 ≡ r → T (is_some (cond (is_eq r) (Some e.1) (find nat_cmp k es))) → by_order r (k ∷ keys (e ∷ es)) (keys (e ∷ es)) (e.0 ∷ with_item nat_cmp k (keys es)) ≡ keys (e ∷ es)) [
      | Less ↦ λ r f. absurd (subst (λ o. T (is_some o)) (not_found k e.0 es (ranked k e.0 Less (sym r)) (first_of _ _ h)) f)
      | Equal ↦ λ r f. refl
      | Greater ↦ λ r f. ap (λ ks. e.0 ∷ ks) (key_there k es (second_of _ _ h) f)
    ] refl found

pub key_absent : (k : ℕ) (es : Entries) → is_some (find nat_cmp k es) ≡ false → without_item nat_cmp k (keys es) ≡ keys es
key_absent k [] none = refl
key_absent k (e ∷ es) none =
    elim (eq_by_cmp nat_cmp k e.0) as (λ b. is_some (cond b (Some e.1) (find nat_cmp k es)) ≡ false → cond (not b) (e.0 ∷ without_item nat_cmp k (keys es)) (without_item nat_cmp k (keys es)) ≡ keys (e ∷ es)) [
      | true ↦ λ f. absurd (subst T f tt)
      | false ↦ λ f. ap (λ ks. e.0 ∷ ks) (key_absent k es f)
    ] none

pub is_some-now : {A B : Type 0} (f : A → B) (o : Option A) → is_some (option_map f o) ≡ is_some o
is_some-now f None = refl
is_some-now f (Some x) = refl

pub tells_there : (k : ℕ) (es : Entries) (b : Bool) → b ≡ is_some (find nat_cmp k es) → IsTrue (is_sorted nat_cmp es) → OnTrue b (with_item nat_cmp k (keys es) ≡ keys es)
tells_there k es true is h = key_there k es (subst T (sym h) tt) (subst T is tt)
tells_there k es false is h = tt

pub tells_absent : (k : ℕ) (es : Entries) (b : Bool) → b ≡ is_some (find nat_cmp k es) → OnFalse b (without_item nat_cmp k (keys es) ≡ keys es)
tells_absent k es true is = tt
tells_absent k es false is = key_absent k es (sym is)
