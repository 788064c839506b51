-- Values of kinds.
use Rattle.std.proofs.Common.{◌≡◌, ℕ, zero, suc, ◌<◌, ◌≤◌, true, List, [], ◌∷◌, ◌++◌, length, take, drop, replicate, Some, IsTrue, refl, arith, slice_get, get_or, ap, sym, ℤ, pos, negsuc}
use Rattle.std.specs.Int.{FitsUnsignedBits}
use Rattle.std.specs.Prelude.{unsigned_abs}
use Rattle.std.proofs.lemmas.Bool.{le-leb}
use Rattle.spec_value.specs.Datum.{Datum, integer, list, item, of_list}
use Rattle.spec_value.proofs.Entries.{first_holds, second_holds, both_hold}
use Rattle.spec_program.specs.Place.{Kind, any_value, any_list, walks_list, codes_kind, arm_kinds}
use Rattle.spec_world.specs.WellFormed.{kind_fits, kinds_fit, held_fits, count, is_traced, are_traced, nonempty, tells_leaving}
use Rattle.moo_tree.specs.ExpressionView.{codes_of}
use Rattle.moo_tree.specs.StatementView.{arms_of}
use Rattle.moo_tree.specs.declared.statement.Arm.{Arm}

pub any_fit : (n : ℕ) (vs : List Datum) → length vs ≡ n → IsTrue (kinds_fit (replicate n any_value) vs)
any_fit zero [] h = refl
any_fit zero (v ∷ vs) h = absurd (omega arith)
any_fit (suc n) [] h = absurd (omega arith)
any_fit (suc n) (v ∷ vs) h = any_fit n vs (omega arith)

-- values of kinds, and one more
pub kinds_and_one : (ks : List Kind) (k : Kind) (vs : List Datum) (v : Datum) → IsTrue (kinds_fit ks vs) → IsTrue (kind_fits k v) → IsTrue (kinds_fit (ks ++ k ∷ []) (vs ++ v ∷ []))
kinds_and_one [] k [] v h g = both_hold (kind_fits k v) true g refl
kinds_and_one [] k (w ∷ vs) v h g = absurd (cc)
kinds_and_one (j ∷ ks) k [] v h g = absurd (cc)
kinds_and_one (j ∷ ks) k (w ∷ vs) v h g = both_hold (kind_fits j w) _ (first_holds (kind_fits j w) _ h) (kinds_and_one ks k vs v (second_holds (kind_fits j w) _ h) g)

-- a list is what is before its last item, and that
pub last_apart : (vs : List Datum) (n : ℕ) (v : Datum) → length vs ≡ suc n → slice_get vs n ≡ Some v → vs ≡ take n vs ++ v ∷ []
last_apart [] n v h e = absurd (omega arith)
last_apart (w ∷ []) zero v h e = cc
last_apart (w ∷ u ∷ vs) zero v h e = absurd (omega arith)
last_apart (w ∷ vs) (suc n) v h e = let rest = last_apart vs n v (omega arith) e in cc

pub length_before : (vs : List Datum) (n : ℕ) → length vs ≡ suc n → length (take n vs) ≡ n
length_before [] n h = absurd (omega arith)
length_before (v ∷ vs) zero h = refl
length_before (v ∷ vs) (suc n) h = let rest = length_before vs n (omega arith) in omega arith

pub any_and_list : (n : ℕ) (vs : List Datum) (v : Datum) → length vs ≡ suc n → slice_get vs n ≡ Some v → IsTrue (kind_fits any_list v)
    → IsTrue (kinds_fit (replicate n any_value ++ any_list ∷ []) vs)
any_and_list n vs v h e g =
    rw (last_apart vs n v h e) (kinds_and_one (replicate n any_value) any_list (take n vs) v (any_fit n (take n vs) (length_before vs n h)) g)

pub kinds_and_list : (ks : List Kind) (n : ℕ) (vs : List Datum) (v : Datum) → length vs ≡ suc n → slice_get vs n ≡ Some v → IsTrue (kind_fits any_list v) → IsTrue (kinds_fit ks (take n vs))
    → IsTrue (kinds_fit (ks ++ any_list ∷ []) vs)
kinds_and_list ks n vs v h e g f = rw (last_apart vs n v h e) (kinds_and_one ks any_list (take n vs) v f g)

pub codes_fit : (k : Kind) (vs : List Datum) (v : Datum) → length vs ≡ 1 → slice_get vs 0 ≡ Some v → IsTrue (kind_fits k v) → IsTrue (kinds_fit (k ∷ []) vs)
codes_fit k [] v h e g = absurd (omega arith)
codes_fit k (w ∷ []) v h e g = let same : w ≡ v = cc in rw same (both_hold (kind_fits k v) true g refl)
codes_fit k (w ∷ u ∷ vs) v h e g = absurd (omega arith)

pub counted : (vs : List Datum) → count (of_list vs) ≡ length vs
counted [] = refl
counted (v ∷ vs) = let rest = counted vs in omega arith

pub two_apart : (vs : List Datum) (v w : Datum) → length vs ≡ 2 → v ≡ get_or vs 0 v → w ≡ get_or vs 1 w → vs ≡ v ∷ w ∷ []
two_apart [] v w h e g = absurd (omega arith)
two_apart (x ∷ []) v w h e g = absurd (omega arith)
two_apart (x ∷ y ∷ []) v w h e g = cc
two_apart (x ∷ y ∷ z ∷ vs) v w h e g = absurd (omega arith)

pub one_apart : (vs : List Datum) (v : Datum) → length vs ≡ 1 → v ≡ get_or vs 0 v → vs ≡ v ∷ []
one_apart [] v h e = absurd (omega arith)
one_apart (x ∷ []) v h e = cc
one_apart (x ∷ y ∷ vs) v h e = absurd (omega arith)

pub walk_holds : (vs : List Datum) (n : ℕ) → 1 ≤ n → n ≤ length vs → (around : ℕ) → IsTrue (held_fits around walks_list (list (of_list vs) ∷ integer (pos n) ∷ []))
walk_holds vs n low high around =
    let total = counted vs in
    both_hold _ _ (le-leb 1 n low) (le-leb n (count (of_list vs)) (omega arith))

-- ---- one more at an index

pub values_from : (vs : List Datum) (i j : ℕ) (v : Datum) → slice_get vs i ≡ Some v → j ≡ suc i → drop i vs ≡ v ∷ drop j vs
values_from [] i j v h e = absurd (cc)
values_from (x ∷ vs) zero j v h e = let same : x ≡ v = cc in rw (e, same) refl
values_from (x ∷ vs) (suc i) j v h e = rw e (values_from vs i (suc i) v h refl)

pub arms_step : (arms : List Arm) (vs : List Datum) (i j : ℕ) (a : Arm) (v : Datum) → drop i arms ≡ a ∷ drop j arms → drop i vs ≡ v ∷ drop j vs
    → IsTrue (kind_fits (codes_kind (codes_of a.codes)) v) → IsTrue (kinds_fit (arm_kinds (arms_of (drop j arms))) (drop j vs))
    → IsTrue (kinds_fit (arm_kinds (arms_of (drop i arms))) (drop i vs))
arms_step arms vs i j a v e g one h = rw (e, g) (both_hold (kind_fits (codes_kind (codes_of a.codes)) v) _ one h)

pub trace_step : (vs : List Datum) (i j : ℕ) (v : Datum) → drop i vs ≡ v ∷ drop j vs → IsTrue (is_traced v) → IsTrue (are_traced (of_list (drop j vs))) → IsTrue (are_traced (of_list (drop i vs)))
trace_step vs i j v e one h = rw e (both_hold (is_traced v) _ one h)

pub nonempty_list : (vs : List Datum) → 0 < length vs → IsTrue (nonempty (of_list vs))
nonempty_list [] h = absurd (omega arith)
nonempty_list (v ∷ vs) h = refl

pub return_told : (vs : List Datum) → length vs ≡ 1 → (around : ℕ) → IsTrue (tells_leaving around (item (integer (pos 1)) (of_list vs)))
return_told [] h around = absurd (omega arith)
return_told (v ∷ []) h around = refl
return_told (v ∷ w ∷ vs) h around = absurd (omega arith)

-- ---- numbers that are no less than 0

pub not_negative : (z : ℤ) (n : ℕ) → FitsUnsignedBits 64 z × (n ≡ unsigned_abs z) → z ≡ pos n
not_negative (pos m) n h = ap pos (sym h.1)
not_negative (negsuc m) n h = absurd h.0
