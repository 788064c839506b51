-- What is held tells of the values that are held: how many, and of which kinds.
use Rattle.std.proofs.Common.{◌≡◌, ◌⊎◌, inl, inr, ◌∙◌, refl, sym, ap, subst, ℕ, zero, suc, ◌<◌, ℤ, pos, negsuc, List, [], ◌∷◌, ◌++◌, length, take, replicate, get_or, IsTrue, arith}
use Rattle.spec_value.specs.Datum.{Datum, integer, object, text, list, item, of_list}
use Rattle.spec_value.proofs.Entries.{first_holds, second_holds, both_hold}
use Rattle.spec_program.specs.Place.{Kind, any_value, any_list, all_codes, Holds, holds, walks_list, walks_range, why_left, held_count, codes_kind, arm_kinds}
use Rattle.spec_world.specs.WellFormed.{kind_fits, kinds_fit, held_fits, is_traced, tells_leaving}
use Rattle.moo_tree.specs.ExpressionView.{codes_of}
use Rattle.moo_tree.specs.StatementView.{arms_of}
use Rattle.moo_tree.specs.declared.statement.Arm.{Arm}
use Rattle.held_values.specs.Told.{is_text, is_object, is_trace}

-- ---- how many

pub as_many : (ks : List Kind) (vs : List Datum) → IsTrue (kinds_fit ks vs) → length vs ≡ length ks
as_many [] [] h = refl
as_many [] (v ∷ vs) h = absurd (cc)
as_many (k ∷ ks) [] h = absurd (cc)
as_many (k ∷ ks) (v ∷ vs) h = ap suc (as_many ks vs (second_holds (kind_fits k v) _ h))

pub walk_two : (around : ℕ) (vs : List Datum) → IsTrue (held_fits around walks_list vs) → length vs ≡ 2
walk_two around (list vs ∷ integer (pos k) ∷ []) h = refl
walk_two around _ h = cc

pub range_two : (around : ℕ) (vs : List Datum) → IsTrue (held_fits around walks_range vs) → length vs ≡ 2
range_two around (integer a ∷ integer b ∷ []) h = refl
range_two around (object a ∷ object b ∷ []) h = refl
range_two around _ h = cc

pub left_one : (around : ℕ) (vs : List Datum) → IsTrue (held_fits around why_left vs) → length vs ≡ 1
left_one around (list vs ∷ []) h = refl
left_one around _ h = cc

pub held_so_many : (around : ℕ) (h : Holds) (vs : List Datum) → IsTrue (held_fits around h vs) → length vs ≡ held_count h
held_so_many around (holds kinds) vs f = as_many kinds vs f
held_so_many around walks_list vs f = walk_two around vs f
held_so_many around walks_range vs f = range_two around vs f
held_so_many around why_left vs f = left_one around vs f

-- ---- kinds

pub none_more : (n : ℕ) (vs : List Datum) → IsTrue (kinds_fit (replicate n any_value) vs) → length vs ≡ n
none_more zero [] h = refl
none_more zero (v ∷ vs) h = absurd (cc)
none_more (suc n) [] h = absurd (cc)
none_more (suc n) (v ∷ vs) h = ap suc (none_more n vs h)

length_one : (ks : List Kind) (k : Kind) → length (ks ++ k ∷ []) ≡ suc (length ks)
length_one [] k = refl
length_one (j ∷ ks) k = ap suc (length_one ks k)

pub one_longer : (ks : List Kind) (n : ℕ) (k : Kind) (vs : List Datum) → length ks ≡ n → IsTrue (kinds_fit (ks ++ k ∷ []) vs) → length vs ≡ suc n
one_longer ks n k vs e h = as_many (ks ++ k ∷ []) vs h ∙ length_one ks k ∙ ap suc e

pub first_kinds : (ks : List Kind) (n : ℕ) (k : Kind) (vs : List Datum) → length ks ≡ n → IsTrue (kinds_fit (ks ++ k ∷ []) vs) → IsTrue (kinds_fit ks (take n vs))
first_kinds [] zero k vs e h = refl
first_kinds [] (suc n) k vs e h = absurd (omega (arith, e))
first_kinds (j ∷ ks) zero k vs e h = absurd (omega (arith, e))
first_kinds (j ∷ ks) (suc n) k [] e h = absurd (cc)
first_kinds (j ∷ ks) (suc n) k (v ∷ vs) e h =
    both_hold (kind_fits j v) _ (first_holds (kind_fits j v) _ h) (first_kinds ks n k vs (omega (arith, e)) (second_holds (kind_fits j v) _ h))

pub last_kind : (ks : List Kind) (n : ℕ) (k : Kind) (vs : List Datum) (v : Datum) → length ks ≡ n → IsTrue (kinds_fit (ks ++ k ∷ []) vs) → v ≡ get_or vs n v
    → IsTrue (kind_fits k v)
last_kind [] zero k [] v e h is = absurd (cc)
last_kind [] zero k (w ∷ vs) v e h is = subst (λ u. IsTrue (kind_fits k u)) (sym is) (first_holds (kind_fits k w) _ h)
last_kind [] (suc n) k vs v e h is = absurd (omega (arith, e))
last_kind (j ∷ ks) zero k vs v e h is = absurd (omega (arith, e))
last_kind (j ∷ ks) (suc n) k [] v e h is = absurd (cc)
last_kind (j ∷ ks) (suc n) k (w ∷ vs) v e h is = last_kind ks n k vs v (omega (arith, e)) (second_holds (kind_fits j w) _ h) is

-- ---- walks

pub walk_of_list : (around : ℕ) (v w : Datum) → IsTrue (held_fits around walks_list (v ∷ w ∷ [])) → IsTrue (kind_fits any_list v)
walk_of_list around (list vs) (integer (pos k)) h = refl
walk_of_list around _ _ h = cc

-- ---- how a body was left

pub ended_so : (around : ℕ) (vs : List Datum) → IsTrue (tells_leaving around (item (integer (pos 0)) (of_list vs))) → length vs ≡ 0
ended_so around [] h = refl
ended_so around (v ∷ vs) h = absurd (cc)

pub returned_so : (around : ℕ) (vs : List Datum) → IsTrue (tells_leaving around (item (integer (pos 1)) (of_list vs))) → length vs ≡ 1
returned_so around [] h = absurd (cc)
returned_so around (v ∷ []) h = refl
returned_so around (v ∷ w ∷ vs) h = absurd (cc)

pub failed_so : (around : ℕ) (vs : List Datum) → IsTrue (tells_leaving around (item (integer (pos 2)) (of_list vs))) → length vs ≡ 4
failed_so around (c ∷ text m ∷ v ∷ list t ∷ []) h = refl
failed_so around _ h = cc

pub failed_message : (around : ℕ) (vs : List Datum) (v : Datum) → IsTrue (tells_leaving around (item (integer (pos 2)) (of_list vs))) → v ≡ get_or vs 1 v → IsTrue (is_text v)
failed_message around (c ∷ text m ∷ u ∷ list t ∷ []) v h is = subst (λ x. IsTrue (is_text x)) (sym is) refl
failed_message around _ v h is = cc

pub failed_trace : (around : ℕ) (vs : List Datum) (v : Datum) → IsTrue (tells_leaving around (item (integer (pos 2)) (of_list vs))) → v ≡ get_or vs 3 v → IsTrue (is_trace v)
failed_trace around (c ∷ text m ∷ u ∷ list t ∷ []) v h is = subst (λ x. IsTrue (is_trace x)) (sym is) h
failed_trace around _ v h is = cc

pub left_so : (around : ℕ) (z : ℤ) (vs : List Datum) → (z ≡ pos 3) ⊎ (z ≡ pos 4) → IsTrue (tells_leaving around (item (integer z) (of_list vs))) → length vs ≡ 1
left_so around z vs (inl e) h = go vs (subst (λ y. IsTrue (tells_leaving around (item (integer y) (of_list vs)))) e h)
  where
    go : (vs : List Datum) → IsTrue (tells_leaving around (item (integer (pos 3)) (of_list vs))) → length vs ≡ 1
    go (integer (pos k) ∷ []) h = refl
    go _ h = cc
left_so around z vs (inr e) h = go vs (subst (λ y. IsTrue (tells_leaving around (item (integer y) (of_list vs)))) e h)
  where
    go : (vs : List Datum) → IsTrue (tells_leaving around (item (integer (pos 4)) (of_list vs))) → length vs ≡ 1
    go (integer (pos k) ∷ []) h = refl
    go _ h = cc

pub left_no_other : (around : ℕ) (z : ℤ) (vs : List Datum) → (z ≡ pos 0 → ⊥) → (z ≡ pos 1 → ⊥) → (z ≡ pos 2 → ⊥) → (z ≡ pos 3 → ⊥) → (z ≡ pos 4 → ⊥)
    → IsTrue (tells_leaving around (item (integer z) (of_list vs))) → ⊥
left_no_other around (pos zero) vs a b c d e h = a refl
left_no_other around (pos (suc zero)) vs a b c d e h = b refl
left_no_other around (pos (suc (suc zero))) vs a b c d e h = c refl
left_no_other around (pos (suc (suc (suc zero)))) vs a b c d e h = d refl
left_no_other around (pos (suc (suc (suc (suc zero))))) vs a b c d e h = e refl
left_no_other around (pos (suc (suc (suc (suc (suc n)))))) vs a b c d e h = cc
left_no_other around (negsuc n) vs a b c d e h = cc

-- ---- verbs that an error came by

pub traced_five : (vs : List Datum) → IsTrue (is_traced (list (of_list vs))) → length vs ≡ 5
traced_five (object a ∷ text b ∷ object c ∷ object d ∷ object e ∷ []) h = refl
traced_five _ h = cc

pub traced_first : (vs : List Datum) (v : Datum) → IsTrue (is_traced (list (of_list vs))) → v ≡ get_or vs 0 v → IsTrue (is_object v)
traced_first (object a ∷ text b ∷ object c ∷ object d ∷ object e ∷ []) v h is = subst (λ x. IsTrue (is_object x)) (sym is) refl
traced_first _ v h is = cc

pub traced_verb : (vs : List Datum) (v : Datum) → IsTrue (is_traced (list (of_list vs))) → v ≡ get_or vs 1 v → IsTrue (is_text v)
traced_verb (object a ∷ text b ∷ object c ∷ object d ∷ object e ∷ []) v h is = subst (λ x. IsTrue (is_text x)) (sym is) refl
traced_verb _ v h is = cc

pub traced_programmer : (vs : List Datum) (v : Datum) → IsTrue (is_traced (list (of_list vs))) → v ≡ get_or vs 2 v → IsTrue (is_object v)
traced_programmer (object a ∷ text b ∷ object c ∷ object d ∷ object e ∷ []) v h is = subst (λ x. IsTrue (is_object x)) (sym is) refl
traced_programmer _ v h is = cc

pub traced_definer : (vs : List Datum) (v : Datum) → IsTrue (is_traced (list (of_list vs))) → v ≡ get_or vs 3 v → IsTrue (is_object v)
traced_definer (object a ∷ text b ∷ object c ∷ object d ∷ object e ∷ []) v h is = subst (λ x. IsTrue (is_object x)) (sym is) refl
traced_definer _ v h is = cc

pub traced_player : (vs : List Datum) (v : Datum) → IsTrue (is_traced (list (of_list vs))) → v ≡ get_or vs 4 v → IsTrue (is_object v)
traced_player (object a ∷ text b ∷ object c ∷ object d ∷ object e ∷ []) v h is = subst (λ x. IsTrue (is_object x)) (sym is) refl
traced_player _ v h is = cc

-- ---- arms

pub arms_count : (arms : List Arm) → length (arm_kinds (arms_of arms)) ≡ length arms
arms_count [] = refl
arms_count (a ∷ arms) = ap suc (arms_count arms)

pub as_many_arms : (arms : List Arm) (vs : List Datum) → IsTrue (kinds_fit (arm_kinds (arms_of arms)) vs) → length vs ≡ length arms
as_many_arms arms vs h = as_many (arm_kinds (arms_of arms)) vs h ∙ arms_count arms

pub arm_at : (arms : List Arm) (vs : List Datum) (i : ℕ) (a : Arm) (v : Datum) → IsTrue (kinds_fit (arm_kinds (arms_of arms)) vs) → i < length arms → a ≡ get_or arms i a → v ≡ get_or vs i v
    → IsTrue (kind_fits (codes_kind (codes_of a.codes)) v)
arm_at [] vs i a v h lt e g = absurd (omega arith)
arm_at (b ∷ arms) [] i a v h lt e g = absurd (cc)
arm_at (b ∷ arms) (w ∷ vs) zero a v h lt e g =
    rw (e, g) (first_holds (kind_fits (codes_kind (codes_of b.codes)) w) _ h)
arm_at (b ∷ arms) (w ∷ vs) (suc i) a v h lt e g = arm_at arms vs i a v (second_holds (kind_fits (codes_kind (codes_of b.codes)) w) _ h) (omega arith) e g

pub only_kind : (k : Kind) (vs : List Datum) (v : Datum) → IsTrue (kinds_fit (k ∷ []) vs) → v ≡ get_or vs 0 v → IsTrue (kind_fits k v)
only_kind k [] v h is = absurd (cc)
only_kind k (w ∷ vs) v h is = subst (λ u. IsTrue (kind_fits k u)) (sym is) (first_holds (kind_fits k w) _ h)

pub zero_kind : (v : Datum) → IsTrue (kind_fits all_codes v) → v ≡ integer (pos 0)
zero_kind (integer (pos zero)) h = refl
zero_kind _ h = cc
