-- Where a name stands among names in rising order, or is to stand.
use Rattle.std.proofs.Common.{◌≡◌, ℕ, zero, suc, ◌+◌, ◌<◌, [], ◌∷◌, ◌++◌, length, Some, None, cond, IsTrue, refl, sym, ◌∙◌, ap, add-one, arith, get_or, take, drop}
use Rattle.std.proofs.Math.ListN.{set}
use Rattle.std.proofs.Math.Seq.{drop-length}
use Rattle.std.specs.Ordering.{is_eq, ordering_reverse}
use Rattle.std.specs.declared.cmp.Ordering.TheVariants.{Less, Equal, Greater}
use Rattle.std.specs.Cmp.Lexicographic.{nat_list_cmp_total}
use Rattle.std.specs.FinMap.{is_sorted, slice_cmp-IsAntisymmetric, nat_cmp-IsAntisymmetric}
use Rattle.std.specs.FinMap.Entries.{below_all, by_order}
use Rattle.std.proofs.lemmas.Bool.{and_parts}
use Rattle.spec_value.specs.Datum.{Text}
use Rattle.spec_value.specs.Table.{Named, named, with_name, is_named}
use Rattle.view.proofs.Named.{R, below_each, above, found_there, set_there}

below : (x y : Text) → R x y ≡ Greater → R y x ≡ Less
below x y e = nat_list_cmp_total.antisymm y x ∙ ap ordering_reverse e

pub same_name : (s t : Text) → R s t ≡ Equal → s ≡ t
same_name s t e = slice_cmp-IsAntisymmetric nat_cmp-IsAntisymmetric s t e

-- ---- one step of a look-up and of a change

steps_over : {X : Type 0} (k : Text) (f : Text × X) (es : Named X) → R k f.0 ≡ Greater → named (f ∷ es) k ≡ named es k
steps_over k f es order = ap (λ r. cond (is_eq r) (Some f.1) (named es k)) order

puts_behind : {X : Type 0} (k : Text) (x : X) (f : Text × X) (es : Named X) → R k f.0 ≡ Greater → with_name (f ∷ es) k x ≡ f ∷ with_name es k x
puts_behind k x f es order = ap (λ r. by_order r ((k, x) ∷ f ∷ es) ((f.0, x) ∷ es) (f ∷ with_name es k x)) order

-- ---- an entry before the name

-- the first entry is before what a later one is before
first_before : {X : Type 0} (k : Text) (f : Text × X) (es : Named X) (i : ℕ) (e : Text × X) → IsTrue (is_named (f ∷ es)) → i < length es → e ≡ get_or es i e
    → R k e.0 ≡ Greater → R k f.0 ≡ Greater
first_before k f es i e sorted lt is after =
    let first : R f.0 e.0 ≡ Less = below_each f.0 es i e ((and_parts (below_all R f.0 es) (is_sorted R es) sorted).0) lt is in
    above f.0 k (nat_list_cmp_total.trans f.0 e.0 k first (below k e.0 after))

later_sorted : {X : Type 0} (f : Text × X) (es : Named X) → IsTrue (is_named (f ∷ es)) → IsTrue (is_named es)
later_sorted f es sorted = (and_parts (below_all R f.0 es) (is_sorted R es) sorted).1

sought_later : {X : Type 0} (k : Text) (es : Named X) (i : ℕ) (e : Text × X) → IsTrue (is_named es) → i < length es → e ≡ get_or es i e → R k e.0 ≡ Greater
    → named (drop (suc i) es) k ≡ named es k
sought_later k [] i e sorted lt is after = absurd (omega arith)
sought_later k (f ∷ es) zero e sorted lt is after = sym (steps_over k f es (ap (λ (p : Text × _). R k p.0) (sym is) ∙ after))
sought_later k (f ∷ es) (suc i) e sorted lt is after =
    sought_later k es i e (later_sorted f es sorted) (omega arith) is after ∙ sym (steps_over k f es (first_before k f es i e sorted (omega arith) is after))

-- the name is sought behind it
pub sought_behind : {X : Type 0} (k : Text) (es : Named X) (i : ℕ) (e : Text × X) → IsTrue (is_named es) → i < length es → e ≡ get_or es i e → R k e.0 ≡ Greater
    → named (drop (i + 1) es) k ≡ named es k
sought_behind k es i e sorted lt is after = ap (λ n. named (drop n es) k) (add-one i) ∙ sought_later k es i e sorted lt is after

put_later : {X : Type 0} (k : Text) (x : X) (es : Named X) (i : ℕ) (e : Text × X) → IsTrue (is_named es) → i < length es → e ≡ get_or es i e → R k e.0 ≡ Greater
    → with_name es k x ≡ take (suc i) es ++ with_name (drop (suc i) es) k x
put_later k x [] i e sorted lt is after = absurd (omega arith)
put_later k x (f ∷ es) zero e sorted lt is after = puts_behind k x f es (ap (λ (p : Text × _). R k p.0) (sym is) ∙ after)
put_later k x (f ∷ es) (suc i) e sorted lt is after =
    puts_behind k x f es (first_before k f es i e sorted (omega arith) is after)
    ∙ ap (λ rest. f ∷ rest) (put_later k x es i e (later_sorted f es sorted) (omega arith) is after)

-- and is to stand behind it
pub put_behind : {X : Type 0} (k : Text) (x : X) (es : Named X) (i : ℕ) (e : Text × X) → IsTrue (is_named es) → i < length es → e ≡ get_or es i e → R k e.0 ≡ Greater
    → with_name es k x ≡ take (i + 1) es ++ with_name (drop (i + 1) es) k x
put_behind k x es i e sorted lt is after =
    put_later k x es i e sorted lt is after ∙ ap (λ n. take n es ++ with_name (drop n es) k x) (sym (add-one i))

-- ---- an entry behind the name

none_above : {X : Type 0} (k j : Text) (es : Named X) → R k j ≡ Less → IsTrue (below_all R j es) → named es k ≡ None
none_above k j [] less h = refl
none_above k j (e ∷ es) less h =
    let order : R k e.0 ≡ Less = nat_list_cmp_total.trans k j e.0 less (below_each j (e ∷ es) 0 e h (omega arith) refl) in
    ap (λ r. cond (is_eq r) (Some e.1) (named es k)) order ∙ none_above k j es less ((and_parts _ (below_all R j es) h).1)

-- from there on the name is not found
pub none_from : {X : Type 0} (k : Text) (es : Named X) (i : ℕ) (e : Text × X) → IsTrue (is_named es) → i < length es → e ≡ get_or es i e → R k e.0 ≡ Less
    → named (drop i es) k ≡ None
none_from k [] i e sorted lt is before = absurd (omega arith)
none_from k (f ∷ es) zero e sorted lt is before =
    let order : R k f.0 ≡ Less = ap (λ (p : Text × _). R k p.0) (sym is) ∙ before in
    ap (λ r. cond (is_eq r) (Some f.1) (named es k)) order ∙ none_above k f.0 es order ((and_parts (below_all R f.0 es) (is_sorted R es) sorted).0)
none_from k (f ∷ es) (suc i) e sorted lt is before = none_from k es i e (later_sorted f es sorted) (omega arith) is before

-- and comes first
pub put_first : {X : Type 0} (k : Text) (x : X) (es : Named X) (i : ℕ) (e : Text × X) → i < length es → e ≡ get_or es i e → R k e.0 ≡ Less
    → with_name (drop i es) k x ≡ (k, x) ∷ drop i es
put_first k x [] i e lt is before = absurd (omega arith)
put_first k x (f ∷ es) zero e lt is before =
    let order : R k f.0 ≡ Less = ap (λ (p : Text × _). R k p.0) (sym is) ∙ before in
    ap (λ r. by_order r ((k, x) ∷ f ∷ es) ((f.0, x) ∷ es) (f ∷ with_name es k x)) order
put_first k x (f ∷ es) (suc i) e lt is before = put_first k x es i e (omega arith) is before

-- behind all entries it is not found, and comes first
pub none_left : {X : Type 0} (k : Text) (es : Named X) → named (drop (length es) es) k ≡ None
none_left k es = ap (λ fs. named fs k) (drop-length es)

pub put_last : {X : Type 0} (k : Text) (x : X) (es : Named X) → with_name (drop (length es) es) k x ≡ (k, x) ∷ drop (length es) es
put_last k x es = ap (λ fs. with_name fs k x) (drop-length es) ∙ ap (λ fs. (k, x) ∷ fs) (sym (drop-length es))

-- ---- the entry of the name

pub found_at : {X : Type 0} (k : Text) (es : Named X) (i : ℕ) (e : Text × X) → IsTrue (is_named es) → i < length es → e ≡ get_or es i e → k ≡ e.0
    → named es k ≡ Some e.1
found_at k [] i e sorted lt is same = absurd (omega arith)
found_at k (f ∷ es) zero e sorted lt is same = found_there k (f ∷ es) zero e lt is same
found_at k (f ∷ es) (suc i) e sorted lt is same =
    let less : R f.0 k ≡ Less = ap (λ (t : Text). R f.0 t) same ∙ below_each f.0 es i e ((and_parts (below_all R f.0 es) (is_sorted R es) sorted).0) (omega arith) is in
    steps_over k f es (above f.0 k less) ∙ found_at k es i e (later_sorted f es sorted) (omega arith) is same

pub set_at : {X : Type 0} (k : Text) (x : X) (es : Named X) (i : ℕ) (e : Text × X) → IsTrue (is_named es) → i < length es → e ≡ get_or es i e → k ≡ e.0
    → with_name es k x ≡ set es i (k, x)
set_at k x es i e sorted lt is same = sym (set_there k es i e x sorted lt is same) ∙ ap (λ (t : Text). set es i (t, x)) (sym same)

-- ---- behind the last entry

pub put_at_end : {X : Type 0} (k : Text) (x : X) (es : Named X) (i : ℕ) (e : Text × X) → IsTrue (is_named es) → i + 1 ≡ length es → e ≡ get_or es i e
    → R k e.0 ≡ Greater → with_name es k x ≡ take (length es) es ++ (k, x) ∷ drop (length es) es
put_at_end k x es i e sorted last is after =
    put_behind k x es i e sorted (omega arith) is after ∙ ap (λ n. take n es ++ with_name (drop n es) k x) last
    ∙ ap (λ rest. take (length es) es ++ rest) (put_last k x es)
