-- Where a slot of a name stands in the order, or is to stand.
use Rattle.std.proofs.Common.{◌≡◌, ℕ, zero, suc, ◌+◌, ◌<◌, ◌≤◌, List, [], ◌∷◌, ◌++◌, length, Some, None, Bool, true, false, not, cond, IsTrue, refl, sym, ◌∙◌, ap, subst, add-one, arith, get_or, take, drop}
use Rattle.std.proofs.Math.ListN.{set}
use Rattle.std.specs.Ordering.{eq_by_cmp, is_eq}
use Rattle.std.specs.declared.cmp.Ordering.{Ordering}
use Rattle.std.specs.declared.cmp.Ordering.TheVariants.{Less, Equal, Greater}
use Rattle.std.specs.Char.{to_ascii_lowercase}
use Rattle.std.specs.FinMap.{is_sorted, slice_cmp-IsAntisymmetric, nat_cmp-IsAntisymmetric}
use Rattle.std.specs.FinMap.Entries.{below_all, by_order}
use Rattle.std.proofs.lemmas.Bool.{and_parts}
use Rattle.std.proofs.lemmas.Bool.Decides.{nat_tests}
use Rattle.spec_value.specs.Datum.{Text, fold_case, is_character, is_text, same_text}
use Rattle.spec_value.specs.Table.{Named, named, with_name, without_name, is_named}
use Rattle.spec_value.proofs.Same.{text_itself}
use Rattle.spec_value.proofs.Entries.{first_holds, second_holds, both_hold}
use Rattle.spec_world.proofs.SlotTables.{with_sorted, without_sorted, sought}
use Rattle.spec_world.specs.World.{Slot}
use Rattle.view.proofs.Named.{R, below_each, above}
use Rattle.view.proofs.Filled.{Stands}

-- ---- names in lower case

lower_case : (c : ℕ) → IsTrue (is_character c) → IsTrue (is_character (to_ascii_lowercase c))
lower_case c h = grind (arith, nat_tests)

pub folded_is_text : (t : Text) → IsTrue (is_text t) → IsTrue (is_text (fold_case t))
folded_is_text [] h = refl
folded_is_text (c ∷ t) h = both_hold _ _ (lower_case c (first_holds _ _ h)) (folded_is_text t (second_holds _ _ h))

-- ---- one more slot, or another one

-- the entry at an index comes before the name
passes_one : {X : Type 0} (k : Text) (x : X) (es : Named X) (i : ℕ) (e : Text × X) → i < length es → e ≡ get_or es i e → R k e.0 ≡ Greater
    → take i es ++ with_name (drop i es) k x ≡ take (suc i) es ++ with_name (drop (suc i) es) k x
passes_one k x [] i e lt is after = absurd (omega arith)
passes_one k x (f ∷ es) zero e lt is after =
    let order : R k f.0 ≡ Greater = ap (λ (p : Text × _). R k p.0) (sym is) ∙ after in
    ap (λ r. by_order r ((k, x) ∷ f ∷ es) ((f.0, x) ∷ es) (f ∷ with_name es k x)) order
passes_one k x (f ∷ es) (suc i) e lt is after = ap (λ rest. f ∷ rest) (passes_one k x es i e (omega arith) is after)

pub passes : {X : Type 0} (k : Text) (x : X) (es : Named X) (i : ℕ) (e : Text × X) → i < length es → e ≡ get_or es i e → R k e.0 ≡ Greater
    → with_name es k x ≡ take i es ++ with_name (drop i es) k x → with_name es k x ≡ take (i + 1) es ++ with_name (drop (i + 1) es) k x
passes k x es i e lt is after so_far = so_far ∙ passes_one k x es i e lt is after ∙ ap (λ n. take n es ++ with_name (drop n es) k x) (sym (add-one i))

-- it comes behind
stops_here : {X : Type 0} (k : Text) (x : X) (es : Named X) (i : ℕ) (e : Text × X) → i < length es → e ≡ get_or es i e → R k e.0 ≡ Less
    → take i es ++ with_name (drop i es) k x ≡ take i es ++ (k, x) ∷ drop i es
stops_here k x [] i e lt is before = absurd (omega arith)
stops_here k x (f ∷ es) zero e lt is before =
    let order : R k f.0 ≡ Less = ap (λ (p : Text × _). R k p.0) (sym is) ∙ before in
    ap (λ r. by_order r ((k, x) ∷ f ∷ es) ((f.0, x) ∷ es) (f ∷ with_name es k x)) order
stops_here k x (f ∷ es) (suc i) e lt is before = ap (λ rest. f ∷ rest) (stops_here k x es i e (omega arith) is before)

pub stops : {X : Type 0} (k : Text) (x : X) (es : Named X) (i : ℕ) (e : Text × X) → i < length es → e ≡ get_or es i e → R k e.0 ≡ Less
    → with_name es k x ≡ take i es ++ with_name (drop i es) k x → with_name es k x ≡ take i es ++ (k, x) ∷ drop i es
stops k x es i e lt is before so_far = so_far ∙ stops_here k x es i e lt is before

-- it is the one
hits_here : {X : Type 0} (k : Text) (x : X) (es : Named X) (i : ℕ) (e : Text × X) → i < length es → e ≡ get_or es i e → R k e.0 ≡ Equal
    → take i es ++ with_name (drop i es) k x ≡ set es i (k, x)
hits_here k x [] i e lt is same = absurd (omega arith)
hits_here k x (f ∷ es) zero e lt is same =
    let order : R k f.0 ≡ Equal = ap (λ (p : Text × _). R k p.0) (sym is) ∙ same in
    ap (λ r. by_order r ((k, x) ∷ f ∷ es) ((f.0, x) ∷ es) (f ∷ with_name es k x)) order
    ∙ ap (λ (t : Text). (t, x) ∷ es) (sym (slice_cmp-IsAntisymmetric nat_cmp-IsAntisymmetric k f.0 order))
hits_here k x (f ∷ es) (suc i) e lt is same = ap (λ rest. f ∷ rest) (hits_here k x es i e (omega arith) is same)

pub hits : {X : Type 0} (k : Text) (x : X) (es : Named X) (i : ℕ) (e : Text × X) → i < length es → e ≡ get_or es i e → R k e.0 ≡ Equal
    → with_name es k x ≡ take i es ++ with_name (drop i es) k x → with_name es k x ≡ set es i (k, x)
hits k x es i e lt is same so_far = so_far ∙ hits_here k x es i e lt is same

-- all come before
pub ends : {X : Type 0} (k : Text) (x : X) (es : Named X) (i : ℕ) → length es ≤ i
    → take i es ++ with_name (drop i es) k x ≡ take (length es) es ++ (k, x) ∷ drop (length es) es
ends k x [] zero le = refl
ends k x [] (suc i) le = refl
ends k x (f ∷ es) zero le = absurd (omega arith)
ends k x (f ∷ es) (suc i) le = ap (λ rest. f ∷ rest) (ends k x es i (omega arith))

pub put_sorted : {X : Type 0} (es : Named X) (k : Text) (x : X) (new : Named X) → IsTrue (is_named es) → with_name es k x ≡ new → IsTrue (is_named new)
put_sorted es k x new sorted is = subst (λ (fs : Named _). IsTrue (is_named fs)) is (with_sorted es k x sorted)

-- ---- one slot less

not_same : (s t : Text) (r : Ordering) → R s t ≡ r → is_eq r ≡ false → same_text s t ≡ false
not_same s t r is other = sym (sought s t) ∙ ap is_eq is ∙ other

kept : {X : Type 0} (k : Text) (e : Text × X) (es : Named X) → same_text k e.0 ≡ false → without_name (e ∷ es) k ≡ e ∷ without_name es k
kept k e es other = ap (λ b. cond (not b) (e ∷ without_name es k) (without_name es k)) other

all_kept : {X : Type 0} (k : Text) (es : Named X) → IsTrue (below_all R k es) → without_name es k ≡ es
all_kept k [] h = refl
all_kept k (e ∷ es) h =
    let order : R k e.0 ≡ Less = below_each k (e ∷ es) 0 e h (omega arith) refl in
    kept k e es (not_same k e.0 Less order refl) ∙ ap (λ rest. e ∷ rest) (all_kept k es ((and_parts _ (below_all R k es) h).1))

pub removed : {X : Type 0} (k : Text) (es : Named X) (i : ℕ) (e : Text × X) → IsTrue (is_named es) → i < length es → e ≡ get_or es i e → k ≡ e.0
    → take i es ++ drop (suc i) es ≡ without_name es k
removed k [] i e sorted lt is same = absurd (omega arith)
removed {X = X} k (f ∷ es) zero e sorted lt is same =
    let key : k ≡ f.0 = same ∙ ap (λ (p : Text × X). p.0) is in
    let tied : same_text k f.0 ≡ true = sym (sought k f.0) ∙ subst (λ (t : Text). eq_by_cmp R k t ≡ true) key (sought k k ∙ text_itself k) in
    let behind : IsTrue (below_all R k es) = subst (λ (t : Text). IsTrue (below_all R t es)) (sym key) ((and_parts (below_all R f.0 es) (is_sorted R es) sorted).0) in
    sym (ap (λ b. cond (not b) (f ∷ without_name es k) (without_name es k)) tied ∙ all_kept k es behind)
removed {X = X} k (f ∷ es) (suc i) e sorted lt is same =
    let parts = and_parts (below_all R f.0 es) (is_sorted R es) sorted in
    let less : R f.0 k ≡ Less = ap (λ (t : Text). R f.0 t) same ∙ below_each f.0 es i e parts.0 (omega arith) is in
    ap (λ rest. f ∷ rest) (removed k es i e parts.1 (omega arith) is same) ∙ sym (kept k f es (not_same k f.0 Greater (above f.0 k less) refl))

pub none_removed : {X : Type 0} (k : Text) (es : Named X) → named es k ≡ None → es ≡ without_name es k
none_removed k [] none = refl
none_removed {X = X} k (e ∷ es) none = go (none_removed k es) (eq_by_cmp R k e.0) refl none
  where
    go : (named es k ≡ None → es ≡ without_name es k) → (b : Bool) → eq_by_cmp R k e.0 ≡ b → cond b (Some e.1) (named es k) ≡ None → e ∷ es ≡ without_name (e ∷ es) k
    go later true is found = cc
    go later false is rest = ap (λ fs. e ∷ fs) (later rest) ∙ sym (kept k e es (sym (sought k e.0) ∙ is))

pub removed_sorted : {X : Type 0} (es : Named X) (k : Text) (new : Named X) → IsTrue (is_named es) → new ≡ without_name es k → IsTrue (is_named new)
removed_sorted es k new sorted is = subst (λ (fs : Named _). IsTrue (is_named fs)) (sym is) (without_sorted es k sorted)

-- the slot where a name stands
pub gone : (k : Text) (es new : List (Text × Slot)) (i : ℕ) → IsTrue (is_named es) → Stands k es i → new ≡ take i es ++ drop (suc i) es → new ≡ without_name es k
gone k es new i sorted at is = is ∙ removed k es i at.0 sorted at.1 at.2 at.3

pub gone_sorted : (k : Text) (es new : List (Text × Slot)) (i : ℕ) → IsTrue (is_named es) → Stands k es i → new ≡ take i es ++ drop (suc i) es → IsTrue (is_named new)
gone_sorted k es new i sorted at is = removed_sorted es k new sorted (gone k es new i sorted at is)
