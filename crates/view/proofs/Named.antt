-- Lists by name in rising order: what is found at an index, and what takes its place.
use Rattle.std.proofs.Common.{◌≡◌, ℕ, zero, suc, ◌+◌, ◌<◌, List, [], ◌∷◌, length, Some, Bool, true, false, cond, IsTrue, refl, sym, add-one, ◌∙◌, ap, subst, arith, get_or, drop, T}
use Rattle.std.proofs.Math.ListN.{set}
use Rattle.std.specs.Char.{to_ascii_lowercase}
use Rattle.std.specs.Ordering.{nat_cmp, is_eq, is_lt, ordering_reverse}
use Rattle.std.specs.declared.cmp.Ordering.{Ordering}
use Rattle.std.specs.declared.cmp.Ordering.TheVariants.{Less, Equal, Greater}
use Rattle.std.specs.Cmp.{tied_itself}
use Rattle.std.specs.Cmp.Lexicographic.{slice_cmp, nat_list_cmp_total}
use Rattle.std.specs.FinMap.Entries.{below_all, by_order, is_sorted-put}
use Rattle.std.proofs.lemmas.Bool.{and_parts}
use Rattle.std.specs.FinMap.{is_sorted, slice_cmp-IsAntisymmetric, nat_cmp-IsAntisymmetric}
use Rattle.spec_value.specs.Datum.{Text, fold_case}
use Rattle.spec_value.specs.Table.{named, with_name, is_named}

to_T : {b : Bool} → IsTrue b → T b
to_T {b = b} e = subst T (sym e) tt

from_T : {b : Bool} → T b → IsTrue b
from_T {b = true} t = refl
from_T {b = false} t = absurd t

-- two texts of one length, folded one by one
pub folded_each : (s t : Text) → length s ≡ length t → ((k : ℕ) → k < length s → to_ascii_lowercase (get_or s k 0) ≡ get_or t k 0) → fold_case s ≡ t
folded_each [] [] e h = refl
folded_each [] (c ∷ t) e h = absurd (omega arith)
folded_each (c ∷ s) [] e h = absurd (omega arith)
folded_each (c ∷ s) (d ∷ t) e h =
    λ i. h 0 (omega arith) i ∷ folded_each s t (omega arith) (λ k lt. h (suc k) (omega arith)) i

pub folded_at : (s : Text) (k : ℕ) → k < length s → get_or (fold_case s) k 0 ≡ to_ascii_lowercase (get_or s k 0)
folded_at [] k lt = absurd (omega arith)
folded_at (c ∷ s) zero lt = refl
folded_at (c ∷ s) (suc k) lt = folded_at s k (omega arith)

-- ---- by name

tells_apart : (s t : Text) (r : Ordering) → slice_cmp nat_cmp s t ≡ r → (s ≡ t → ⊥) → is_eq r ≡ false
tells_apart s t Less e differ = refl
tells_apart s t Equal e differ = absurd (differ (slice_cmp-IsAntisymmetric nat_cmp-IsAntisymmetric s t e))
tells_apart s t Greater e differ = refl

same_order : (s t : Text) → s ≡ t → slice_cmp nat_cmp s t ≡ Equal
same_order s t e = subst (λ (x : Text). slice_cmp nat_cmp s x ≡ Equal) e (tied_itself nat_list_cmp_total s)

skips : {X : Type 0} (k : Text) (e : Text × X) (es : List (Text × X)) → (k ≡ e.0 → ⊥) → named (e ∷ es) k ≡ named es k
skips k e es differ = ap (λ b. cond b (Some e.1) (named es k)) (tells_apart k e.0 (slice_cmp nat_cmp k e.0) refl differ)

hits : {X : Type 0} (k : Text) (e : Text × X) (es : List (Text × X)) → k ≡ e.0 → named (e ∷ es) k ≡ Some e.1
hits k e es is = ap (λ (r : Ordering). cond (is_eq r) (Some e.1) (named es k)) (same_order k e.0 is)

found_later : {X : Type 0} (k : Text) (es : List (Text × X)) (i : ℕ) (e : Text × X) → i < length es → e ≡ get_or es i e → (k ≡ e.0 → ⊥)
    → named (drop (suc i) es) k ≡ named (drop i es) k
found_later k [] i e lt is differ = absurd (omega arith)
found_later k (f ∷ es) zero e lt is differ = sym (skips k f es (λ same. differ (same ∙ sym (ap (λ p. p.0) is))))
found_later k (f ∷ es) (suc i) e lt is differ = found_later k es i e (omega arith) is differ

-- a name that is not that of an entry is sought behind it
pub found_behind : {X : Type 0} (k : Text) (es : List (Text × X)) (i : ℕ) (e : Text × X) → i < length es → e ≡ get_or es i e → (k ≡ e.0 → ⊥)
    → named (drop (i + 1) es) k ≡ named (drop i es) k
found_behind k es i e lt is differ = ap (λ (n : ℕ). named (drop n es) k) (add-one i) ∙ found_later k es i e lt is differ

pub found_there : {X : Type 0} (k : Text) (es : List (Text × X)) (i : ℕ) (e : Text × X) → i < length es → e ≡ get_or es i e → k ≡ e.0
    → named (drop i es) k ≡ Some e.1
found_there k [] i e lt is same = absurd (omega arith)
found_there k (f ∷ es) zero e lt is same = hits k f es (same ∙ ap (λ p. p.0) is) ∙ ap (λ p. Some p.1) (sym is)
found_there k (f ∷ es) (suc i) e lt is same = found_there k es i e (omega arith) is same

-- ---- another value in place of one

abbrev pub R : Text → Text → Ordering
R = slice_cmp nat_cmp

is_less : (r : Ordering) → is_lt r ≡ true → r ≡ Less
is_less Less e = refl
is_less Equal e = cc
is_less Greater e = cc

pub below_each : {X : Type 0} (x : Text) (es : List (Text × X)) (i : ℕ) (e : Text × X) → below_all R x es ≡ true → i < length es → e ≡ get_or es i e → R x e.0 ≡ Less
below_each x [] i e h lt is = absurd (omega arith)
below_each x (f ∷ es) zero e h lt is =
    ap (λ (p : Text × _). R x p.0) is ∙ is_less (R x f.0) ((and_parts (is_lt (R x f.0)) (below_all R x es) h).0)
below_each x (f ∷ es) (suc i) e h lt is = below_each x es i e ((and_parts (is_lt (R x f.0)) (below_all R x es) h).1) (omega arith) is

pub above : (x y : Text) → R x y ≡ Less → R y x ≡ Greater
above x y e = nat_list_cmp_total.antisymm y x ∙ ap ordering_reverse e

-- what takes the place of an entry of that name
pub set_there : {X : Type 0} (k : Text) (es : List (Text × X)) (i : ℕ) (e : Text × X) (v : X) → IsTrue (is_named es) → i < length es → e ≡ get_or es i e → k ≡ e.0
    → set es i (e.0, v) ≡ with_name es k v
set_there k [] i e v sorted lt is same = absurd (omega arith)
set_there k (f ∷ es) zero e v sorted lt is same =
    let tied : R k f.0 ≡ Equal = same_order k f.0 (same ∙ ap (λ p. p.0) is) in
    ap (λ (p : Text × _). (p.0, v) ∷ es) is ∙ sym (ap (λ (r : Ordering). by_order r ((k, v) ∷ f ∷ es) ((f.0, v) ∷ es) (f ∷ with_name es k v)) tied)
set_there k (f ∷ es) (suc i) e v sorted lt is same =
    let parts = and_parts (below_all R f.0 es) (is_sorted R es) sorted in
    let less : R f.0 k ≡ Less = ap (λ (t : Text). R f.0 t) same ∙ below_each f.0 es i e parts.0 (omega arith) is in
    let greater : R k f.0 ≡ Greater = above f.0 k less in
    ap (λ es'. f ∷ es') (set_there k es i e v parts.1 (omega arith) is same)
    ∙ sym (ap (λ (r : Ordering). by_order r ((k, v) ∷ f ∷ es) ((f.0, v) ∷ es) (f ∷ with_name es k v)) greater)

pub set_keeps_order : {X : Type 0} (k : Text) (es : List (Text × X)) (i : ℕ) (e : Text × X) (v : X) → IsTrue (is_named es) → i < length es → e ≡ get_or es i e → k ≡ e.0
    → IsTrue (is_named (set es i (e.0, v)))
set_keeps_order k es i e v sorted lt is same =
    subst (λ (fs : List (Text × _)). IsTrue (is_named fs)) (sym (set_there k es i e v sorted lt is same)) (from_T (is_sorted-put R nat_list_cmp_total k v es (to_T sorted)))

-- two names of the item at an index
pub one_item : {X : Type 0} (xs : List X) (i : ℕ) (x y : X) → i < length xs → x ≡ get_or xs i x → y ≡ get_or xs i y → x ≡ y
one_item [] i x y lt e f = absurd (omega arith)
one_item (z ∷ xs) zero x y lt e f = e ∙ sym f
one_item (z ∷ xs) (suc i) x y lt e f = one_item xs i x y (omega arith) e f
