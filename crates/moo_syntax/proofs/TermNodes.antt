-- The node of an integer that stands behind one as deep is not kept, and of a tree that is too deep nothing has to be.
use Rattle.std.proofs.Common.{◌≡◌, ℕ, zero, suc, ◌≤◌, ◌<◌, Bool, true, false, nat_lt, nat_le, not, ◌&&◌, if◌then◌else◌, List, [], ◌∷◌, ◌++◌, length, get_or, Option, Some, None, refl, ap, ◌∙◌, arith}
use Rattle.std.proofs.lemmas.Bool.Decides.{nat_tests}
use Rattle.spec_program.specs.Reading.{Node}
use Rattle.spec_program.specs.ReadPrograms.{greatest_depth, too_deep}
use Rattle.spec_program.specs.KeptNodes.{kept_behind, kept}
use Rattle.moo_syntax.specs.HiddenNodes.{node_alone, hides}

-- ---- behind others

one_step : (d : ℕ) (x n : Node) (ns : List Node) (c g : Bool) → nat_lt d n.depth ≡ c
    → kept_behind d (ns ++ x ∷ []) ≡ kept_behind d ns
    → (nat_lt d n.depth ≡ true → kept_behind n.depth (ns ++ x ∷ []) ≡ kept_behind n.depth ns)
    → (if c && not g then n ∷ kept_behind n.depth (ns ++ x ∷ []) else kept_behind d (ns ++ x ∷ []))
    ≡ (if c && not g then n ∷ kept_behind n.depth ns else kept_behind d ns)
one_step d x n ns true false e i j = ap (λ r. n ∷ r) (j e)
one_step d x n ns true true e i j = i
one_step d x n ns false g e i j = i

none_step : (d : ℕ) (x : Node) (c g : Bool) → nat_lt d x.depth ≡ c → x.depth ≤ d
    → (if c && not g then x ∷ kept_behind x.depth [] else kept_behind d []) ≡ kept_behind d []
none_step d x true g e h = absurd (grind (arith, nat_tests))
none_step d x false g e h = refl

deeper_than : (d e x : ℕ) → x ≤ d → nat_lt d e ≡ true → x ≤ e
deeper_than d e x h i = grind (arith, nat_tests)

none_behind : (d : ℕ) (x : Node) (ns : List Node) → x.depth ≤ d → kept_behind d (ns ++ x ∷ []) ≡ kept_behind d ns
none_behind d x [] h = none_step d x (nat_lt d x.depth) (nat_lt greatest_depth d) refl h
none_behind d x (n ∷ ns) h =
    one_step d x n ns (nat_lt d n.depth) (nat_lt greatest_depth d) refl (none_behind d x ns h)
    (λ i. none_behind n.depth x ns (deeper_than d n.depth x.depth h i))

first_step : (x n : Node) (ns : List Node) (c : Bool) → nat_lt 0 n.depth ≡ c → nat_le 1 n.depth ≡ true
    → kept_behind n.depth (ns ++ x ∷ []) ≡ kept_behind n.depth ns
    → (if c && not (nat_lt greatest_depth 0) then n ∷ kept_behind n.depth (ns ++ x ∷ []) else kept_behind 0 (ns ++ x ∷ []))
    ≡ (if c && not (nat_lt greatest_depth 0) then n ∷ kept_behind n.depth ns else kept_behind 0 ns)
first_step x n ns true e h i = ap (λ r. n ∷ r) i
first_step x n ns false e h i = absurd (grind (arith, nat_tests))

one_within : (d : ℕ) → nat_le 1 d ≡ true → 1 ≤ d
one_within d h = grind (arith, nat_tests)

pub not_kept : (ns : List Node) (line : ℕ) → hides ns ≡ true → kept (ns ++ node_alone line ∷ []) ≡ kept ns
not_kept [] line h = absurd (cc)
not_kept (n ∷ ns) line h = first_step (node_alone line) n ns (nat_lt 0 n.depth) refl h (none_behind n.depth (node_alone line) ns (one_within n.depth h))

pub none_hides : (ns : List Node) → length ns ≡ 0 → false ≡ hides ns
none_hides [] h = refl
none_hides (n ∷ ns) h = absurd (omega (arith, h))

pub first_hides : (ns : List Node) (n : Node) → 0 < length ns → n ≡ get_or ns 0 n → nat_le 1 n.depth ≡ hides ns
first_hides [] n h e = absurd (omega (arith, h))
first_hides (m ∷ ns) n h e = ap (λ x. nat_le 1 x.depth) e

-- ---- one that is too deep

no_more_deep : (c : Bool) (line : ℕ) (later : Option ℕ) → (if c then Some line else later) ≡ None → (c ≡ false) × (later ≡ None)
no_more_deep true line later h = absurd (cc)
no_more_deep false line later h = (refl, h)

pub none_deep : (ns : List Node) (i : ℕ) (n : Node) → i < length ns → n ≡ get_or ns i n → too_deep ns ≡ None → nat_lt 100 n.depth ≡ false
none_deep [] i n h e t = absurd (omega (arith, h))
none_deep (m ∷ ns) zero n h e t = ap (λ x. nat_lt 100 x.depth) e ∙ (no_more_deep (nat_lt greatest_depth m.depth) m.line (too_deep ns) t).0
none_deep (m ∷ ns) (suc i) n h e t =
    none_deep ns i n (omega (arith, h)) e (no_more_deep (nat_lt greatest_depth m.depth) m.line (too_deep ns) t).1
