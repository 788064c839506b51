-- Down a path, step by step, with what is wanted so far.
use Rattle.std.proofs.Common.{◌≡◌, ◌∙◌, ap, sym, refl, ℕ, zero, suc, ◌+◌, ◌<◌, List, [], ◌∷◌, ◌++◌, length, map, drop, drop-cons, replicate, get_or, Option, Some, None, append_assoc, arith}
use Rattle.std.proofs.lemmas.List.{append-nil, map-append}
use Rattle.spec_program.specs.Construct.{Construct}
use Rattle.spec_program.specs.Place.{Kind, any_value, Part, part_at, codes_kind, arm_kinds}
use Rattle.spec_world.specs.WellFormed.{is_loop}
use Rattle.moo_tree.specs.ExpressionView.{codes_of}
use Rattle.moo_tree.specs.StatementView.{arms_of}
use Rattle.moo_tree.specs.declared.statement.Arm.{Arm}
use Rattle.held_values.specs.declared.fits.Wanted.{Wanted}
use Rattle.held_values.specs.declared.fits.Wanted.TheVariants.{Any}
use Rattle.held_values.specs.Wanted.{of_kind, wanted_in, in_part, in_tree, wanted_down}
use Rattle.held_values.specs.Steps.{with_tree, step_wanted}

-- ---- a step

abbrev pub after : ℕ → List ℕ → Option (Construct × List Wanted) → Option (List Wanted)
after around path None = None
after around path (Some b) = wanted_down around b.1 b.0 path

tree_after : (around : ℕ) (path : List ℕ) (ws : List Wanted) (t : Option Construct) → in_tree t (λ d. wanted_down around ws d path) ≡ after around path (with_tree t ws)
tree_after around path ws None = refl
tree_after around path ws (Some d) = refl

part_after : (inside around : ℕ) (path : List ℕ) (ws : List Wanted) (o : Option Part)
    → in_part o (λ x. in_tree x.tree (λ d. wanted_down inside (ws ++ wanted_in around x.held) d path)) ≡ after inside path (step_wanted around ws o)
part_after inside around path ws None = refl
part_after inside around path ws (Some x) = tree_after inside path (ws ++ wanted_in around x.held) x.tree

-- from a part number of the path on
pub wanted_from : (around : ℕ) (ws : List Wanted) (c : Construct) (path : List ℕ) (i n : ℕ) → i < length path → n ≡ get_or path i 0
    → wanted_down around ws c (drop i path) ≡ after (around + is_loop c) (drop (i + 1) path) (step_wanted around ws (part_at c n))
wanted_from around ws c path i n small is =
    let d : suc i ≡ i + 1 = omega arith in
    ap (wanted_down around ws c) (drop-cons path i 0 small)
    ∙ ap (λ m. wanted_down around ws c (m ∷ drop (suc i) path)) (sym is)
    ∙ part_after (around + is_loop c) around (drop (suc i) path) ws (part_at c n)
    ∙ ap (λ j. after (around + is_loop c) (drop j path) (step_wanted around ws (part_at c n))) d

-- ---- what is pushed

pub one_then : (ws us : List Wanted) (a b : Wanted) → us ≡ ws ++ a ∷ [] → us ++ b ∷ [] ≡ ws ++ a ∷ b ∷ []
one_then ws us a b e = ap (λ l. l ++ b ∷ []) e ∙ append_assoc ws (a ∷ []) (b ∷ [])

pub kinds_then : (ws us : List Wanted) (ks : List Kind) (k : Kind) → us ≡ ws ++ map of_kind ks → us ++ of_kind k ∷ [] ≡ ws ++ map of_kind (ks ++ k ∷ [])
kinds_then ws us ks k e =
    ap (λ l. l ++ of_kind k ∷ []) e ∙ append_assoc ws (map of_kind ks) (of_kind k ∷ []) ∙ ap (λ l. ws ++ l) (sym (map-append of_kind ks (k ∷ [])))

one_behind : (n : ℕ) → map of_kind (replicate n any_value) ++ Any ∷ [] ≡ Any ∷ map of_kind (replicate n any_value)
one_behind zero = refl
one_behind (suc n) = ap (λ l. Any ∷ l) (one_behind n)

pub any_then : (ws us : List Wanted) (n : ℕ) → us ≡ ws ++ map of_kind (replicate n any_value) → us ++ Any ∷ [] ≡ ws ++ map of_kind (replicate (suc n) any_value)
any_then ws us n e = ap (λ l. l ++ Any ∷ []) e ∙ append_assoc ws (map of_kind (replicate n any_value)) (Any ∷ []) ∙ ap (λ l. ws ++ l) (one_behind n)

pub any_more : (ws us : List Wanted) (n : ℕ) → us ≡ ws ++ map of_kind (replicate n any_value) → us ++ Any ∷ [] ≡ ws ++ map of_kind (replicate (n + 1) any_value)
any_more ws us n e = let next : suc n ≡ n + 1 = omega arith in any_then ws us n e ∙ ap (λ m. ws ++ map of_kind (replicate m any_value)) next

pub any_none : (ws : List Wanted) → ws ≡ ws ++ map of_kind (replicate 0 any_value)
any_none ws = sym (append-nil ws)

-- the arms that are left, behind those that were taken
pub arms_from : (arms : List Arm) (i : ℕ) (a : Arm) → i < length arms → a ≡ get_or arms i a
    → map of_kind (arm_kinds (arms_of (drop i arms))) ≡ of_kind (codes_kind (codes_of a.codes)) ∷ map of_kind (arm_kinds (arms_of (drop (i + 1) arms)))
arms_from arms i a small is =
    let d : suc i ≡ i + 1 = omega arith in
    ap (λ l. map of_kind (arm_kinds (arms_of l))) (drop-cons arms i a small)
    ∙ ap (λ b. of_kind (codes_kind (codes_of b.codes)) ∷ map of_kind (arm_kinds (arms_of (drop (suc i) arms)))) (sym is)
    ∙ ap (λ j. of_kind (codes_kind (codes_of a.codes)) ∷ map of_kind (arm_kinds (arms_of (drop j arms)))) d
