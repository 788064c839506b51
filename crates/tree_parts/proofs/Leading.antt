-- The path of a verb's pieces leads to its call, past as many values as they hold.
use Rattle.std.proofs.Common.{◌≡◌, ◌∙◌, ap, sym, refl, ℕ, ◌+◌, ◌-◌, ◌≤◌, List, [], ◌∷◌, ◌++◌, length, Option, Some, None, append_assoc, arith}
use Rattle.std.proofs.lemmas.List.{append-nil}
use Rattle.spec_value.specs.Datum.{Datum}
use Rattle.spec_program.specs.Construct.{Construct, Piece}
use Rattle.spec_program.specs.Place.{Part, part_at, tree_of, held_count, Linked}
use Rattle.moo_code.specs.Paths.{past, path_of}
use Rattle.moo_code.specs.Stands.{part_count, Counted, operands}
use Rattle.tree_parts.specs.Arriving.{with_rest, into, arrives}
use Rattle.tree_parts.proofs.Arrived.{length_onto}
use Rattle.tree_parts.proofs.Offsets.{past_behind}

past_own : (m k : ℕ) → past m (m + k) ≡ Some k
past_own m k = let rest : m + k - m ≡ k = omega arith in past_behind m (m + k) (omega arith) ∙ ap Some rest

-- into a part whose tree is known, and that holds so many
into_known : (c : Construct) (path : List ℕ) (m k : ℕ) (o : Option Part) → tree_of o ≡ Some c → m ≡ part_count o → into o (m + k) (λ d j. arrives d path j) ≡ arrives c path k
into_known c path m k None e n = absurd (cc)
into_known c path m k (Some x) e n =
    ap (λ t. with_rest t (past (held_count x.held) (m + k)) (λ d j. arrives d path j)) e
    ∙ ap (λ i. with_rest (Some c) (past i (m + k)) (λ d j. arrives d path j)) (sym n)
    ∙ ap (λ q. with_rest (Some c) q (λ d j. arrives d path j)) (past_own m k)

leads_on : (root c : Construct) (ps : List Piece) (path : List ℕ) (k : ℕ) → Linked c ps root → Counted ps → arrives root (path_of ps ++ path) (length (operands ps) + k) ≡ arrives c path k
leads_on root c [] path k h n = let same : 0 + k ≡ k = omega arith in ap (arrives root path) same ∙ ap (λ z. arrives z path k) (sym h)
leads_on root c (p ∷ ps) path k h n =
    let count : length (operands (p ∷ ps)) + k ≡ length (operands ps) + (length p.held + k) = let both = length_onto p.held (operands ps) in omega (arith, both) in
    ap (λ l. arrives root l (length (operands (p ∷ ps)) + k)) (append_assoc (path_of ps) (p.part ∷ []) path)
    ∙ ap (arrives root (path_of ps ++ p.part ∷ path)) count
    ∙ leads_on root p.construct ps (p.part ∷ path) (length p.held + k) h.1 n.1
    ∙ into_known c path (length p.held) k (part_at p.construct p.part) h.0 n.0

pub leads : (root c : Construct) (ps : List Piece) → Linked c ps root → Counted ps → arrives root (path_of ps) (length (operands ps)) ≡ Some c
leads root c ps h n =
    let none : length (operands ps) ≡ length (operands ps) + 0 = omega arith in
    ap (λ l. arrives root l (length (operands ps))) (sym (append-nil (path_of ps))) ∙ ap (arrives root (path_of ps ++ [])) none ∙ leads_on root c ps [] 0 h n
