-- Which nodes are too deep, and which are kept.
use Rattle.std.proofs.Common.{◌≡◌, ℕ, ◌+◌, ◌<◌, ◌≤◌, true, false, if◌then◌else◌, List, [], ◌∷◌, length, drop, get_or, Some, None, refl, sym, ap, subst, ◌∙◌, suc, add-one}
use Rattle.std.specs.Prelude.{nat_lt}
use Rattle.std.proofs.Math.ListN.{drop_of_length-le}
use Rattle.std.proofs.lemmas.List.{append-nil}
use Rattle.spec_program.specs.ReadPrograms.{too_deep}
use Rattle.spec_program.specs.KeptNodes.{kept}
use Rattle.spec_program.specs.ReadExpressions.{Found}
use Rattle.spec_program.specs.Similar.{SimilarFound}
use Rattle.spec_program.proofs.KeptNodesTell.{kept_of_both}
use Rattle.spec_program.specs.Reading.{Node}
use Rattle.spec_program.specs.Tree.{Expr}
use Rattle.moo_reader.proofs.Places.{first_left}

pub this_is_deep : (nodes : List Node) (i : ℕ) (n : Node) → i < length nodes → n ≡ get_or nodes i n → nat_lt 100 n.depth ≡ true
    → too_deep (drop i nodes) ≡ Some n.line
this_is_deep nodes i n h e d =
    ap (λ x. too_deep x) (first_left nodes i n h e) ∙ ap (λ c. if c then Some n.line else too_deep (drop (i + 1) nodes)) d

pub this_is_not : (nodes : List Node) (i : ℕ) (n : Node) → i < length nodes → n ≡ get_or nodes i n → nat_lt 100 n.depth ≡ false
    → too_deep (drop (i + 1) nodes) ≡ too_deep (drop i nodes)
this_is_not nodes i n h e d =
    sym (ap (λ x. too_deep x) (first_left nodes i n h e) ∙ ap (λ c. if c then Some n.line else too_deep (drop (i + 1) nodes)) d)

pub none_is_deep : (nodes : List Node) (i : ℕ) → length nodes ≤ i → None ≡ too_deep (drop i nodes)
none_is_deep nodes i h = sym (ap (λ x. too_deep x) (drop_of_length-le nodes h))

-- what is kept of what is kept is the same
kept_again : (ns : List Node) → kept ns ≡ kept (kept ns)
kept_again ns = ap kept (sym (append-nil ns)) ∙ kept_of_both ns [] ∙ ap kept (append-nil (kept ns))

similar_found : (e d : Found) → e.line ≡ d.line → d.nodes ≡ kept e.nodes → (too_deep e.nodes ≡ None → e.tree ≡ d.tree) → SimilarFound e d
similar_found e d l n t = record { line = l; parts = record { nodes = kept_again e.nodes ∙ ap kept (sym n); same = t } }

pub similar_kept : (e d : Found) (ns : List Node) (t : Expr) → d ≡ record { tree = t; line = e.line; nodes = ns } → ns ≡ kept e.nodes
    → (too_deep e.nodes ≡ None → e.tree ≡ t) → SimilarFound e d
similar_kept e d ns t h n s = subst (SimilarFound e) (sym h) (similar_found e (record { tree = t; line = e.line; nodes = ns }) refl n s)
