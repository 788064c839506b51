-- An expression with a term behind it, of which few nodes are told, and the tree where it is not too deep.
use Rattle.std.proofs.Common.{◌≡◌, ℕ, Bool, List, [], ◌∷◌, ◌++◌, None, refl, sym, ap, ◌∙◌, subst}
use Rattle.spec_program.specs.Tree.{Expr}
use Rattle.spec_program.specs.Tokens.{Placed}
use Rattle.spec_program.specs.Reading.{Node, under}
use Rattle.spec_program.specs.ReadPrograms.{too_deep}
use Rattle.spec_program.specs.ReadExpressions.{Found, found_at}
use Rattle.spec_program.specs.Frames.{an_expression, Frames}
use Rattle.spec_program.specs.KeptNodes.{kept}
use Rattle.spec_program.specs.Similar.{Similar, SimilarFound}
use Rattle.spec_program.proofs.SimilarParts.{like, of_two, made}
use Rattle.spec_reader.specs.Next.{Next, State, goes, reads_operators}
use Rattle.spec_reader.specs.Step.{step}
use Rattle.reader_begins.specs.declared.term.Term.{Term}
use Rattle.reader_begins.specs.Terms.{tree_with, with_term, TermRead}
use Rattle.moo_syntax.specs.HiddenNodes.{node_alone}
use Rattle.moo_syntax.specs.StandsFor.{StandsFor}
use Rattle.moo_syntax.specs.Advances.{Advances}
use Rattle.moo_syntax.proofs.Trimmed.{operators_stand}
use Rattle.moo_syntax.proofs.Going.{step_advances}

parts : (ns ms : List Node) (n : Node) (t u : Expr) → (too_deep ns ≡ None → t ≡ u) → kept (ns ++ n ∷ []) ≡ kept ms → Similar (ns ++ n ∷ []) ms t u
parts ns ms n t u h k =
    let s : Similar ns ns t u = record { nodes = refl; same = h } in
    record { nodes = k; same = (of_two (λ x y. x) s (like (n ∷ []) n)).same }

pub joined_similar : (a : Found) (t : Term) (ms : List Node) {tree u v : Expr} {k l : ℕ} {ns os : List Node} → tree ≡ a.tree → ns ≡ a.nodes → k ≡ a.line
    → (too_deep ns ≡ None → tree_with tree t ≡ u) → kept (ns ++ node_alone t.line ∷ []) ≡ kept ms
    → l ≡ a.line → os ≡ under k ms → v ≡ u → SimilarFound (with_term a t) (record { tree = v; line = l; nodes = os })
joined_similar a t ms {tree = tree} {u = u} {v = v} {k = k} {l = l} {ns = ns} {os = os} te ne ke h i le oe ve =
    let h' = subst (λ x. too_deep ns ≡ None → tree_with x t ≡ u) te h in
    let g : too_deep a.nodes ≡ None → (with_term a t).tree ≡ u = subst (λ x. too_deep x ≡ None → tree_with a.tree t ≡ u) ne h' in
    let i' : kept (a.nodes ++ node_alone t.line ∷ []) ≡ kept ms = subst (λ x. kept (x ++ node_alone t.line ∷ []) ≡ kept ms) ne i in
    let m : SimilarFound (with_term a t) (found_at a.line u ms) = made refl (parts a.nodes ms (node_alone t.line) (with_term a t).tree u g i') in
    let e : record { tree = v; line = l; nodes = os } ≡ found_at a.line u ms =
    ap (λ x. record { tree = x; line = l; nodes = os }) ve ∙ ap (λ x. record { tree = u; line = x; nodes = os }) le
    ∙ ap (λ x. record { tree = u; line = a.line; nodes = x }) (oe ∙ ap (λ x. under x ms) ke) in
    subst (SimilarFound (with_term a t)) (sym e) m

-- ---- and the reader's way past it

pub term_advances : (b : Bool) (k : ℕ) (a d : Found) (t : Term) (fs : Frames an_expression) (old new : List Placed) → TermRead k old t new
    → SimilarFound (with_term a t) d → Advances (goes (reads_operators b k a fs) old) (goes (reads_operators b k d fs) new)
term_advances b k a d t fs old new r s =
    record { more = 5; stands = subst (λ x. StandsFor x (goes (reads_operators b k d fs) new)) (sym (r b a fs)) (operators_stand b k fs (with_term a t) d new s) }

pub step_instead : (x : Next) (old new : List Placed) (s : State) → new ≡ old → s ≡ step (goes x new) → Advances (goes x old) s
step_instead x old new s h e = subst (λ ts. Advances (goes x ts) s) h (step_advances (goes x new) s e)
