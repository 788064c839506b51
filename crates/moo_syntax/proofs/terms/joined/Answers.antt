use Rattle.std.proofs.Common.{ap, ◌∙◌}
use Rattle.moo_reader.specs.Views.{found_of}
use Rattle.moo_syntax.proofs.TermsJoined.{joined_similar}
use Rattle.moo_syntax.proofs.terms.joined.Goals as goal

pub returns : goal.returns
returns c =
    let one = c.deref_mut.ensures.value in
    let two = c.deref_mut-2.ensures.value in
    let three = c.deref_mut-3.ensures.value in
    let six = c.deref_mut-5.ensures.value in
    joined_similar (found_of c.args.found) c.args.term c.in_ok-nodes.nodes
    (c.replace-tree.ensures.value ∙ ap (λ w. w.tree) two ∙ ap (λ w. w.tree) one)
    (c.replace-nodes.ensures.value ∙ ap (λ w. w.nodes) one)
    (ap (λ w. w.line) c.deref.ensures ∙ ap (λ w. w.line) three ∙ ap (λ w. w.line) two ∙ ap (λ w. w.line) one)
    c.in_ok-whole.ensures c.in_ok-nodes.ensures
    (ap (λ w. w.line) six ∙ ap (λ w. w.line) three ∙ ap (λ w. w.line) two ∙ ap (λ w. w.line) one)
    c.in_ok-whole-2.ensures (ap (λ w. w.tree) six)
