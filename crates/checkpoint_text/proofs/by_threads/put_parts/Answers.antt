use Rattle.std.proofs.Common.{◌≡◌, ◌++◌, drop, sym, ap, ◌∙◌, append_assoc, append-nil}
use Rattle.std.proofs.lemmas.List.{take-append-drop}
use Rattle.checkpoint_text.specs.Parts.{objects_text}
use Rattle.checkpoint_text.proofs.Pieces.{objects_behind, no_objects, none_left}
use Rattle.checkpoint_text.proofs.by_threads.put_parts.Goals as goal

pub parts-preserved : goal.parts-preserved
parts-preserved g c =
    let w = c.args.snapshot.now in
    let later = c.parts.later.now in
    let part = c.split_at.result.0.now in
    let others = c.split_at.result.1.now in
    let cut : later ≡ part ++ others =
    sym (take-append-drop c.min.result later) ∙ ap (λ ks. ks ++ drop c.min.result later) (sym c.split_at.ensures.front) ∙ ap (λ ks. part ++ ks) (sym c.split_at.ensures.back) in
    let next : objects_text w later ≡ objects_text w part ++ objects_text w others = ap (objects_text w) cut ∙ objects_behind w part others in
    let wrote = c.in_ok-put_pieces.ensures ∙ ap (λ t. c.parts.page ++ t) c.in_ok-pieces.ensures in
    ap (λ t. t ++ objects_text w others) wrote ∙ append_assoc c.parts.page (objects_text w part) (objects_text w others)
    ∙ ap (λ t. c.parts.page ++ t) (sym next) ∙ c.parts.invariant

pub returns : goal.returns
returns g c =
    let w = c.args.snapshot.now in
    sym (append-nil c.parts.page) ∙ ap (λ t. c.parts.page ++ t) (sym (ap (objects_text w) (none_left c.parts.later.now c.parts-test.ensures) ∙ no_objects w)) ∙ c.parts.invariant
