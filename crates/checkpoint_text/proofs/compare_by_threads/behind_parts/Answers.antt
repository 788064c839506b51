use Rattle.std.proofs.Common.{◌≡◌, ◌++◌, List, String, Global, drop, string_bytes, sym, ap, subst, ◌∙◌}
use Rattle.std.specs.List.{flat_map}
use Rattle.std.proofs.lemmas.List.{take-append-drop}
use Rattle.spec_value.specs.Datum.{Text}
use Rattle.checkpoint_text.specs.Behind.{BeginsOtherwise}
use Rattle.checkpoint_text.specs.Parts.{objects_text}
use Rattle.checkpoint_text.proofs.Behind.{next_part, no_part, no_more}
use Rattle.checkpoint_text.proofs.Pieces.{objects_behind, no_objects, none_left}
use Rattle.checkpoint_text.proofs.compare_by_threads.behind_parts.Goals as goal

abbrev all : List (String Global) → Text
all pieces = flat_map (λ t. string_bytes t) pieces

pub returns-in-None : goal.returns-in-None
returns-in-None g c =
    let w = c.args.snapshot.now in
    let later = c.parts.later.now in
    let part = c.split_at.result.0.now in
    let others = c.split_at.result.1.now in
    let cut : later ≡ part ++ others =
    sym (take-append-drop c.min.result later) ∙ ap (λ ks. ks ++ drop c.min.result later) (sym c.split_at.ensures.front) ∙ ap (λ ks. part ++ ks) (sym c.split_at.ensures.back) in
    let next : objects_text w later ≡ objects_text w part ++ objects_text w others = ap (objects_text w) cut ∙ objects_behind w part others in
    let text : all c.deref.result.now ≡ objects_text w part = ap all c.deref.ensures.value ∙ c.in_ok-pieces.ensures in
    no_part (objects_text w c.args.numbers.now) (objects_text w later) (objects_text w part) (objects_text w others) c.args.bytes.now c.parts.left.now next
    (subst (λ t. BeginsOtherwise t c.parts.left.now) text c.in-None.ensures) c.parts.invariant

pub parts-preserved : goal.parts-preserved
parts-preserved g c =
    let w = c.args.snapshot.now in
    let later = c.parts.later.now in
    let part = c.split_at.result.0.now in
    let others = c.split_at.result.1.now in
    let cut : later ≡ part ++ others =
    sym (take-append-drop c.min.result later) ∙ ap (λ ks. ks ++ drop c.min.result later) (sym c.split_at.ensures.front) ∙ ap (λ ks. part ++ ks) (sym c.split_at.ensures.back) in
    let next : objects_text w later ≡ objects_text w part ++ objects_text w others = ap (objects_text w) cut ∙ objects_behind w part others in
    let text : all c.deref.result.now ≡ objects_text w part = ap all c.deref.ensures.value ∙ c.in_ok-pieces.ensures in
    next_part (objects_text w c.args.numbers.now) (objects_text w later) (objects_text w part) (objects_text w others) c.args.bytes.now c.parts.left.now c.in-Some.rest.now next
    (c.in-Some.ensures ∙ ap (λ t. t ++ c.in-Some.rest.now) text) c.parts.invariant

pub returns : goal.returns
returns g c =
    let w = c.args.snapshot.now in
    no_more (objects_text w c.args.numbers.now) (objects_text w c.parts.later.now) c.args.bytes.now c.parts.left.now
    (ap (objects_text w) (none_left c.parts.later.now c.parts-test.ensures) ∙ no_objects w) c.parts.invariant
