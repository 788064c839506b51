use Rattle.std.proofs.Common.{◌≡◌, ◌+◌, ◌++◌, [], ◌∷◌, length, take, ap, sym, ◌∙◌, rules, string_bytes}
use Rattle.spec_value.specs.Literal.{literal}
use Rattle.slot_content.specs.Kept.{literals, marks}
use Rattle.slot_content.proofs.Pieces.{literals_next, marks_next}
use Rattle.slot_content.proofs.kept.written.Goals as goal

pub loop-value-preserved : goal.loop-value-preserved
loop-value-preserved c =
    let vs = c.args.values.now in
    let i = c.loop-value.value-index in
    let next : literals (take (i + 1) vs) ≡ literals (take i vs) ++ literal c.value-item.result = rw c.value-item.is (literals_next vs i _ c.loop-value-test.true) in
    let text : string_bytes c.put_value.new.out ≡ literals (take (i + 1) vs) = c.in_ok-put_value.ensures ∙ ap (λ t. t ++ literal c.value-item.result) c.loop-value.invariant.0 ∙ sym next in
    let end : c.in-Ok.end ≡ length (literals (take (i + 1) vs)) = search rules in
    (text, c.in_ok-push-2.ensures.items ∙ ap (λ ms. ms ++ c.in-Ok.end ∷ []) c.loop-value.invariant.1 ∙ ap (λ n. marks 0 (take i vs) ++ n ∷ []) end ∙ sym (marks_next vs i c.value-item.result c.loop-value-test.true))
