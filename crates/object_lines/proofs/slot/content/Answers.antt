use Rattle.std.proofs.Common.{◌≡◌, true, None, refl, sym, ◌∙◌, codes}
use Rattle.spec_value.specs.Datum.{same_text}
use Rattle.spec_value.proofs.Same.{same_texts}
use Rattle.spec_checkpoint.proofs.Fields.{whole_content}
use Rattle.object_lines.proofs.slot.content.Goals as goal

pub returns-then-eq-clause-reads : goal.returns-then-eq-clause-reads
returns-then-eq-clause-reads c = λ d h k e.
    let same : same_text c.field.result.now c.as_slice.result.now ≡ true = sym c.eq.ensures ∙ c.if-eq.true in
    let is : c.field.result.now ≡ codes "clear" = same_texts c.field.result.now c.as_slice.result.now same ∙ c.as_slice.ensures in
    sym (whole_content d None h refl (sym e ∙ sym c.field.ensures ∙ is))
