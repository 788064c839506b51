use Rattle.std.proofs.Common.{◌≡◌, IsTrue, ap, sym, subst, ◌∙◌}
use Rattle.view.specs.Parts.{preposition_part_of}
use Rattle.checkpoint_lines.specs.Gives.{Gives}
use Rattle.spec_world.specs.Checkpoint.{preposition_number}
use Rattle.object_lines.specs.Readable.{is_preposition_read}
use Rattle.object_lines.proofs.Rows.{set_number, no_preposition_is, any_preposition_is, some_set}
use Rattle.object_lines.proofs.verb.preposition_part.Goals as goal

pub returns-then-is_none-clause-reads : goal.returns-then-is_none-clause-reads
returns-then-is_none-clause-reads c = λ p h e. no_preposition_is p h (sym e ∙ sym c.field-field.ensures ∙ c.is_none.ensures.0 c.if-is_none.true)

pub returns-then-is_any-clause-reads : goal.returns-then-is_any-clause-reads
returns-then-is_any-clause-reads c = λ p h e. any_preposition_is p h (sym e ∙ sym c.field-field.ensures ∙ c.is_any.ensures.0 c.if-is_any.true)

pub returns-clause-reads : goal.returns-clause-reads
returns-clause-reads c = λ p h e.
    let set = some_set p (λ k. let yes = c.is_none.ensures.1 (c.field-field.ensures ∙ e ∙ k) in cc (yes, c.if-is_none.false)) (λ k. let yes = c.is_any.ensures.1 (c.field-field.ensures ∙ e ∙ k) in cc (yes, c.if-is_any.false)) in
    let low = set_number set.0 (subst (λ q. IsTrue (is_preposition_read q)) set.1 h) in
    subst (λ q. Gives c.preposition_set.result (λ r. preposition_part_of r ≡ q)) (sym set.1) (c.preposition_set.ensures.reads set.0 low (c.field-field.ensures ∙ e ∙ ap preposition_number set.1))
