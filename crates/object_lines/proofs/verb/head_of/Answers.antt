use Rattle.object_lines.proofs.RowFaults.{verb_owner_fails, verb_bits_fail, verb_direct_fails, verb_preposition_fails, verb_indirect_fails, verb_lines_fail, verb_names_fail, verb_stands}
use Rattle.checkpoint_lines.proofs.Going.{row_fails}
use Rattle.spec_faults.specs.Forms.{verb_form}
use Rattle.spec_faults.specs.Plain.{number_in, or_zero}
use Rattle.std.proofs.Common.{ap, ◌∙◌}
use Rattle.spec_faults.specs.Cutting.{field_at}
use Rattle.std.proofs.lemmas.Result.{err_from_is_err_and}
use Rattle.object_lines.proofs.verb.head_of.Goals as goal

pub returns-in_err-owner-clause-tells : goal.returns-in_err-owner-clause-tells
returns-in_err-owner-clause-tells c = λ headed filled. let passed = err_from_is_err_and c.from_residual.result c.from_residual.ensures.1 in row_fails c.from_residual.result passed.0 c.in_err-owner.field-0.0 c.args.row.now verb_form passed.1 passed.2 (verb_owner_fails c.args.row.now headed filled c.object.result c.in_err-owner.field-0.0 c.in_err-owner.was c.object.ensures.tells)

pub returns-in_err-bits-clause-tells : goal.returns-in_err-bits-clause-tells
returns-in_err-bits-clause-tells c = λ headed filled. let passed = err_from_is_err_and c.from_residual-in_err-bits.result c.from_residual-in_err-bits.ensures.1 in row_fails c.from_residual-in_err-bits.result passed.0 c.in_err-bits.field-0.0 c.args.row.now verb_form passed.1 passed.2 (verb_bits_fail c.args.row.now headed filled c.verb_bits.result c.in_err-bits.field-0.0 c.in_err-bits.was c.verb_bits.ensures.tells)

pub returns-in_err-direct-clause-tells : goal.returns-in_err-direct-clause-tells
returns-in_err-direct-clause-tells c = λ headed filled. let passed = err_from_is_err_and c.from_residual-in_err-direct.result c.from_residual-in_err-direct.ensures.1 in row_fails c.from_residual-in_err-direct.result passed.0 c.in_err-direct.field-0.0 c.args.row.now verb_form passed.1 passed.2 (verb_direct_fails c.args.row.now headed filled c.object_part.result c.in_err-direct.field-0.0 c.in_err-direct.was c.object_part.ensures.tells)

pub returns-in_err-preposition-clause-tells : goal.returns-in_err-preposition-clause-tells
returns-in_err-preposition-clause-tells c = λ headed filled. let passed = err_from_is_err_and c.from_residual-in_err-preposition.result c.from_residual-in_err-preposition.ensures.1 in row_fails c.from_residual-in_err-preposition.result passed.0 c.in_err-preposition.field-0.0 c.args.row.now verb_form passed.1 passed.2 (verb_preposition_fails c.args.row.now headed filled c.preposition_part.result c.in_err-preposition.field-0.0 c.in_err-preposition.was c.preposition_part.ensures.tells)

pub returns-in_err-indirect-clause-tells : goal.returns-in_err-indirect-clause-tells
returns-in_err-indirect-clause-tells c = λ headed filled. let passed = err_from_is_err_and c.from_residual-in_err-indirect.result c.from_residual-in_err-indirect.ensures.1 in row_fails c.from_residual-in_err-indirect.result passed.0 c.in_err-indirect.field-0.0 c.args.row.now verb_form passed.1 passed.2 (verb_indirect_fails c.args.row.now headed filled c.object_part-2.result c.in_err-indirect.field-0.0 c.in_err-indirect.was c.object_part-2.ensures.tells)

pub returns-in_err-lines-clause-tells : goal.returns-in_err-lines-clause-tells
returns-in_err-lines-clause-tells c = λ headed filled. let passed = err_from_is_err_and c.from_residual-in_err-lines.result c.from_residual-in_err-lines.ensures.1 in row_fails c.from_residual-in_err-lines.result passed.0 c.in_err-lines.field-0.0 c.args.row.now verb_form passed.1 passed.2 (verb_lines_fail c.args.row.now headed filled c.count.result c.in_err-lines.field-0.0 c.in_err-lines.was c.count.ensures.tells)

pub returns-in_err-names-clause-tells : goal.returns-in_err-names-clause-tells
returns-in_err-names-clause-tells c = λ headed filled. let passed = err_from_is_err_and c.from_residual-in_err-names.result c.from_residual-in_err-names.ensures.1 in row_fails c.from_residual-in_err-names.result passed.0 c.in_err-names.field-0.0 c.args.row.now verb_form passed.1 passed.2 (verb_names_fail c.args.row.now headed filled c.text.result c.in_err-names.field-0.0 c.in_err-names.was c.text.ensures.tells c.in_ok-owner.ensures.tells c.in_ok-bits.ensures.tells c.in_ok-direct.ensures.tells c.in_ok-preposition.ensures.tells c.in_ok-indirect.ensures.tells c.in_ok-lines.ensures.tells)

pub returns-clause-tells : goal.returns-clause-tells
returns-clause-tells c = λ headed filled. (verb_stands c.args.row.now headed filled c.in_ok-names.ensures.tells c.in_ok-owner.ensures.tells c.in_ok-bits.ensures.tells c.in_ok-direct.ensures.tells c.in_ok-preposition.ensures.tells c.in_ok-indirect.ensures.tells c.in_ok-lines.ensures.tells).1

pub returns-clause-many : goal.returns-clause-many
returns-clause-many c = λ headed filled. ap (λ ts. number_in (field_at ts 7)) (verb_stands c.args.row.now headed filled c.in_ok-names.ensures.tells c.in_ok-owner.ensures.tells c.in_ok-bits.ensures.tells c.in_ok-direct.ensures.tells c.in_ok-preposition.ensures.tells c.in_ok-indirect.ensures.tells c.in_ok-lines.ensures.tells).0 ∙ ap or_zero c.in_ok-lines.ensures.said
