use Rattle.std.proofs.Common.{◌≡◌, [], ◌∷◌, true, refl, ap}
use Rattle.spec_value.specs.Datum.{list, of_list}
use Rattle.spec_value.proofs.Entries.{both_hold}
use Rattle.spec_world.specs.Checkpoint.{object_list}
use Rattle.spec_checkpoint.proofs.Fields.{values_hold, objects_hold}
use Rattle.line_fields.specs.Fields.{held, is_field}
use Rattle.checkpoint_lines.specs.Rows.{Left}
use Rattle.spec_faults.specs.Cutting.{field_at}
use Rattle.std.proofs.lemmas.Result.{err_from_is_err_and}
use Rattle.checkpoint_lines.proofs.Giving.{gives_and, gives_passed}
use Rattle.spec_faults.specs.Forms as form
use Rattle.spec_faults.specs.Literals.{is_literal, is_list_of, is_object_value}
use Rattle.spec_faults.specs.Awaited.{one, goes_on}
use Rattle.checkpoint_lines.proofs.Telling.{literal_one}
use Rattle.checkpoint_lines.proofs.OneField.{value_told}
use Rattle.checkpoint_lines.proofs.Going.{one_row}
use Rattle.checkpoint_lines.proofs.RowsTold.{passed_headed}
use Rattle.checkpoint_lines.proofs.lines.Lines.next_objects.Goals as goal

pub returns-in_err-row-clause-reads : goal.returns-in_err-row-clause-reads
returns-in_err-row-clause-reads c = λ os rest w h e.
    let memory = c.in_err-row.ensures.reads (held (list (of_list (object_list os))) ∷ []) rest w (both_hold (is_field (held (list (of_list (object_list os))))) true (values_hold (object_list os) (objects_hold os h)) refl) refl e in
    let passed = err_from_is_err_and c.from_residual.result c.from_residual.ensures.1 in
    gives_passed c.from_residual.result passed.0 _ passed.1 (cc (passed.2, memory))

pub returns-clause-reads : goal.returns-clause-reads
returns-clause-reads c = λ os rest w h e.
    let row = c.in_ok-row.ensures.reads (held (list (of_list (object_list os))) ∷ []) rest w (both_hold (is_field (held (list (of_list (object_list os))))) true (values_hold (object_list os) (objects_hold os h)) refl) refl e in
    gives_and c.objects.result (λ v. v.items ≡ os) (Left c.next_with.new.self rest) (c.objects.ensures.reads os h (ap (λ ts. field_at ts 1) row.0.0)) row.1

pub returns-in_err-row-clause-tells : goal.returns-in_err-row-clause-tells
returns-in_err-row-clause-tells c =
    let passed = err_from_is_err_and c.from_residual.result c.from_residual.ensures.1 in
    passed_headed c.from_residual.result c.in_err-row.field-0.0 passed.0 c.args.self.now c.next_with.new.self c.args.word.now 1 (one (form.word c.args.word.now ∷ form.value (is_literal (is_list_of is_object_value)) ∷ [])) (form.value (is_literal (is_list_of is_object_value)) ∷ []) (λ ts. goes_on []) (λ x. []) passed.1 passed.2 c.in_err-row.ensures.tells (one_row (form.word c.args.word.now ∷ form.value (is_literal (is_list_of is_object_value)) ∷ [])) refl refl

pub returns-clause-tells : goal.returns-clause-tells
returns-clause-tells c =
    value_told c.in_ok-row.row c.args.self.now c.next_with.new.self c.args.word.now (is_literal (is_list_of is_object_value)) (literal_one (is_list_of is_object_value)) (one (form.word c.args.word.now ∷ form.value (is_literal (is_list_of is_object_value)) ∷ [])) (λ ts. goes_on []) (λ x. []) c.in_ok-row.ensures.tells c.objects.result (one_row (form.word c.args.word.now ∷ form.value (is_literal (is_list_of is_object_value)) ∷ [])) c.objects.ensures.tells (λ x is. refl)
