use Rattle.std.proofs.lemmas.Result.{err_from_is_err_and}
use Rattle.checkpoint_lines.specs.Rows.{row_fields}
use Rattle.task_lines.specs.declared.waiting.Manner.TheVariants.{Wait}
use Rattle.task_lines.specs.Awaiting.{form_of}
use Rattle.task_lines.proofs.Telling.{form_length}
use Rattle.task_lines.proofs.RowForms.{whole_none, number_fault, value_fault, row_passed}
use Rattle.task_lines.proofs.WaitingTold.{wait_misspelt, wait_spelt, wait_no_value, wait_values}
use Rattle.task_lines.proofs.waiting.timed.Goals as goal

pub returns-in_err-due-clause-tells : goal.returns-in_err-due-clause-tells
returns-in_err-due-clause-tells c = λ w h id.
    let passed = err_from_is_err_and c.from_residual.result c.from_residual.ensures.1 in
    row_passed c.from_residual.result passed.0 c.in_err-due.field-0.0 c.args.row.now (form_of Wait) passed.1 (cc (passed.2))
    (number_fault c.args.row.now (form_of Wait) w c.moment.result c.in_err-due.field-0.0 _ c.in_err-due.was c.moment.ensures.tells h (wait_misspelt (row_fields c.args.row.now) (form_length (form_of Wait) (row_fields c.args.row.now) h)))

pub returns-in_err-value-clause-tells : goal.returns-in_err-value-clause-tells
returns-in_err-value-clause-tells c = λ w h id.
    let passed = err_from_is_err_and c.from_residual-in_err-value.result c.from_residual-in_err-value.ensures.1 in
    row_passed c.from_residual-in_err-value.result passed.0 c.in_err-value.field-0.0 c.args.row.now (form_of Wait) passed.1 (cc (passed.2))
    (value_fault c.args.row.now (form_of Wait) w c.value.result c.in_err-value.field-0.0 _ c.in_err-value.was c.value.ensures.tells h (wait_spelt (row_fields c.args.row.now) id (form_length (form_of Wait) (row_fields c.args.row.now) h) c.in_ok-due.ensures.tells) (wait_no_value (row_fields c.args.row.now) (form_length (form_of Wait) (row_fields c.args.row.now) h)))

pub returns-clause-tells : goal.returns-clause-tells
returns-clause-tells c = λ w h id. whole_none c.args.row.now (form_of Wait) w h (wait_spelt (row_fields c.args.row.now) id (form_length (form_of Wait) (row_fields c.args.row.now) h) c.in_ok-due.ensures.tells) (wait_values (row_fields c.args.row.now) (form_length (form_of Wait) (row_fields c.args.row.now) h) c.in_ok-value.ensures.tells)
