use Rattle.std.proofs.lemmas.Result.{err_from_is_err_and}
use Rattle.std.proofs.Common.{[], ◌∷◌, codes, refl, sym, ◌∙◌}
use Rattle.spec_value.specs.Datum.{same_text}
use Rattle.spec_faults.specs.Cutting.{field_at}
use Rattle.spec_faults.specs.Forms.{frame_form, native_form}
use Rattle.spec_faults.specs.Awaited.{by_form}
use Rattle.checkpoint_lines.specs.Rows.{row_fields}
use Rattle.checkpoint_lines.specs.Told.{line_fields}
use Rattle.task_lines.specs.Awaiting.{native_verdict, own_goes, own_verdict, rest_awaited}
use Rattle.task_lines.proofs.RowForms.{fault_there, formless, told_fault, verdict_row}
use Rattle.task_lines.proofs.EntryTold.{entry_forms, frame_has, native_has, verb_forms, native_forms, neither_forms, is_frame_word, is_native_word, own_verb, own_native, verdict_passed_on}
use Rattle.task_lines.proofs.entry.begun_by.Goals as goal

pub returns-in_err-head-clause-tells : goal.returns-in_err-head-clause-tells
returns-in_err-head-clause-tells c = λ is_fork w.
    let passed = err_from_is_err_and c.from_residual.result c.from_residual.ensures.1 in
    verdict_row c.from_residual.result passed.0 c.in_err-head.field-0.0 c.args.row.now (entry_forms (line_fields c.args.row.now)) (λ us. own_goes is_fork (same_text (field_at us 0) (codes "frame")) us) (rest_awaited is_fork) passed.1 (cc (passed.2))
    (fault_there c.args.row.now w (frame_form ∷ native_form ∷ []) frame_form c.in_err-head.field-0.0 (verb_forms (row_fields c.args.row.now) (frame_has (row_fields c.args.row.now) (sym c.has.ensures ∙ c.if-has.true) w.filled))
    (told_fault c.frame_head.result c.in_err-head.field-0.0 c.args.row.now frame_form c.in_err-head.was (c.frame_head.ensures.tells w (frame_has (row_fields c.args.row.now) (sym c.has.ensures ∙ c.if-has.true) w.filled))))

pub returns-then-has-clause-tells : goal.returns-then-has-clause-tells
returns-then-has-clause-tells c = λ is_fork w. own_verb c.args.row.now w is_fork c.in_ok-head.head.lines (frame_has (row_fields c.args.row.now) (sym c.has.ensures ∙ c.if-has.true) w.filled) (is_frame_word (row_fields c.args.row.now) 7 (sym c.has.ensures ∙ c.if-has.true)) (c.in_ok-head.ensures.tells w (frame_has (row_fields c.args.row.now) (sym c.has.ensures ∙ c.if-has.true) w.filled)) c.in_ok-head.ensures.said

pub returns-in_err-native-clause-tells : goal.returns-in_err-native-clause-tells
returns-in_err-native-clause-tells c = λ is_fork w.
    let passed = err_from_is_err_and c.from_residual-in_err-native.result c.from_residual-in_err-native.ensures.1 in
    verdict_passed_on c.from_residual-in_err-native.result passed.0 c.in_err-native.field-0.0 c.native.result c.args.row.now (own_verdict is_fork (line_fields c.args.row.now)) (by_form native_form (line_fields c.args.row.now) native_verdict) (rest_awaited is_fork) (λ _. []) passed.1 (cc (passed.2)) c.in_err-native.was
    (own_native c.args.row.now w is_fork (native_forms (row_fields c.args.row.now) (sym c.has.ensures ∙ c.if-has.false) (native_has (row_fields c.args.row.now) (sym c.has-2.ensures ∙ c.if-has-2.true) w.filled)) (is_native_word (row_fields c.args.row.now) 3 (sym c.has-2.ensures ∙ c.if-has-2.true))) (c.native.ensures.tells w (native_has (row_fields c.args.row.now) (sym c.has-2.ensures ∙ c.if-has-2.true) w.filled))

pub returns-then-has-2-clause-tells : goal.returns-then-has-2-clause-tells
returns-then-has-2-clause-tells c = λ is_fork w. own_native c.args.row.now w is_fork (native_forms (row_fields c.args.row.now) (sym c.has.ensures ∙ c.if-has.false) (native_has (row_fields c.args.row.now) (sym c.has-2.ensures ∙ c.if-has-2.true) w.filled)) (is_native_word (row_fields c.args.row.now) 3 (sym c.has-2.ensures ∙ c.if-has-2.true)) ∙ c.in_ok-native.ensures.tells w (native_has (row_fields c.args.row.now) (sym c.has-2.ensures ∙ c.if-has-2.true) w.filled)

pub returns-clause-tells : goal.returns-clause-tells
returns-clause-tells c = λ is_fork w.
    verdict_row _ c.fault.result c.fault.result c.args.row.now (entry_forms (line_fields c.args.row.now)) (λ us. own_goes is_fork (same_text (field_at us 0) (codes "frame")) us) (rest_awaited is_fork) refl refl
    (formless c.args.row.now w (frame_form ∷ native_form ∷ []) c.fault.result (neither_forms (row_fields c.args.row.now) (sym c.has.ensures ∙ c.if-has.false) (sym c.has-2.ensures ∙ c.if-has-2.false)) c.fault.ensures)
