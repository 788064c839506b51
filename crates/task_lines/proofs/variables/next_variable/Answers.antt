use Rattle.std.proofs.Common.{◌≡◌, refl, ap, [], ◌∷◌}
use Rattle.std.proofs.lemmas.Result.{err_from_is_err_and}
use Rattle.spec_value.proofs.Entries.{first_holds, second_holds}
use Rattle.spec_value.specs.Datum.{is_text}
use Rattle.line_fields.specs.Values.{is_readable}
use Rattle.spec_faults.specs.Cutting.{field_at}
use Rattle.checkpoint_lines.proofs.Giving.{gives_passed}
use Rattle.task_lines.proofs.LineWords.{variable_words, variable_are}
use Rattle.spec_faults.specs.Forms.{variable_form, string, literal}
use Rattle.spec_faults.specs.Awaited.{one, goes_on}
use Rattle.task_lines.proofs.Telling.{tells_passed}
use Rattle.task_lines.proofs.HeadedTold.{form_is_row, name_fails, value_fails, variable_goes}
use Rattle.task_lines.proofs.variables.next_variable.Goals as goal

pub returns-in_err-row-clause-reads : goal.returns-in_err-row-clause-reads
returns-in_err-row-clause-reads c = λ v rest h e.
    let memory = c.in_err-row.ensures.reads (variable_words v) rest refl (variable_are v h) refl e in
    let passed = err_from_is_err_and c.from_residual.result c.from_residual.ensures.1 in
    gives_passed c.from_residual.result passed.0 _ passed.1 (cc (passed.2, memory))

pub returns-in_err-name-clause-reads : goal.returns-in_err-name-clause-reads
returns-in_err-name-clause-reads c = λ v rest h e.
    let row = c.in_ok-row.ensures.reads (variable_words v) rest refl (variable_are v h) refl e in
    let memory = c.in_err-name.ensures.reads v.0 (first_holds (is_text v.0) (is_readable v.1) h) (ap (λ ts. field_at ts 1) row.0.0) in
    let passed = err_from_is_err_and c.from_residual-in_err-name.result c.from_residual-in_err-name.ensures.1 in
    gives_passed c.from_residual-in_err-name.result passed.0 _ passed.1 (cc (passed.2, memory))

pub returns-in_err-value-clause-reads : goal.returns-in_err-value-clause-reads
returns-in_err-value-clause-reads c = λ v rest h e.
    let row = c.in_ok-row.ensures.reads (variable_words v) rest refl (variable_are v h) refl e in
    let memory = c.in_err-value.ensures.reads v.1 (second_holds (is_text v.0) (is_readable v.1) h) (ap (λ ts. field_at ts 2) row.0.0) in
    let passed = err_from_is_err_and c.from_residual-in_err-value.result c.from_residual-in_err-value.ensures.1 in
    gives_passed c.from_residual-in_err-value.result passed.0 _ passed.1 (cc (passed.2, memory))

pub returns-clause-reads : goal.returns-clause-reads
returns-clause-reads c = λ v rest h e.
    let row = c.in_ok-row.ensures.reads (variable_words v) rest refl (variable_are v h) refl e in
    let name : c.in_ok-name.name ≡ v.0 = c.in_ok-name.ensures.reads v.0 (first_holds (is_text v.0) (is_readable v.1) h) (ap (λ ts. field_at ts 1) row.0.0) in
    let value : c.in_ok-value.value ≡ v.1 = c.in_ok-value.ensures.reads v.1 (second_holds (is_text v.0) (is_readable v.1) h) (ap (λ ts. field_at ts 2) row.0.0) in
    ((λ i. (name i, value i)), row.1)

pub returns-in_err-row-clause-tells : goal.returns-in_err-row-clause-tells
returns-in_err-row-clause-tells c =
    let passed = err_from_is_err_and c.from_residual.result c.from_residual.ensures.1 in
    tells_passed c.from_residual.result passed.0 c.in_err-row.field-0.0 c.args.lines.now _ (one variable_form ∷ []) (λ _. []) passed.1 (cc (passed.2))
    (λ room. c.in_err-row.ensures.tells room (one variable_form) (string ∷ literal ∷ []) (λ _. goes_on []) (form_is_row variable_form) refl refl)

pub returns-in_err-name-clause-tells : goal.returns-in_err-name-clause-tells
returns-in_err-name-clause-tells c =
    let passed = err_from_is_err_and c.from_residual-in_err-name.result c.from_residual-in_err-name.ensures.1 in
    tells_passed c.from_residual-in_err-name.result passed.0 c.in_err-name.field-0.0 c.args.lines.now _ (one variable_form ∷ []) (λ _. []) passed.1 (cc (passed.2))
    (λ room. let row = c.in_ok-row.ensures.tells room in name_fails c.in_ok-row.row c.args.lines.now _ row.0 row.1 c.text.result c.in_err-name.field-0.0 c.in_err-name.was c.text.ensures.tells)

pub returns-in_err-value-clause-tells : goal.returns-in_err-value-clause-tells
returns-in_err-value-clause-tells c =
    let passed = err_from_is_err_and c.from_residual-in_err-value.result c.from_residual-in_err-value.ensures.1 in
    tells_passed c.from_residual-in_err-value.result passed.0 c.in_err-value.field-0.0 c.args.lines.now _ (one variable_form ∷ []) (λ _. []) passed.1 (cc (passed.2))
    (λ room. let row = c.in_ok-row.ensures.tells room in value_fails c.in_ok-row.row c.args.lines.now _ row.0 row.1 c.value.result c.in_err-value.field-0.0 c.in_err-value.was c.value.ensures.tells)

pub returns-clause-tells : goal.returns-clause-tells
returns-clause-tells c = λ room.
    let row = c.in_ok-row.ensures.tells room in
    variable_goes c.in_ok-row.row c.args.lines.now _ row.0 row.1 c.in_ok-name.ensures.tells c.in_ok-value.ensures.tells
