use Rattle.std.proofs.Common.{◌≡◌, ◌∷◌, [], refl, ap, ◌∙◌, subst, MatchOption, sym, is_some}
use Rattle.std.proofs.lemmas.Result.{err_from_is_err_and}
use Rattle.spec_value.specs.Datum.{list, of_list}
use Rattle.spec_world.specs.Checkpoint.{start_values}
use Rattle.line_fields.specs.Fields.{held}
use Rattle.spec_faults.specs.Cutting.{field_at}
use Rattle.checkpoint_lines.proofs.Giving.{gives_passed}
use Rattle.task_lines.proofs.LineWords.{start_are, start_readable}
use Rattle.spec_faults.specs.Literals.{is_literal, is_start}
use Rattle.spec_faults.specs.Forms as form
use Rattle.spec_faults.specs.Forms.{start_form}
use Rattle.spec_faults.specs.Awaited.{one, goes_on}
use Rattle.checkpoint_lines.specs.Told.{TellsFault}
use Rattle.task_lines.proofs.Telling.{tells_passed}
use Rattle.task_lines.proofs.HeadedTold.{form_is_row, start_fails, no_start, start_goes}
use Rattle.task_lines.proofs.start.next_start.Goals as goal

pub returns-in_err-row-clause-reads : goal.returns-in_err-row-clause-reads
returns-in_err-row-clause-reads c = λ s rest h e.
    let memory = c.in_err-row.ensures.reads (held (list (of_list (start_values s))) ∷ []) rest refl (start_are s h) refl e in
    let passed = err_from_is_err_and c.from_residual.result c.from_residual.ensures.1 in
    gives_passed c.from_residual.result passed.0 _ passed.1 (cc (passed.2, memory))

pub returns-in_err-value-clause-reads : goal.returns-in_err-value-clause-reads
returns-in_err-value-clause-reads c = λ s rest h e.
    let row = c.in_ok-row.ensures.reads (held (list (of_list (start_values s))) ∷ []) rest refl (start_are s h) refl e in
    let memory = c.in_err-value.ensures.reads (list (of_list (start_values s))) (start_readable s h) (ap (λ ts. field_at ts 1) row.0.0) in
    let passed = err_from_is_err_and c.from_residual-in_err-value.result c.from_residual-in_err-value.ensures.1 in
    gives_passed c.from_residual-in_err-value.result passed.0 _ passed.1 (cc (passed.2, memory))

pub returns-in-Some-clause-reads : goal.returns-in-Some-clause-reads
returns-in-Some-clause-reads c = λ s rest h e.
    let row = c.in_ok-row.ensures.reads (held (list (of_list (start_values s))) ∷ []) rest refl (start_are s h) refl e in
    let value = c.in_ok-value.ensures.reads (list (of_list (start_values s))) (start_readable s h) (ap (λ ts. field_at ts 1) row.0.0) in
    let found = c.in_ok-found.ensures.reads s value in
    let here : c.in-Some.start ≡ s = subst (λ o. MatchOption o ⊥ (λ t. t ≡ s)) c.in-Some.is found in
    (c.in_ok-new-in-Some.ensures ∙ here, row.1)

pub returns-clause-reads : goal.returns-clause-reads
returns-clause-reads c = λ s rest h e.
    let row = c.in_ok-row.ensures.reads (held (list (of_list (start_values s))) ∷ []) rest refl (start_are s h) refl e in
    let value = c.in_ok-value.ensures.reads (list (of_list (start_values s))) (start_readable s h) (ap (λ ts. field_at ts 1) row.0.0) in
    let found = c.in_ok-found.ensures.reads s value in
    absurd (subst (λ o. MatchOption o ⊥ (λ t. t ≡ s)) c.in-None.is found)

pub returns-in_err-row-clause-tells : goal.returns-in_err-row-clause-tells
returns-in_err-row-clause-tells c =
    let passed = err_from_is_err_and c.from_residual.result c.from_residual.ensures.1 in
    tells_passed c.from_residual.result passed.0 c.in_err-row.field-0.0 c.args.lines.now _ (one start_form ∷ []) (λ _. []) passed.1 (cc (passed.2))
    (λ room. c.in_err-row.ensures.tells room (one start_form) (form.value (is_literal is_start) ∷ []) (λ _. goes_on []) (form_is_row start_form) refl refl)

pub returns-in_err-value-clause-tells : goal.returns-in_err-value-clause-tells
returns-in_err-value-clause-tells c =
    let passed = err_from_is_err_and c.from_residual-in_err-value.result c.from_residual-in_err-value.ensures.1 in
    tells_passed c.from_residual-in_err-value.result passed.0 c.in_err-value.field-0.0 c.args.lines.now _ (one start_form ∷ []) (λ _. []) passed.1 (cc (passed.2))
    (λ room. let row = c.in_ok-row.ensures.tells room in start_fails c.in_ok-row.row c.args.lines.now _ row.0 row.1 c.value.result c.in_err-value.field-0.0 c.in_err-value.was c.value.ensures.tells)

pub returns-in-Some-clause-tells : goal.returns-in-Some-clause-tells
returns-in-Some-clause-tells c = λ room.
    let row = c.in_ok-row.ensures.tells room in
    start_goes c.in_ok-row.row c.args.lines.now _ row.0 row.1 c.in_ok-value.value c.in_ok-value.ensures.said (sym c.in_ok-found.ensures.fault ∙ ap is_some c.in-Some.is)

pub returns-clause-tells : goal.returns-clause-tells
returns-clause-tells c = λ room.
    let row = c.in_ok-row.ensures.tells room in
    subst (λ e. TellsFault e c.args.lines.now (one start_form ∷ [])) (sym c.fault.ensures)
    (no_start c.in_ok-row.row c.args.lines.now _ row.0 row.1 c.in_ok-value.value c.in_ok-value.ensures.said (sym c.in_ok-found.ensures.fault ∙ ap is_some c.in-None.is))
