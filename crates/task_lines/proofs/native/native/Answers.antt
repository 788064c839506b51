use Rattle.std.proofs.Common.{◌≡◌, ap, sym, ◌∙◌, []}
use Rattle.spec_value.specs.Datum.{list, of_list}
use Rattle.spec_world.specs.Checkpoint.{native_text}
use Rattle.line_fields.proofs.Lists.{items_same}
use Rattle.spec_faults.specs.Cutting.{field_at}
use Rattle.moo_task.specs.Frames.{native_name_of}
use Rattle.task_lines.proofs.LineWords.{native_stage}
use Rattle.task_lines.proofs.MannerWords.{stored_name}
use Rattle.spec_world.specs.WellFormed.{native_fits}
use Rattle.std.proofs.lemmas.Result.{err_from_is_err_and}
use Rattle.checkpoint_lines.proofs.Giving.{gives_passed}
use Rattle.spec_faults.specs.Forms.{native_form}
use Rattle.checkpoint_lines.specs.Rows.{row_fields}
use Rattle.task_lines.specs.Awaiting.{native_verdict}
use Rattle.task_lines.proofs.RowForms.{whole_none, number_fault, value_fault, verdict_row}
use Rattle.task_lines.proofs.EntryTold.{native_said, native_no_list, native_fit, native_unfit}
use Rattle.task_lines.proofs.OwnTests.{name_misspelt, stage_misspelt, native_spelt, arguments_no_value, native_values}
use Rattle.task_lines.proofs.native.native.Goals as goal

pub returns-in_err-name-clause-reads : goal.returns-in_err-name-clause-reads
returns-in_err-name-clause-reads c = λ n h e.
    let stored = stored_name n.name in
    let never = c.in_err-name.ensures.reads stored.0 (ap (λ ts. field_at ts 1) e ∙ ap native_text (sym stored.1)) in
    absurd (cc (never))

pub returns-in_err-stage-clause-reads : goal.returns-in_err-stage-clause-reads
returns-in_err-stage-clause-reads c = λ n h e.
    let stored = stored_name n.name in
    let name = c.in_ok-name.ensures.reads stored.0 (ap (λ ts. field_at ts 1) e ∙ ap native_text (sym stored.1)) in
    let stages = native_stage n.name n.stage n.arguments h.fits in
    let never = c.in_err-stage.ensures.reads n.stage stages.0 stages.1 (ap (λ ts. field_at ts 2) e) in
    absurd (cc (never))

pub returns-in_err-value-clause-reads : goal.returns-in_err-value-clause-reads
returns-in_err-value-clause-reads c = λ n h e.
    let stored = stored_name n.name in
    let name = c.in_ok-name.ensures.reads stored.0 (ap (λ ts. field_at ts 1) e ∙ ap native_text (sym stored.1)) in
    let stages = native_stage n.name n.stage n.arguments h.fits in
    let stage = c.in_ok-stage.ensures.reads n.stage stages.0 stages.1 (ap (λ ts. field_at ts 2) e) in
    let memory = c.in_err-value.ensures.reads (list (of_list n.arguments)) h.arguments (ap (λ ts. field_at ts 3) e) in
    let passed = err_from_is_err_and c.from_residual-in_err-value.result c.from_residual-in_err-value.ensures.1 in
    gives_passed c.from_residual-in_err-value.result passed.0 _ passed.1 (cc (passed.2, memory))

pub returns-in_default-clause-reads : goal.returns-in_default-clause-reads
returns-in_default-clause-reads c = λ n h e.
    let stored = stored_name n.name in
    let name = c.in_ok-name.ensures.reads stored.0 (ap (λ ts. field_at ts 1) e ∙ ap native_text (sym stored.1)) in
    let stages = native_stage n.name n.stage n.arguments h.fits in
    let stage = c.in_ok-stage.ensures.reads n.stage stages.0 stages.1 (ap (λ ts. field_at ts 2) e) in
    let value = c.in_ok-value.ensures.reads (list (of_list n.arguments)) h.arguments (ap (λ ts. field_at ts 3) e) in
    absurd (c.in_default.ensures.reads (of_list n.arguments) value)

pub returns-then-native_fits-clause-reads : goal.returns-then-native_fits-clause-reads
returns-then-native_fits-clause-reads c = λ n h e.
    let stored = stored_name n.name in
    let name = c.in_ok-name.ensures.reads stored.0 (ap (λ ts. field_at ts 1) e ∙ ap native_text (sym stored.1)) in
    let stages = native_stage n.name n.stage n.arguments h.fits in
    let stage = c.in_ok-stage.ensures.reads n.stage stages.0 stages.1 (ap (λ ts. field_at ts 2) e) in
    let value = c.in_ok-value.ensures.reads (list (of_list n.arguments)) h.arguments (ap (λ ts. field_at ts 3) e) in
    let same_name : c.in_ok-name.name ≡ stored.0 = cc (name) in
    let is_name = ap native_name_of same_name ∙ stored.1 in
    let is_stage : c.in_ok-stage.stage ≡ n.stage = cc (stage) in
    let items = items_same c.in-Some.arguments.now n.arguments (sym c.in-Some.ensures.reads ∙ value) in
    let is_arguments = c.in_ok-arguments.ensures ∙ items in
    (λ i. record { name = is_name i; stage = is_stage i; arguments = is_arguments i })

pub returns-clause-reads : goal.returns-clause-reads
returns-clause-reads c = λ n h e.
    let stored = stored_name n.name in
    let name = c.in_ok-name.ensures.reads stored.0 (ap (λ ts. field_at ts 1) e ∙ ap native_text (sym stored.1)) in
    let stages = native_stage n.name n.stage n.arguments h.fits in
    let stage = c.in_ok-stage.ensures.reads n.stage stages.0 stages.1 (ap (λ ts. field_at ts 2) e) in
    let value = c.in_ok-value.ensures.reads (list (of_list n.arguments)) h.arguments (ap (λ ts. field_at ts 3) e) in
    let same_name : c.in_ok-name.name ≡ stored.0 = cc (name) in
    let is_name = ap native_name_of same_name ∙ stored.1 in
    let is_stage : c.in_ok-stage.stage ≡ n.stage = cc (stage) in
    let items = items_same c.in-Some.arguments.now n.arguments (sym c.in-Some.ensures.reads ∙ value) in
    let is_arguments = c.in_ok-arguments.ensures ∙ items in
    let fits = c.native_fits.ensures ∙ (λ i. native_fits (is_name i) (is_stage i) (is_arguments i)) in
    absurd (cc (fits, h.fits, c.if-native_fits.false))

pub returns-in_err-name-clause-tells : goal.returns-in_err-name-clause-tells
returns-in_err-name-clause-tells c = λ w h.
    let passed = err_from_is_err_and c.from_residual.result c.from_residual.ensures.1 in
    verdict_row c.from_residual.result passed.0 c.in_err-name.field-0.0 c.args.row.now native_form native_verdict (λ _. []) passed.1 (cc (passed.2))
    (number_fault c.args.row.now native_form w c.name.result c.in_err-name.field-0.0 _ c.in_err-name.was c.name.ensures.tells h (name_misspelt (row_fields c.args.row.now) h))

pub returns-in_err-stage-clause-tells : goal.returns-in_err-stage-clause-tells
returns-in_err-stage-clause-tells c = λ w h.
    let passed = err_from_is_err_and c.from_residual-in_err-stage.result c.from_residual-in_err-stage.ensures.1 in
    verdict_row c.from_residual-in_err-stage.result passed.0 c.in_err-stage.field-0.0 c.args.row.now native_form native_verdict (λ _. []) passed.1 (cc (passed.2))
    (number_fault c.args.row.now native_form w c.stage.result c.in_err-stage.field-0.0 _ c.in_err-stage.was c.stage.ensures.tells h (stage_misspelt (row_fields c.args.row.now) h))

pub returns-in_err-value-clause-tells : goal.returns-in_err-value-clause-tells
returns-in_err-value-clause-tells c = λ w h.
    let passed = err_from_is_err_and c.from_residual-in_err-value.result c.from_residual-in_err-value.ensures.1 in
    verdict_row c.from_residual-in_err-value.result passed.0 c.in_err-value.field-0.0 c.args.row.now native_form native_verdict (λ _. []) passed.1 (cc (passed.2))
    (value_fault c.args.row.now native_form w c.value.result c.in_err-value.field-0.0 _ c.in_err-value.was c.value.ensures.tells h (native_spelt (row_fields c.args.row.now) h c.in_ok-name.ensures.tells c.in_ok-stage.ensures.tells) (arguments_no_value (row_fields c.args.row.now) h))

pub returns-in_default-clause-tells : goal.returns-in_default-clause-tells
returns-in_default-clause-tells c = λ w h.
    native_unfit c.args.row.now w _ c.fault.result c.fault.ensures (whole_none c.args.row.now native_form w h (native_spelt (row_fields c.args.row.now) h c.in_ok-name.ensures.tells c.in_ok-stage.ensures.tells) (native_values (row_fields c.args.row.now) h c.in_ok-value.ensures.tells))
    (native_no_list (row_fields c.args.row.now) c.in_ok-value.value c.in_ok-value.ensures.said c.in_default.ensures.reads)

pub returns-then-native_fits-clause-tells : goal.returns-then-native_fits-clause-tells
returns-then-native_fits-clause-tells c = λ w h.
    let same = native_said (row_fields c.args.row.now) c.in_ok-value.value c.in-Some.arguments.now (native_name_of c.in_ok-name.name) c.in_ok-stage.stage c.in_ok-value.ensures.said c.in-Some.ensures.reads c.in_ok-name.ensures.said c.in_ok-stage.ensures.said in
    native_fit c.args.row.now w (whole_none c.args.row.now native_form w h (native_spelt (row_fields c.args.row.now) h c.in_ok-name.ensures.tells c.in_ok-stage.ensures.tells) (native_values (row_fields c.args.row.now) h c.in_ok-value.ensures.tells))
    (same ∙ ap (native_fits (native_name_of c.in_ok-name.name) c.in_ok-stage.stage) (sym c.in_ok-arguments.ensures) ∙ sym c.native_fits.ensures ∙ c.if-native_fits.true)

pub returns-clause-tells : goal.returns-clause-tells
returns-clause-tells c = λ w h.
    let same = native_said (row_fields c.args.row.now) c.in_ok-value.value c.in-Some.arguments.now (native_name_of c.in_ok-name.name) c.in_ok-stage.stage c.in_ok-value.ensures.said c.in-Some.ensures.reads c.in_ok-name.ensures.said c.in_ok-stage.ensures.said in
    native_unfit c.args.row.now w _ c.fault-else-native_fits.result c.fault-else-native_fits.ensures (whole_none c.args.row.now native_form w h (native_spelt (row_fields c.args.row.now) h c.in_ok-name.ensures.tells c.in_ok-stage.ensures.tells) (native_values (row_fields c.args.row.now) h c.in_ok-value.ensures.tells))
    (same ∙ ap (native_fits (native_name_of c.in_ok-name.name) c.in_ok-stage.stage) (sym c.in_ok-arguments.ensures) ∙ sym c.native_fits.ensures ∙ c.if-native_fits.false)
