use Rattle.std.proofs.Common.{rules, w32, SFits, to_z, of_z, ◌≡◌, ap, ◌∙◌}
use Rattle.std.proofs.lemmas.Int.{to_z-of_z}
use Rattle.std.proofs.lemmas.Result.{err_from_is_err_and}
use Rattle.spec_value.specs.Datum.{in_number_range, is_text}
use Rattle.spec_value.proofs.Entries.{first_holds, second_holds}
use Rattle.spec_faults.specs.Cutting.{field_at}
use Rattle.checkpoint_lines.proofs.Giving.{gives_passed}
use Rattle.spec_faults.specs.Forms.{frame_form}
use Rattle.checkpoint_lines.specs.Rows.{row_fields}
use Rattle.task_lines.proofs.RowForms.{whole_none, number_fault, value_fault, row_passed}
use Rattle.task_lines.proofs.OwnTests.{this_misspelt, caller_misspelt, definer_misspelt, programmer_misspelt, debug_misspelt, lines_misspelt, frame_spelt, verb_no_value, frame_values}
use Rattle.task_lines.proofs.head.frame_head.Goals as goal

pub returns-in_err-this-clause-reads : goal.returns-in_err-this-clause-reads
returns-in_err-this-clause-reads c = λ m n h small e.
    let never = c.in_err-this.ensures.reads m.this (first_holds (in_number_range m.this) _ h) (ap (λ ts. field_at ts 1) e) in
    absurd (cc (never))

pub returns-in_err-caller-clause-reads : goal.returns-in_err-caller-clause-reads
returns-in_err-caller-clause-reads c = λ m n h small e.
    let never = c.in_err-caller.ensures.reads m.caller (first_holds (in_number_range m.caller) _ (second_holds (in_number_range m.this) _ h)) (ap (λ ts. field_at ts 2) e) in
    absurd (cc (never))

pub returns-in_err-definer-clause-reads : goal.returns-in_err-definer-clause-reads
returns-in_err-definer-clause-reads c = λ m n h small e.
    let never = c.in_err-definer.ensures.reads m.definer (first_holds (in_number_range m.definer) _ (second_holds (in_number_range m.caller) _ (second_holds (in_number_range m.this) _ h))) (ap (λ ts. field_at ts 3) e) in
    absurd (cc (never))

pub returns-in_err-programmer-clause-reads : goal.returns-in_err-programmer-clause-reads
returns-in_err-programmer-clause-reads c = λ m n h small e.
    let never = c.in_err-programmer.ensures.reads m.programmer (first_holds (in_number_range m.programmer) (is_text m.verb) (second_holds (in_number_range m.definer) _ (second_holds (in_number_range m.caller) _ (second_holds (in_number_range m.this) _ h)))) (ap (λ ts. field_at ts 4) e) in
    absurd (cc (never))

pub returns-in_err-debug-clause-reads : goal.returns-in_err-debug-clause-reads
returns-in_err-debug-clause-reads c = λ m n h small e.
    let never = c.in_err-debug.ensures.reads m.debug (ap (λ ts. field_at ts 6) e) in
    absurd (cc (never))

pub returns-in_err-lines-clause-reads : goal.returns-in_err-lines-clause-reads
returns-in_err-lines-clause-reads c = λ m n h small e.
    let never = c.in_err-lines.ensures.reads n small (ap (λ ts. field_at ts 7) e) in
    absurd (cc (never))

pub returns-in_err-verb-clause-reads : goal.returns-in_err-verb-clause-reads
returns-in_err-verb-clause-reads c = λ m n h small e.
    let memory = c.in_err-verb.ensures.reads m.verb (second_holds (in_number_range m.programmer) (is_text m.verb) (second_holds (in_number_range m.definer) _ (second_holds (in_number_range m.caller) _ (second_holds (in_number_range m.this) _ h)))) (ap (λ ts. field_at ts 5) e) in
    let passed = err_from_is_err_and c.from_residual-in_err-verb.result c.from_residual-in_err-verb.ensures.1 in
    gives_passed c.from_residual-in_err-verb.result passed.0 _ passed.1 (cc (passed.2, memory))

pub returns-clause-reads : goal.returns-clause-reads
returns-clause-reads c = λ m n h small e.
    let ok_this = c.in_ok-this.ensures.reads m.this (first_holds (in_number_range m.this) _ h) (ap (λ ts. field_at ts 1) e) in
    let same_this : c.in_ok-this.this ≡ m.this = cc (ok_this) in
    let fits_this : SFits w32 c.in_ok-this.this = search rules in
    let is_this : to_z w32 (of_z w32 c.in_ok-this.this) ≡ m.this = to_z-of_z w32 c.in_ok-this.this fits_this ∙ same_this in
    let ok_caller = c.in_ok-caller.ensures.reads m.caller (first_holds (in_number_range m.caller) _ (second_holds (in_number_range m.this) _ h)) (ap (λ ts. field_at ts 2) e) in
    let same_caller : c.in_ok-caller.caller ≡ m.caller = cc (ok_caller) in
    let fits_caller : SFits w32 c.in_ok-caller.caller = search rules in
    let is_caller : to_z w32 (of_z w32 c.in_ok-caller.caller) ≡ m.caller = to_z-of_z w32 c.in_ok-caller.caller fits_caller ∙ same_caller in
    let ok_definer = c.in_ok-definer.ensures.reads m.definer (first_holds (in_number_range m.definer) _ (second_holds (in_number_range m.caller) _ (second_holds (in_number_range m.this) _ h))) (ap (λ ts. field_at ts 3) e) in
    let same_definer : c.in_ok-definer.definer ≡ m.definer = cc (ok_definer) in
    let fits_definer : SFits w32 c.in_ok-definer.definer = search rules in
    let is_definer : to_z w32 (of_z w32 c.in_ok-definer.definer) ≡ m.definer = to_z-of_z w32 c.in_ok-definer.definer fits_definer ∙ same_definer in
    let ok_programmer = c.in_ok-programmer.ensures.reads m.programmer (first_holds (in_number_range m.programmer) (is_text m.verb) (second_holds (in_number_range m.definer) _ (second_holds (in_number_range m.caller) _ (second_holds (in_number_range m.this) _ h)))) (ap (λ ts. field_at ts 4) e) in
    let same_programmer : c.in_ok-programmer.programmer ≡ m.programmer = cc (ok_programmer) in
    let fits_programmer : SFits w32 c.in_ok-programmer.programmer = search rules in
    let is_programmer : to_z w32 (of_z w32 c.in_ok-programmer.programmer) ≡ m.programmer = to_z-of_z w32 c.in_ok-programmer.programmer fits_programmer ∙ same_programmer in
    let ok_debug = c.in_ok-debug.ensures.reads m.debug (ap (λ ts. field_at ts 6) e) in
    let is_debug : c.in_ok-debug.debug ≡ m.debug = cc (ok_debug) in
    let ok_lines = c.in_ok-lines.ensures.reads n small (ap (λ ts. field_at ts 7) e) in
    let is_lines : c.in_ok-lines.lines ≡ n = cc (ok_lines) in
    let is_verb : c.in_ok-verb.verb ≡ m.verb = c.in_ok-verb.ensures.reads m.verb (second_holds (in_number_range m.programmer) (is_text m.verb) (second_holds (in_number_range m.definer) _ (second_holds (in_number_range m.caller) _ (second_holds (in_number_range m.this) _ h)))) (ap (λ ts. field_at ts 5) e) in
    (c.call_of-call.ensures ∙ (λ i. record { this = is_this i; caller = is_caller i; definer = is_definer i; programmer = is_programmer i; verb = is_verb i; debug = is_debug i }), is_lines)

pub returns-in_err-this-clause-tells : goal.returns-in_err-this-clause-tells
returns-in_err-this-clause-tells c = λ w h.
    let passed = err_from_is_err_and c.from_residual.result c.from_residual.ensures.1 in
    row_passed c.from_residual.result passed.0 c.in_err-this.field-0.0 c.args.row.now frame_form passed.1 (cc (passed.2))
    (number_fault c.args.row.now frame_form w c.object.result c.in_err-this.field-0.0 _ c.in_err-this.was c.object.ensures.tells h (this_misspelt (row_fields c.args.row.now) h))

pub returns-in_err-caller-clause-tells : goal.returns-in_err-caller-clause-tells
returns-in_err-caller-clause-tells c = λ w h.
    let passed = err_from_is_err_and c.from_residual-in_err-caller.result c.from_residual-in_err-caller.ensures.1 in
    row_passed c.from_residual-in_err-caller.result passed.0 c.in_err-caller.field-0.0 c.args.row.now frame_form passed.1 (cc (passed.2))
    (number_fault c.args.row.now frame_form w c.object-2.result c.in_err-caller.field-0.0 _ c.in_err-caller.was c.object-2.ensures.tells h (caller_misspelt (row_fields c.args.row.now) h))

pub returns-in_err-definer-clause-tells : goal.returns-in_err-definer-clause-tells
returns-in_err-definer-clause-tells c = λ w h.
    let passed = err_from_is_err_and c.from_residual-in_err-definer.result c.from_residual-in_err-definer.ensures.1 in
    row_passed c.from_residual-in_err-definer.result passed.0 c.in_err-definer.field-0.0 c.args.row.now frame_form passed.1 (cc (passed.2))
    (number_fault c.args.row.now frame_form w c.object-3.result c.in_err-definer.field-0.0 _ c.in_err-definer.was c.object-3.ensures.tells h (definer_misspelt (row_fields c.args.row.now) h))

pub returns-in_err-programmer-clause-tells : goal.returns-in_err-programmer-clause-tells
returns-in_err-programmer-clause-tells c = λ w h.
    let passed = err_from_is_err_and c.from_residual-in_err-programmer.result c.from_residual-in_err-programmer.ensures.1 in
    row_passed c.from_residual-in_err-programmer.result passed.0 c.in_err-programmer.field-0.0 c.args.row.now frame_form passed.1 (cc (passed.2))
    (number_fault c.args.row.now frame_form w c.object-4.result c.in_err-programmer.field-0.0 _ c.in_err-programmer.was c.object-4.ensures.tells h (programmer_misspelt (row_fields c.args.row.now) h))

pub returns-in_err-debug-clause-tells : goal.returns-in_err-debug-clause-tells
returns-in_err-debug-clause-tells c = λ w h.
    let passed = err_from_is_err_and c.from_residual-in_err-debug.result c.from_residual-in_err-debug.ensures.1 in
    row_passed c.from_residual-in_err-debug.result passed.0 c.in_err-debug.field-0.0 c.args.row.now frame_form passed.1 (cc (passed.2))
    (number_fault c.args.row.now frame_form w c.flag.result c.in_err-debug.field-0.0 _ c.in_err-debug.was c.flag.ensures.tells h (debug_misspelt (row_fields c.args.row.now) h))

pub returns-in_err-lines-clause-tells : goal.returns-in_err-lines-clause-tells
returns-in_err-lines-clause-tells c = λ w h.
    let passed = err_from_is_err_and c.from_residual-in_err-lines.result c.from_residual-in_err-lines.ensures.1 in
    row_passed c.from_residual-in_err-lines.result passed.0 c.in_err-lines.field-0.0 c.args.row.now frame_form passed.1 (cc (passed.2))
    (number_fault c.args.row.now frame_form w c.count.result c.in_err-lines.field-0.0 _ c.in_err-lines.was c.count.ensures.tells h (lines_misspelt (row_fields c.args.row.now) h))

pub returns-in_err-verb-clause-tells : goal.returns-in_err-verb-clause-tells
returns-in_err-verb-clause-tells c = λ w h.
    let passed = err_from_is_err_and c.from_residual-in_err-verb.result c.from_residual-in_err-verb.ensures.1 in
    row_passed c.from_residual-in_err-verb.result passed.0 c.in_err-verb.field-0.0 c.args.row.now frame_form passed.1 (cc (passed.2))
    (value_fault c.args.row.now frame_form w c.text.result c.in_err-verb.field-0.0 _ c.in_err-verb.was c.text.ensures.tells h
    (frame_spelt (row_fields c.args.row.now) h c.in_ok-this.ensures.tells c.in_ok-caller.ensures.tells c.in_ok-definer.ensures.tells c.in_ok-programmer.ensures.tells c.in_ok-debug.ensures.tells c.in_ok-lines.ensures.tells)
    (verb_no_value (row_fields c.args.row.now) h))

pub returns-clause-tells : goal.returns-clause-tells
returns-clause-tells c = λ w h.
    whole_none c.args.row.now frame_form w h
    (frame_spelt (row_fields c.args.row.now) h c.in_ok-this.ensures.tells c.in_ok-caller.ensures.tells c.in_ok-definer.ensures.tells c.in_ok-programmer.ensures.tells c.in_ok-debug.ensures.tells c.in_ok-lines.ensures.tells)
    (frame_values (row_fields c.args.row.now) h c.in_ok-verb.ensures.tells)
