use Rattle.std.proofs.Common.{◌≡◌, [], ◌∷◌, true, refl, ap}
use Rattle.spec_value.proofs.Entries.{both_hold}
use Rattle.spec_world.specs.Checkpoint as written
use Rattle.spec_world.specs.Checkpoint.{object_text, object_list, text_list}
use Rattle.line_fields.specs.Fields.{word, is_field}
use Rattle.line_fields.proofs.Words.{word_flag}
use Rattle.checkpoint_lines.specs.Rows.{Left}
use Rattle.spec_faults.specs.Cutting.{field_at}
use Rattle.std.proofs.lemmas.Result.{err_from_is_err_and}
use Rattle.checkpoint_lines.proofs.Giving.{gives_ok, gives_passed}
use Rattle.spec_faults.specs.Forms as form
use Rattle.spec_faults.specs.Plain.{is_flag}
use Rattle.spec_faults.specs.Awaited.{one, goes_on}
use Rattle.checkpoint_lines.proofs.Telling.{flag_one}
use Rattle.checkpoint_lines.proofs.OneField.{other_told}
use Rattle.checkpoint_lines.proofs.Going.{one_row}
use Rattle.checkpoint_lines.proofs.RowsTold.{passed_headed}
use Rattle.checkpoint_lines.proofs.lines.Lines.next_flag.Goals as goal

pub returns-in_err-row-clause-reads : goal.returns-in_err-row-clause-reads
returns-in_err-row-clause-reads c = λ b rest w e.
    let memory = c.in_err-row.ensures.reads (word (written.flag b) ∷ []) rest w (both_hold (is_field (word (written.flag b))) true (word_flag b) refl) refl e in
    let passed = err_from_is_err_and c.from_residual.result c.from_residual.ensures.1 in
    gives_passed c.from_residual.result passed.0 _ passed.1 (cc (passed.2, memory))

pub returns-clause-reads : goal.returns-clause-reads
returns-clause-reads c = λ b rest w e.
    let row = c.in_ok-row.ensures.reads (word (written.flag b) ∷ []) rest w (both_hold (is_field (word (written.flag b))) true (word_flag b) refl) refl e in
    gives_ok c.flag.result b (λ y. (y ≡ b) × Left c.next_with.new.self rest) (c.flag.ensures.reads b (ap (λ ts. field_at ts 1) row.0.0)) (refl, row.1)

pub returns-in_err-row-clause-tells : goal.returns-in_err-row-clause-tells
returns-in_err-row-clause-tells c =
    let passed = err_from_is_err_and c.from_residual.result c.from_residual.ensures.1 in
    passed_headed c.from_residual.result c.in_err-row.field-0.0 passed.0 c.args.self.now c.next_with.new.self c.args.word.now 1 (one (form.word c.args.word.now ∷ form.other (is_flag) ∷ [])) (form.other (is_flag) ∷ []) (λ ts. goes_on []) (λ x. []) passed.1 passed.2 c.in_err-row.ensures.tells (one_row (form.word c.args.word.now ∷ form.other (is_flag) ∷ [])) refl refl

pub returns-clause-tells : goal.returns-clause-tells
returns-clause-tells c =
    other_told c.in_ok-row.row c.args.self.now c.next_with.new.self c.args.word.now (is_flag) (flag_one) (one (form.word c.args.word.now ∷ form.other (is_flag) ∷ [])) (λ ts. goes_on []) (λ x. []) c.in_ok-row.ensures.tells c.flag.result (one_row (form.word c.args.word.now ∷ form.other (is_flag) ∷ [])) c.flag.ensures.tells (λ x is. refl)
