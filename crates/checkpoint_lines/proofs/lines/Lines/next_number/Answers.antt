use Rattle.std.proofs.Common.{◌≡◌, ◌<◌, ◌^◌, [], ◌∷◌, true, refl, ap, arith}
use Rattle.std.specs.Fmt.{decimal}
use Rattle.spec_value.proofs.Entries.{both_hold}
use Rattle.line_fields.specs.Fields.{word, is_field}
use Rattle.line_fields.proofs.Words.{word_decimal}
use Rattle.checkpoint_lines.specs.Rows.{Left}
use Rattle.spec_faults.specs.Cutting.{field_at}
use Rattle.std.proofs.lemmas.Result.{err_from_is_err_and}
use Rattle.checkpoint_lines.proofs.Giving.{gives_ok, gives_passed}
use Rattle.spec_faults.specs.Forms as form
use Rattle.spec_faults.specs.Plain.{is_number}
use Rattle.spec_faults.specs.Awaited.{one, goes_on}
use Rattle.checkpoint_lines.proofs.Telling.{number_one}
use Rattle.checkpoint_lines.proofs.OneField.{other_told}
use Rattle.checkpoint_lines.proofs.Going.{one_row}
use Rattle.checkpoint_lines.proofs.RowsTold.{passed_headed}
use Rattle.checkpoint_lines.proofs.lines.Lines.next_number.Goals as goal

pub returns-in_err-row-clause-reads : goal.returns-in_err-row-clause-reads
returns-in_err-row-clause-reads c = λ n rest w l m e.
    let small : n < 2 ^ 64 = omega arith in let memory = c.in_err-row.ensures.reads (word (decimal n) ∷ []) rest w (both_hold (is_field (word (decimal n))) true (word_decimal n small) refl) refl e in
    let passed = err_from_is_err_and c.from_residual.result c.from_residual.ensures.1 in
    gives_passed c.from_residual.result passed.0 _ passed.1 (cc (passed.2, memory))

pub returns-clause-reads : goal.returns-clause-reads
returns-clause-reads c = λ n rest w l m e.
    let small : n < 2 ^ 64 = omega arith in let row = c.in_ok-row.ensures.reads (word (decimal n) ∷ []) rest w (both_hold (is_field (word (decimal n))) true (word_decimal n small) refl) refl e in
    gives_ok c.number.result n (λ y. (y ≡ n) × Left c.next_with.new.self rest) (c.number.ensures.reads n l m (ap (λ ts. field_at ts 1) row.0.0)) (refl, row.1)

pub returns-in_err-row-clause-tells : goal.returns-in_err-row-clause-tells
returns-in_err-row-clause-tells c =
    let passed = err_from_is_err_and c.from_residual.result c.from_residual.ensures.1 in
    passed_headed c.from_residual.result c.in_err-row.field-0.0 passed.0 c.args.self.now c.next_with.new.self c.args.word.now 1 (one (form.word c.args.word.now ∷ form.other (is_number c.args.least c.args.most) ∷ [])) (form.other (is_number c.args.least c.args.most) ∷ []) (λ ts. goes_on []) (λ x. []) passed.1 passed.2 c.in_err-row.ensures.tells (one_row (form.word c.args.word.now ∷ form.other (is_number c.args.least c.args.most) ∷ [])) refl refl

pub returns-clause-tells : goal.returns-clause-tells
returns-clause-tells c =
    other_told c.in_ok-row.row c.args.self.now c.next_with.new.self c.args.word.now (is_number c.args.least c.args.most) (number_one c.args.least c.args.most) (one (form.word c.args.word.now ∷ form.other (is_number c.args.least c.args.most) ∷ [])) (λ ts. goes_on []) (λ x. []) c.in_ok-row.ensures.tells c.number.result (one_row (form.word c.args.word.now ∷ form.other (is_number c.args.least c.args.most) ∷ [])) c.number.ensures.tells (λ x is. refl)
