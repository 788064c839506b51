use Rattle.std.proofs.Common.{◌≡◌, Some, IfOk, subst, ◌<◌, ◌^◌, [], ◌∷◌, true, refl, ap, arith}
use Rattle.std.specs.Fmt.{decimal}
use Rattle.spec_value.proofs.Entries.{both_hold}
use Rattle.spec_world.specs.Checkpoint.{counted}
use Rattle.line_fields.specs.Fields.{word, is_field}
use Rattle.line_fields.proofs.Words.{word_decimal}
use Rattle.spec_faults.specs.Cutting.{field_at}
use Rattle.checkpoint_lines.proofs.Rests.{rest_small}
use Rattle.std.proofs.lemmas.Result.{err_from_is_err_and}
use Rattle.checkpoint_lines.proofs.Giving.{gives_ok, gives_passed}
use Rattle.spec_faults.specs.Forms as form
use Rattle.spec_faults.specs.Plain.{is_number, number_of, number_in, or_zero}
use Rattle.spec_faults.specs.Awaited.{goes_on}
use Rattle.checkpoint_lines.specs.Rows.{row_fields, Left}
use Rattle.checkpoint_lines.proofs.Telling.{number_one}
use Rattle.checkpoint_lines.proofs.OneField.{other_told}
use Rattle.checkpoint_lines.proofs.RowsTold.{passed_headed}
use Rattle.checkpoint_lines.proofs.lines.Lines.next_count.Goals as goal

pub returns-in_err-row-clause-reads : goal.returns-in_err-row-clause-reads
returns-in_err-row-clause-reads c = λ n rest w l e.
    let small : n < 2 ^ 64 = let room = rest_small (counted c.args.word.now n) rest e.1 in omega (arith, room.0) in let memory = c.in_err-row.ensures.reads (word (decimal n) ∷ []) rest w (both_hold (is_field (word (decimal n))) true (word_decimal n small) refl) refl e in
    let passed = err_from_is_err_and c.from_residual.result c.from_residual.ensures.1 in
    gives_passed c.from_residual.result passed.0 _ passed.1 (cc (passed.2, memory))

pub returns-clause-reads : goal.returns-clause-reads
returns-clause-reads c = λ n rest w l e.
    let small : n < 2 ^ 64 = let room = rest_small (counted c.args.word.now n) rest e.1 in omega (arith, room.0) in let row = c.in_ok-row.ensures.reads (word (decimal n) ∷ []) rest w (both_hold (is_field (word (decimal n))) true (word_decimal n small) refl) refl e in
    gives_ok c.count.result n (λ y. (y ≡ n) × Left c.next_with.new.self rest) (c.count.ensures.reads n (omega (arith, row.0.1)) (ap (λ ts. field_at ts 1) row.0.0)) (refl, row.1)

pub returns-in_err-row-clause-tells : goal.returns-in_err-row-clause-tells
returns-in_err-row-clause-tells c = λ a after row.
    let passed = err_from_is_err_and c.from_residual.result c.from_residual.ensures.1 in
    passed_headed c.from_residual.result c.in_err-row.field-0.0 passed.0 c.args.self.now c.next_with.new.self c.args.word.now 1 a (form.other (is_number 0 9223372036854775807) ∷ []) (λ ts. goes_on (after (number_in (field_at ts 1)))) after passed.1 passed.2 c.in_err-row.ensures.tells row refl refl

pub returns-clause-tells : goal.returns-clause-tells
returns-clause-tells c = λ a after row.
    other_told c.in_ok-row.row c.args.self.now c.next_with.new.self c.args.word.now (is_number 0 9223372036854775807) (number_one 0 9223372036854775807) a (λ ts. goes_on (after (number_in (field_at ts 1)))) after c.in_ok-row.ensures.tells c.count.result row c.count.ensures.tells (λ x is. ap (λ o. goes_on (after (or_zero o))) (subst (λ s. IfOk s (λ n. number_of (field_at (row_fields c.in_ok-row.row) 1) ≡ Some n)) is c.count.ensures.said))
