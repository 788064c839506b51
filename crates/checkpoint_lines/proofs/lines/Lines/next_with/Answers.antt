use Rattle.std.proofs.Common.{◌≡◌, map, ◌∷◌, true, IsTrue, sym, subst, ◌∙◌}
use Rattle.std.specs.List.{list_all}
use Rattle.spec_value.proofs.Entries.{both_hold}
use Rattle.spec_world.specs.Checkpoint.{fields}
use Rattle.line_fields.specs.Fields.{word, is_word, all_spelled, are_fields}
use Rattle.checkpoint_lines.specs.Rows.{row_fields}
use Rattle.spec_faults.specs.Cutting.{is_filled}
use Rattle.checkpoint_lines.proofs.Filled.{fields_line, fields_filled, has_word}
use Rattle.std.proofs.lemmas.Result.{err_from_is_err_and}
use Rattle.checkpoint_lines.proofs.Giving.{gives_passed}
use Rattle.checkpoint_lines.proofs.RowsTold.{headed_empty, headed, not_headed}
use Rattle.checkpoint_lines.proofs.lines.Lines.next_with.Goals as goal

pub returns-in_err-line-clause-reads : goal.returns-in_err-line-clause-reads
returns-in_err-line-clause-reads c = λ fs rest w h l e.
    let are = both_hold (is_word c.args.word.now) (are_fields fs) w h in
    let memory = c.in_err-line.ensures.reads (fields (all_spelled (word c.args.word.now ∷ fs))) rest (fields_line (word c.args.word.now) fs are) e in
    let passed = err_from_is_err_and c.from_residual.result c.from_residual.ensures.1 in
    gives_passed c.from_residual.result passed.0 _ passed.1 (cc (passed.2, memory))

pub returns-in_err-row-clause-reads : goal.returns-in_err-row-clause-reads
returns-in_err-row-clause-reads c = λ fs rest w h l e.
    let are = both_hold (is_word c.args.word.now) (are_fields fs) w h in
    let line = c.in_ok-line.ensures.reads (fields (all_spelled (word c.args.word.now ∷ fs))) rest (fields_line (word c.args.word.now) fs are) e in
    let cut = c.in_ok-fields.ensures.reads (word c.args.word.now) fs are l line.0.0 in
    let memory = c.in_err-row.ensures.reads (subst (λ ts. IsTrue (list_all is_filled ts)) (sym cut) (fields_filled (word c.args.word.now ∷ fs) are)) in
    let passed = err_from_is_err_and c.from_residual-in_err-row.result c.from_residual-in_err-row.ensures.1 in
    gives_passed c.from_residual-in_err-row.result passed.0 _ passed.1 (cc (passed.2, memory))

pub returns-then-has-clause-reads : goal.returns-then-has-clause-reads
returns-then-has-clause-reads c = λ fs rest w h l e.
    let are = both_hold (is_word c.args.word.now) (are_fields fs) w h in
    let line = c.in_ok-line.ensures.reads (fields (all_spelled (word c.args.word.now ∷ fs))) rest (fields_line (word c.args.word.now) fs are) e in
    let cut = c.in_ok-fields.ensures.reads (word c.args.word.now) fs are l line.0.0 in
    let row = c.in_ok-row.ensures.reads (subst (λ ts. IsTrue (list_all is_filled ts)) (sym cut) (fields_filled (word c.args.word.now ∷ fs) are)) in
    ((row ∙ cut, line.0.1), line.1)

pub returns-clause-reads : goal.returns-clause-reads
returns-clause-reads c = λ fs rest w h l e.
    let are = both_hold (is_word c.args.word.now) (are_fields fs) w h in
    let line = c.in_ok-line.ensures.reads (fields (all_spelled (word c.args.word.now ∷ fs))) rest (fields_line (word c.args.word.now) fs are) e in
    let cut = c.in_ok-fields.ensures.reads (word c.args.word.now) fs are l line.0.0 in
    let row = c.in_ok-row.ensures.reads (subst (λ ts. IsTrue (list_all is_filled ts)) (sym cut) (fields_filled (word c.args.word.now ∷ fs) are)) in
    let has : c.has.result ≡ true = c.has.ensures ∙ has_word (row_fields c.in_ok-row.row) c.args.word.now fs c.args.count (row ∙ cut) l in
    absurd (cc (has, c.if-has.false))

pub returns-in_err-row-clause-tells : goal.returns-in_err-row-clause-tells
returns-in_err-row-clause-tells c =
    let passed = err_from_is_err_and c.from_residual-in_err-row.result c.from_residual-in_err-row.ensures.1 in
    headed_empty c.from_residual-in_err-row.result c.in_err-row.field-0.0 passed.0 c.args.self.now c.next_line.new.self c.in_ok-line.line.now c.args.word.now c.args.count (map (λ b. b.now) c.in_ok-fields.fields.items)
    passed.1 passed.2 c.in_ok-line.ensures.tells c.in_ok-fields.ensures.cuts c.in_err-row.ensures.tells

pub returns-then-has-clause-tells : goal.returns-then-has-clause-tells
returns-then-has-clause-tells c =
    headed c.in_ok-row.row c.args.self.now c.next_line.new.self c.in_ok-line.line.now c.args.word.now c.args.count (map (λ b. b.now) c.in_ok-fields.fields.items) c.has.result
    c.in_ok-line.ensures.tells c.in_ok-fields.ensures.cuts c.in_ok-row.ensures.tells c.has.ensures c.if-has.true

pub returns-clause-tells : goal.returns-clause-tells
returns-clause-tells c =
    not_headed c.in_ok-row.row c.fault.result c.args.self.now c.next_line.new.self c.in_ok-line.line.now c.args.word.now c.args.count (map (λ b. b.now) c.in_ok-fields.fields.items) c.has.result
    c.in_ok-line.ensures.tells c.in_ok-fields.ensures.cuts c.in_ok-row.ensures.tells c.has.ensures c.if-has.false c.fault.ensures
