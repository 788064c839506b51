use Rattle.std.proofs.Common.{◌≡◌, ◌<◌, ◌^◌, ◌∷◌, length, map, IsTrue, sym, subst, ◌∙◌}
use Rattle.std.specs.List.{list_all}
use Rattle.spec_world.specs.Checkpoint.{fields}
use Rattle.line_fields.specs.Fields.{all_spelled}
use Rattle.checkpoint_lines.specs.Rows.{row_fields, Left}
use Rattle.spec_faults.specs.Cutting.{is_filled}
use Rattle.checkpoint_lines.proofs.Filled.{fields_line, fields_filled}
use Rattle.std.proofs.lemmas.Result.{err_from_is_err_and}
use Rattle.checkpoint_lines.proofs.Giving.{gives_map, gives_passed}
use Rattle.checkpoint_lines.proofs.RowsTold.{row_next}
use Rattle.checkpoint_lines.proofs.lines.Lines.next_row.Goals as goal

pub returns-in_err-line-clause-reads : goal.returns-in_err-line-clause-reads
returns-in_err-line-clause-reads c = λ f fs rest h e.
    let memory = c.in_err-line.ensures.reads (fields (all_spelled (f ∷ fs))) rest (fields_line f fs h) e in
    let passed = err_from_is_err_and c.from_residual.result c.from_residual.ensures.1 in
    gives_passed c.from_residual.result passed.0 _ passed.1 (cc (passed.2, memory))

pub returns-clause-reads : goal.returns-clause-reads
returns-clause-reads c = λ f fs rest h e.
    let line = c.in_ok-line.ensures.reads (fields (all_spelled (f ∷ fs))) rest (fields_line f fs h) e in
    let cut = c.in_ok-fields.ensures.reads f fs h line.0.0 in
    let filled = subst (λ ts. IsTrue (list_all is_filled ts)) (sym cut) (fields_filled (f ∷ fs) h) in
    gives_map c.new.result (λ row. row_fields row ≡ map (λ b. b.now) c.in_ok-fields.fields.items)
    (λ row. ((row_fields row ≡ all_spelled (f ∷ fs)) × (length rest < 2 ^ 63)) × Left c.next_line.new.self rest) (c.new.ensures.reads filled)
    (λ row is. ((is ∙ cut, line.0.1), line.1))

pub returns-clause-tells : goal.returns-clause-tells
returns-clause-tells c =
    row_next c.new.result c.args.self.now c.next_line.new.self c.in_ok-line.line.now (map (λ b. b.now) c.in_ok-fields.fields.items) c.in_ok-line.ensures.tells c.in_ok-fields.ensures.cuts c.new.ensures.tells
