use Rattle.std.proofs.Common.{refl, codes, ◌∷◌, []}
use Rattle.std.proofs.lemmas.Result.{err_from_is_err_and}
use Rattle.checkpoint_lines.proofs.Giving.{gives_passed}
use Rattle.checkpoint_lines.proofs.Going.{passed_on}
use Rattle.draft_lines.proofs.FrontFaults.{header_over, header_stands, header_fails}
use Rattle.spec_faults.specs.Awaited.{first_line}
use Rattle.draft_lines.proofs.read_header.Goals as goal

pub returns-in_err-line : goal.returns-in_err-line
returns-in_err-line c = record {
  reads = λ rest l.
      let memory = c.in_err-line.ensures.reads (codes "MOO-CHECKPOINT 1") rest refl l in
      let passed = err_from_is_err_and c.from_residual.result c.from_residual.ensures.1 in
      gives_passed c.from_residual.result passed.0 _ passed.1 (cc (passed.2, memory));
  tells = let passed = err_from_is_err_and c.from_residual.result c.from_residual.ensures.1 in passed_on c.from_residual.result passed.0 c.in_err-line.field-0.0 c.args.lines.now _ (first_line ∷ []) (λ _. []) passed.1 passed.2 (λ room. header_over c.in_err-line.field-0.0 c.args.lines.now (c.in_err-line.ensures.tells room));
}

pub returns-then-is_header : goal.returns-then-is_header
returns-then-is_header c = record {
  reads = λ rest l.
      let line = c.in_ok-line.ensures.reads (codes "MOO-CHECKPOINT 1") rest refl l in
      (tt, line.1);
  tells = λ room. header_stands c.args.lines.now c.next_line.new.self c.in_ok-line.line.now (c.in_ok-line.ensures.tells room) (c.is_header.ensures.0 c.if-is_header.true);
}

pub returns-else-is_header : goal.returns-else-is_header
returns-else-is_header c = record {
  reads = λ rest l.
      let line = c.in_ok-line.ensures.reads (codes "MOO-CHECKPOINT 1") rest refl l in
      absurd (cc (c.is_header.ensures.1 line.0.0, c.if-is_header.false));
  tells = λ room. header_fails c.fault.result c.args.lines.now c.next_line.new.self c.in_ok-line.line.now (c.in_ok-line.ensures.tells room) c.fault.ensures (λ e. cc (c.is_header.ensures.1 e, c.if-is_header.false));
}
