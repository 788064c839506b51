use Rattle.std.proofs.Common.{◌≡◌, Some}
use Rattle.spec_program.specs.Spelling.{canonical_lines}
use Rattle.spec_checkpoint.proofs.CodeUnbroken.{code_is_lines}
use Rattle.std.proofs.lemmas.Result.{err_from_is_err_and}
use Rattle.checkpoint_lines.proofs.Giving.{gives_passed}
use Rattle.spec_faults.specs.Awaited.{behind_code}
use Rattle.checkpoint_lines.proofs.CodeTold.{program_over, program_goes, program_fails}
use Rattle.checkpoint_lines.proofs.lines.Lines.next_program.Goals as goal

pub returns-in_err-text-clause-reads : goal.returns-in_err-text-clause-reads
returns-in_err-text-clause-reads c = λ p rest h l e.
    let memory = c.in_err-text.ensures.reads (canonical_lines p) rest (code_is_lines p h) l e in
    let passed = err_from_is_err_and c.from_residual.result c.from_residual.ensures.1 in
    gives_passed c.from_residual.result passed.0 _ passed.1 (cc (passed.2, memory))

pub returns-in-Some-clause-reads : goal.returns-in-Some-clause-reads
returns-in-Some-clause-reads c = λ p rest h l e.
    let text = c.in_ok-text.ensures.reads (canonical_lines p) rest (code_is_lines p h) l e in
    let is : c.in_ok-found.found ≡ Some p = c.in_ok-found.ensures.reads p h text.0 in
    let same : c.in-Some.program ≡ p = cc (is, c.in-Some.is) in
    (same, text.1)

pub returns-in-None-clause-reads : goal.returns-in-None-clause-reads
returns-in-None-clause-reads c = λ p rest h l e.
    let text = c.in_ok-text.ensures.reads (canonical_lines p) rest (code_is_lines p h) l e in
    let is : c.in_ok-found.found ≡ Some p = c.in_ok-found.ensures.reads p h text.0 in
    absurd (cc (is, c.in-None.is))

pub returns-in_err-text-clause-tells : goal.returns-in_err-text-clause-tells
returns-in_err-text-clause-tells c = λ whose.
    let passed = err_from_is_err_and c.from_residual.result c.from_residual.ensures.1 in
    program_over c.from_residual.result c.in_err-text.field-0.0 passed.0 c.args.self.now c.next_lines.new.self c.args.count whose (behind_code whose) passed.1 passed.2 c.in_err-text.ensures.tells

pub returns-in-Some-clause-tells : goal.returns-in-Some-clause-tells
returns-in-Some-clause-tells c = λ whose room.
    let goes = program_goes c.args.self.now c.next_lines.new.self c.in_ok-text.text.now c.args.count whose c.in-Some.program c.in_ok-found.found c.in_ok-text.ensures.tells c.in_ok-found.ensures.tells c.in-Some.is room in
    record { fault = goes.fault; lines = goes.lines; room = goes.room }

pub returns-in-None-clause-tells : goal.returns-in-None-clause-tells
returns-in-None-clause-tells c = λ whose room more.
    program_fails c.args.self.now c.next_lines.new.self c.in_ok-text.text.now c.args.count c.saturating_add-line.result whose c.in_ok-found.found c.in_ok-text.ensures.tells c.in_ok-found.ensures.tells c.in-None.is
    c.saturating_add-line.ensures room more
