use Rattle.std.proofs.Common.{◌++◌, subst, ◌∙◌, append_assoc, [], ◌∷◌, sym}
use Rattle.spec_program.specs.Spelling.{canonical_lines}
use Rattle.checkpoint_lines.specs.Rows.{Left}
use Rattle.task_lines.specs.Entries.{lines_behind_program}
use Rattle.std.proofs.lemmas.Result.{err_from_is_err_and}
use Rattle.checkpoint_lines.proofs.Giving.{gives_passed}
use Rattle.spec_faults.specs.Awaited.{behind_code, code, of_frame}
use Rattle.checkpoint_lines.specs.Told.{GoesOn}
use Rattle.task_lines.proofs.Telling.{tells_passed, tells_then}
use Rattle.task_lines.proofs.frame.next_frame.Goals as goal

pub returns-in_err-kept-clause-reads : goal.returns-in_err-kept-clause-reads
returns-in_err-kept-clause-reads c = λ f rest h stands called lines l.
    let here = subst (Left c.args.lines.now) (append_assoc (canonical_lines f.program) (lines_behind_program f) rest) l in
    let memory = c.in_err-kept.ensures.reads f.program (lines_behind_program f ++ rest) h.tree lines here in
    let passed = err_from_is_err_and c.from_residual.result c.from_residual.ensures.1 in
    gives_passed c.from_residual.result passed.0 _ passed.1 (cc (passed.2, memory))

pub returns-clause-reads : goal.returns-clause-reads
returns-clause-reads c = λ f rest h stands called lines l.
    let here = subst (Left c.args.lines.now) (append_assoc (canonical_lines f.program) (lines_behind_program f) rest) l in
    let tree = c.in_ok-kept.ensures.reads f.program (lines_behind_program f ++ rest) h.tree lines here in
    c.next_under_way.ensures.reads f rest h stands called (c.in_ok-program.ensures ∙ tree.0) tree.1

pub returns-in_err-kept-clause-tells : goal.returns-in_err-kept-clause-tells
returns-in_err-kept-clause-tells c =
    let passed = err_from_is_err_and c.from_residual.result c.from_residual.ensures.1 in
    tells_passed c.from_residual.result passed.0 c.in_err-kept.field-0.0 c.args.lines.now _ (code c.args.head.lines [] (of_frame c.args.is_fork) ∷ []) (λ _. []) passed.1 (cc (passed.2))
    (c.in_err-kept.ensures.tells (of_frame c.args.is_fork))

pub returns-clause-tells : goal.returns-clause-tells
returns-clause-tells c =
    tells_then c.next_under_way.result c.args.lines.now c.next_program.new.self c.next_under_way.new.lines (code c.args.head.lines [] (of_frame c.args.is_fork) ∷ []) (behind_code (of_frame c.args.is_fork) c.in_ok-program.program) (λ _. [])
    (λ room. subst (λ p. GoesOn c.args.lines.now c.next_program.new.self (code c.args.head.lines [] (of_frame c.args.is_fork) ∷ []) (behind_code (of_frame c.args.is_fork) p)) (sym c.in_ok-program.ensures) (c.in_ok-kept.ensures.tells (of_frame c.args.is_fork) room)) c.next_under_way.ensures.tells
