use Rattle.std.proofs.Common.{◌≤◌, ◌++◌, length, length-append, subst, arith, suc, [], ◌∷◌}
use Rattle.checkpoint_lines.specs.Rows.{Left}
use Rattle.task_lines.specs.Entries.{lines_behind, is_native_outer}
use Rattle.task_lines.proofs.Entering.{parts}
use Rattle.std.proofs.lemmas.Result.{err_from_is_err_and}
use Rattle.checkpoint_lines.proofs.Giving.{gives_passed}
use Rattle.moo_task.specs.Frames.{outer_of}
use Rattle.task_lines.specs.Awaiting.{entry_awaited, next_awaited, rest_awaited, is_native_begun}
use Rattle.task_lines.proofs.Telling.{tells_passed, tells_then, tells_behind}
use Rattle.task_lines.proofs.EntryTold.{tells_so, stands_so}
use Rattle.task_lines.proofs.entry.next_entry.Goals as goal

pub returns-in_err-begun-clause-reads : goal.returns-in_err-begun-clause-reads
returns-in_err-begun-clause-reads c = λ e rest h stands l.
    let here = subst (Left c.args.lines.now) (parts e rest) l in
    let both = length-append (lines_behind e) rest in
    let within : length (lines_behind e) ≤ length (lines_behind e ++ rest) = omega (arith, both) in
    let memory = c.in_err-begun.ensures.reads e (lines_behind e ++ rest) h stands within here in
    let passed = err_from_is_err_and c.from_residual.result c.from_residual.ensures.1 in
    gives_passed c.from_residual.result passed.0 _ passed.1 (cc (passed.2, memory))

pub returns-clause-reads : goal.returns-clause-reads
returns-clause-reads c = λ e rest h stands l.
    let here = subst (Left c.args.lines.now) (parts e rest) l in
    let both = length-append (lines_behind e) rest in
    let within : length (lines_behind e) ≤ length (lines_behind e ++ rest) = omega (arith, both) in
    let begun = c.in_ok-begun.ensures.reads e (lines_behind e ++ rest) h stands within here in
    c.behind_begun.ensures.reads e rest h begun.0 begun.1

pub returns-in_err-begun-clause-tells : goal.returns-in_err-begun-clause-tells
returns-in_err-begun-clause-tells c = λ more place.
    let passed = err_from_is_err_and c.from_residual.result c.from_residual.ensures.1 in
    tells_passed c.from_residual.result passed.0 c.in_err-begun.field-0.0 c.args.lines.now _ (entry_awaited c.args.place (suc more) ∷ []) (λ o. next_awaited c.args.place more (is_native_outer (outer_of o)) ∷ []) passed.1 (cc (passed.2))
    (c.in_err-begun.ensures.tells more place)

pub returns-clause-tells : goal.returns-clause-tells
returns-clause-tells c = λ more place.
    tells_then c.behind_begun.result c.args.lines.now c.next_begun.new.lines c.behind_begun.new.lines (entry_awaited c.args.place (suc more) ∷ []) (rest_awaited c.args.place.is_fork c.in_ok-begun.begun ++ next_awaited c.args.place more (is_native_begun c.in_ok-begun.begun) ∷ []) (λ o. next_awaited c.args.place more (is_native_outer (outer_of o)) ∷ [])
    (c.in_ok-begun.ensures.tells more place)
    (tells_so c.behind_begun.result c.next_begun.new.lines c.behind_begun.new.lines (rest_awaited c.args.place.is_fork c.in_ok-begun.begun ++ next_awaited c.args.place more (is_native_begun c.in_ok-begun.begun) ∷ []) (λ o. is_native_outer (outer_of o)) (is_native_begun c.in_ok-begun.begun) (λ n. next_awaited c.args.place more n ∷ []) c.behind_begun.ensures.kind
    (tells_behind c.behind_begun.result c.next_begun.new.lines c.behind_begun.new.lines (rest_awaited c.args.place.is_fork c.in_ok-begun.begun) (next_awaited c.args.place more (is_native_begun c.in_ok-begun.begun) ∷ []) (λ _. []) c.behind_begun.ensures.tells))

pub returns-clause-stands : goal.returns-clause-stands
returns-clause-stands c = stands_so c.behind_begun.result c.args.place (λ o. is_native_outer (outer_of o)) (is_native_begun c.in_ok-begun.begun) c.behind_begun.ensures.kind c.in_ok-begun.ensures.stands
