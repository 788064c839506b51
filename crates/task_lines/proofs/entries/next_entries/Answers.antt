use Rattle.std.proofs.Common.{◌++◌, length, reverse, refl, sym, subst, ◌∙◌, false, [], ◌∷◌}
use Rattle.std.proofs.lemmas.List.{length-reverse}
use Rattle.std.proofs.lemmas.Result.{err_from_is_err_and}
use Rattle.spec_world.specs.Checkpoint.{each_entry}
use Rattle.checkpoint_lines.specs.Rows.{Left}
use Rattle.checkpoint_lines.proofs.Giving.{gives_passed, gives_map}
use Rattle.task_lines.specs.Entries.{outer_for}
use Rattle.task_lines.proofs.Order.{order_follows, lines_turned, entries_counted}
use Rattle.task_lines.proofs.Made.{read_turned, turned_back}
use Rattle.spec_faults.specs.Awaited.{entries, entry}
use Rattle.task_lines.proofs.Telling.{tells_passed, tells_then}
use Rattle.task_lines.proofs.EntryTold.{count_is}
use Rattle.task_lines.proofs.entries.next_entries.Goals as goal

pub returns-in_err-count-clause-reads : goal.returns-in_err-count-clause-reads
returns-in_err-count-clause-reads c = λ es rest h order l.
    let memory = c.in_err-count.ensures.reads (length es) (each_entry es ++ rest) refl (entries_counted es rest) l in
    let passed = err_from_is_err_and c.from_residual.result c.from_residual.ensures.1 in
    gives_passed c.from_residual.result passed.0 _ passed.1 (cc (passed.2, memory))

pub returns-clause-reads : goal.returns-clause-reads
returns-clause-reads c = λ es rest h order l.
    let count = c.in_ok-count.ensures.reads (length es) (each_entry es ++ rest) refl (entries_counted es rest) l in
    let here = subst (λ ts. Left c.next_count.new.self (ts ++ rest)) (lines_turned es) count.1 in
    gives_map c.next_each.result _ _
    (c.next_each.ensures.reads (reverse es) rest (read_turned c.args.is_fork es h) (order_follows c.args.is_fork es order) (count.0 ∙ sym (length-reverse es)) here)
    (λ v p. (turned_back v.items (outer_for c.args.is_fork) es p.0, p.1))

pub returns-in_err-count-clause-tells : goal.returns-in_err-count-clause-tells
returns-in_err-count-clause-tells c =
    let passed = err_from_is_err_and c.from_residual.result c.from_residual.ensures.1 in
    tells_passed c.from_residual.result passed.0 c.in_err-count.field-0.0 c.args.lines.now _ (entries c.args.is_fork ∷ []) (λ _. []) passed.1 (cc (passed.2))
    (c.in_err-count.ensures.tells (entries c.args.is_fork) (λ n. entry c.args.is_fork 0 false n ∷ []) (count_is c.args.is_fork))

pub returns-clause-tells : goal.returns-clause-tells
returns-clause-tells c =
    tells_then c.next_each.result c.args.lines.now c.next_count.new.self c.next_each.new.lines (entries c.args.is_fork ∷ []) (entry c.args.is_fork 0 false c.in_ok-count.count ∷ []) (λ _. [])
    (c.in_ok-count.ensures.tells (entries c.args.is_fork) (λ n. entry c.args.is_fork 0 false n ∷ []) (count_is c.args.is_fork)) c.next_each.ensures.tells
