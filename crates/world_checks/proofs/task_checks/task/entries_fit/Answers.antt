use Rattle.std.proofs.Common.{◌≡◌, ◌∙◌, ap, sym, false}
use Rattle.world_checks.specs.TaskChecksTasks.{is_fork}
use Rattle.world_checks.proofs.TaskTold.{outers_told, outers_found}
use Rattle.world_checks.proofs.task_checks.task.entries_fit.Goals as goal

pub returns-in_ok-fit-clause-tells : goal.returns-in_ok-fit-clause-tells
returns-in_ok-fit-clause-tells c =
    let ran : is_fork c.args.task.now.waiting ≡ false = ap is_fork (sym c.waiting.ensures) ∙ sym c.is_fork.ensures ∙ c.if-is_fork.false in
    λ fit. outers_told _ _ _ _ c.verbs-else-is_fork.ensures.task c.verbs-else-is_fork.ensures.kept ran (c.in_ok-fit.ensures.tells fit)

pub returns-in_ok-fit-clause-finds : goal.returns-in_ok-fit-clause-finds
returns-in_ok-fit-clause-finds c fit =
    let ran : is_fork c.args.task.now.waiting ≡ false = ap is_fork (sym c.waiting.ensures) ∙ sym c.is_fork.ensures ∙ c.if-is_fork.false in
    c.in_ok-fit.ensures.finds (outers_found _ _ _ _ c.verbs-else-is_fork.ensures.task c.verbs-else-is_fork.ensures.kept ran fit)
