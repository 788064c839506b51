use Rattle.std.proofs.Common.{◌≡◌, ◌∙◌, sym, true, false, rules, arith}
use Rattle.world_checks.proofs.draft_checks.spelled.tasks_are_spelled.Goals as goal

pub returns-then-not-branch-clause-finds : goal.returns-then-not-branch-clause-finds
returns-then-not-branch-clause-finds c h =
    let yes : c.in_ok-task_is_spelled_at.field-0 ≡ true = c.in_ok-task_is_spelled_at.ensures.finds (λ x e. h _ x e) in
    let no : c.in_ok-task_is_spelled_at.field-0 ≡ false = first_of (search rules, grind arith) in
    sym no ∙ yes
