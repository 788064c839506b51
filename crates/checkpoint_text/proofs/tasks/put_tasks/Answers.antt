use Rattle.std.proofs.Common.{◌≡◌, pos, ◌++◌, get_or, rules, w32, to_z, of_z}
use Rattle.std.proofs.lemmas.List.{get_or_default}
use Rattle.spec_world.specs.Checkpoint.{task_lines, with_line_ends}
use Rattle.checkpoint_text.specs.Each.{of_each}
use Rattle.checkpoint_text.proofs.Turns.{next_found}
use Rattle.checkpoint_text.proofs.tasks.put_tasks.Goals as goal

pub loop-id-preserved : goal.loop-id-preserved
loop-id-preserved c =
    let w = c.args.draft.now in
    let ks = c.args.ids.now in
    let i = c.loop-id.id-index in
    let k = get_or ks i (pos 0) in
    let whole : to_z w32 (of_z w32 k) ≡ k = search rules in
    next_found task_lines w.tasks ks i k c.loop-id.page c.put_found.new.page
    (c.args.page.now ++ with_line_ends (of_each task_lines w.tasks ks))
    c.loop-id-test.true (get_or_default ks i (pos 0) k c.loop-id-test.true) (rw whole at c.in_ok-put_found.ensures) c.loop-id.invariant
