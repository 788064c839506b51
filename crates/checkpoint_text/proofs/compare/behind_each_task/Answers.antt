use Rattle.std.proofs.Common.{◌≡◌, pos, get_or, rules, w32, to_z, of_z}
use Rattle.std.proofs.lemmas.List.{get_or_default}
use Rattle.spec_world.specs.Checkpoint.{task_lines}
use Rattle.checkpoint_text.proofs.Behind.{next_left, none_left}
use Rattle.checkpoint_text.proofs.compare.behind_each_task.Goals as goal

pub returns-in-None : goal.returns-in-None
returns-in-None c =
    let ts = c.args.draft.now.tasks in
    let ks = c.args.ids.now in
    let i = c.loop-id.id-index in
    let k = get_or ks i (pos 0) in
    let whole : to_z w32 (of_z w32 k) ≡ k = search rules in
    none_left task_lines ts ks i k c.args.bytes.now c.loop-id.left.now c.loop-id-test.true (get_or_default ks i (pos 0) k c.loop-id-test.true)
    (rw (whole, c.in-None.is) at c.in_ok-found.ensures) c.loop-id.invariant

pub loop-id-preserved : goal.loop-id-preserved
loop-id-preserved c =
    let ts = c.args.draft.now.tasks in
    let ks = c.args.ids.now in
    let i = c.loop-id.id-index in
    let k = get_or ks i (pos 0) in
    let whole : to_z w32 (of_z w32 k) ≡ k = search rules in
    next_left task_lines ts ks i k c.args.bytes.now c.loop-id.left.now c.in-Some.rest.now c.loop-id-test.true
    (get_or_default ks i (pos 0) k c.loop-id-test.true) (rw (whole, c.in-Some.is) at c.in_ok-found.ensures) c.loop-id.invariant
