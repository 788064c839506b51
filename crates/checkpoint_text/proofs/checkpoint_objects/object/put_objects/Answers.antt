use Rattle.std.proofs.Common.{◌≡◌, pos, ◌++◌, get_or, rules, w32, to_z, of_z}
use Rattle.std.proofs.lemmas.List.{get_or_default}
use Rattle.spec_world.specs.Checkpoint.{object_lines, with_line_ends}
use Rattle.checkpoint_text.specs.Each.{of_each}
use Rattle.checkpoint_text.proofs.Turns.{next_found}
use Rattle.checkpoint_text.proofs.checkpoint_objects.object.put_objects.Goals as goal

pub loop-number-preserved : goal.loop-number-preserved
loop-number-preserved c =
    let w = c.args.draft.now in
    let ks = c.args.numbers.now in
    let i = c.loop-number.number-index in
    let k = get_or ks i (pos 0) in
    let whole : to_z w32 (of_z w32 k) ≡ k = search rules in
    next_found (object_lines w) w.objects ks i k c.loop-number.page c.put_found.new.page
    (c.args.page.now ++ with_line_ends (of_each (object_lines w) w.objects ks))
    c.loop-number-test.true (get_or_default ks i (pos 0) k c.loop-number-test.true) (rw whole at c.in_ok-put_found.ensures) c.loop-number.invariant
