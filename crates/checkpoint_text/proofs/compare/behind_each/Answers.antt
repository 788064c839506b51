use Rattle.std.proofs.Common.{◌≡◌, pos, get_or, rules, w32, to_z, of_z}
use Rattle.std.proofs.lemmas.List.{get_or_default}
use Rattle.spec_world.specs.Checkpoint.{object_lines}
use Rattle.checkpoint_text.proofs.Behind.{next_left, none_left}
use Rattle.checkpoint_text.proofs.compare.behind_each.Goals as goal

pub returns-in-None : goal.returns-in-None
returns-in-None c =
    let w = c.args.draft.now in
    let ks = c.args.numbers.now in
    let i = c.loop-number.number-index in
    let k = get_or ks i (pos 0) in
    let whole : to_z w32 (of_z w32 k) ≡ k = search rules in
    none_left (object_lines w) w.objects ks i k c.args.bytes.now c.loop-number.left.now c.loop-number-test.true (get_or_default ks i (pos 0) k c.loop-number-test.true)
    (rw (whole, c.in-None.is) at c.in_ok-found.ensures) c.loop-number.invariant

pub loop-number-preserved : goal.loop-number-preserved
loop-number-preserved c =
    let w = c.args.draft.now in
    let ks = c.args.numbers.now in
    let i = c.loop-number.number-index in
    let k = get_or ks i (pos 0) in
    let whole : to_z w32 (of_z w32 k) ≡ k = search rules in
    next_left (object_lines w) w.objects ks i k c.args.bytes.now c.loop-number.left.now c.in-Some.rest.now c.loop-number-test.true
    (get_or_default ks i (pos 0) k c.loop-number-test.true) (rw (whole, c.in-Some.is) at c.in_ok-found.ensures) c.loop-number.invariant
