use Rattle.spec_program.specs.Place.{arm_kinds}
use Rattle.moo_tree.specs.StatementView.{arms_of}
use Rattle.held_values.proofs.Telling.{arms_count}
use Rattle.held_values.proofs.held.arms_and_list_fit.Goals as goal

pub returns-then-ends_in_list-clause-tells : goal.returns-then-ends_in_list-clause-tells
returns-then-ends_in_list-clause-tells c t = c.ends_in_list.ensures.kinds c.if-ends_in_list.true (arm_kinds (arms_of c.args.arms.now)) (c.arms_fit.ensures.tells t)

pub returns-then-ends_in_list-clause-finds : goal.returns-then-ends_in_list-clause-finds
returns-then-ends_in_list-clause-finds c h =
    c.arms_fit.ensures.finds (c.ends_in_list.ensures.first (arm_kinds (arms_of c.args.arms.now)) (arms_count c.args.arms.now) h)

pub returns-else-ends_in_list-clause-finds : goal.returns-else-ends_in_list-clause-finds
returns-else-ends_in_list-clause-finds c h =
    let there = c.ends_in_list.ensures.finds (arm_kinds (arms_of c.args.arms.now)) (arms_count c.args.arms.now) h in
    cc (there, c.if-ends_in_list.false)
