use Rattle.std.proofs.Common.{sym}
use Rattle.spec_program.specs.Place.{any_list}
use Rattle.tree_parts.proofs.Nth.{arms_counted, arms_and_list_counted}
use Rattle.tree_parts.proofs.holds.Values.count.Goals as goal

pub returns-in-Arms : goal.returns-in-Arms
returns-in-Arms c = rw c.in-Arms.is (sym (arms_counted c.in-Arms.arms.now))

pub returns-in-ArmsAndList : goal.returns-in-ArmsAndList
returns-in-ArmsAndList c = rw c.in-ArmsAndList.is (sym (arms_and_list_counted c.in-ArmsAndList.arms.now any_list))
