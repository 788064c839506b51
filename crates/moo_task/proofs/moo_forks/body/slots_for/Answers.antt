use Rattle.std.proofs.Common.{◌∙◌, ◌≤◌, ap, arith, length}
use Rattle.spec_value.specs.Table.{named}
use Rattle.moo_task.specs.Frames.{kept_of}
use Rattle.moo_task.proofs.Copying.{next_own, all_values}
use Rattle.moo_task.proofs.moo_forks.body.slots_for.Goals as goal

pub loop-name-preserved : goal.loop-name-preserved
loop-name-preserved c =
    let table = (kept_of c.args.variables.now.frame.now).variables in
    next_own table c.args.own.now c.loop-name.name-index c.name-item.result c.loop-name.slots.items c.push.new.self.items c.in_ok-value_of.field-0
    c.loop-name-test.true c.name-item.is c.loop-name.invariant (c.in_ok-value_of.ensures ∙ ap (named table) c.as_str.ensures) c.in_ok-push.ensures.items

pub returns : goal.returns
returns c =
    let all : length c.args.own.now ≤ c.loop-name.name-index = omega arith in
    c.loop-name.invariant ∙ all_values (kept_of c.args.variables.now.frame.now).variables c.args.own.now c.loop-name.name-index all
