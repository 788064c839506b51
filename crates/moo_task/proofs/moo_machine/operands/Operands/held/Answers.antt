use Rattle.std.proofs.Common.{◌≡◌, ◌-◌, ◌+◌, ◌≤◌, length, reverse, arith}
use Rattle.moo_task.proofs.Taken.{some_held}
use Rattle.moo_task.proofs.moo_machine.operands.Operands.held.Goals as goal

pub returns : goal.returns
returns c =
    let stored : c.args.self.now ≡ reverse c.deref.result.now = grind (arith, c.self.view_is, c.deref.ensures.value) in
    let whole : c.len-2.result - c.saturating_sub-more.result ≡ length c.deref.result.now - (length c.deref.result.now - (c.args.height + c.args.count)) =
    omega (arith, c.deref.ensures.len) in
    let enough : c.args.count ≤ c.len-2.result - c.saturating_sub-more.result = omega arith in
    rw stored (some_held c.deref.result.now (c.args.height + c.args.count) c.args.count (c.len-2.result - c.saturating_sub-more.result) whole enough)
