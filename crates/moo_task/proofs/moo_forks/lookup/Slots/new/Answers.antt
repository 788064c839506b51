use Rattle.std.proofs.Common.{◌≡◌, ◌+◌, ◌-◌, ◌<◌, suc, length, arith}
use Rattle.moo_task.proofs.LookedUp.{slots_before, from_next}
use Rattle.moo_task.proofs.moo_forks.lookup.Slots.new.Goals as goal

pub loop-i-preserved : goal.loop-i-preserved
loop-i-preserved c =
    let names = c.args.own.now in
    let j = c.loop-i.i - 1 in
    let b : j < length names = omega (arith, c.loop-i-test.true, c.loop-i.auto.i) in
    let e : c.loop-i.i ≡ suc j = omega (arith, c.loop-i-test.true) in
    slots_before names j (17 + j) c.index-own-i.result c.as_str.result.now c.loop-i.slots c.put_slot.new.slots b c.index-own-i.is c.as_str.ensures
    (from_next 17 c.loop-i.i j names c.loop-i.slots e c.loop-i.invariant) c.in_ok-put_slot.ensures
