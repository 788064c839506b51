use Rattle.std.proofs.Common.{◌≡◌, ◌-◌, ◌<◌, suc, length, refl, arith}
use Rattle.moo_task.proofs.LookedUp.{values_before, values_next}
use Rattle.moo_task.proofs.moo_forks.lookup.Values.new.Goals as goal

pub loop-i-preserved : goal.loop-i-preserved
loop-i-preserved c =
    let vs = c.args.variables.now in
    let j = c.loop-i.i - 1 in
    let b : j < length vs = omega (arith, c.loop-i-test.true, c.loop-i.auto.i) in
    let e : c.loop-i.i ≡ suc j = omega (arith, c.loop-i-test.true) in
    values_before vs j c.index-variables-i.result c.as_str.result.now c.index-variables-i.result.value c.loop-i.values c.put_value.new.values b
    c.index-variables-i.is c.as_str.ensures refl (values_next vs c.loop-i.i j c.loop-i.values e c.loop-i.invariant) c.in_ok-put_value.ensures
