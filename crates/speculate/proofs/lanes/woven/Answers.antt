use Rattle.std.proofs.Common.{refl}
use Rattle.speculate.proofs.Strands.{all_woven}
use Rattle.speculate.proofs.lanes.woven.Goals as goal

pub run_lanes-requires-clause-base : goal.run_lanes-requires-clause-base
run_lanes-requires-clause-base g c κs within = refl

pub run_lanes-requires-clause-list : goal.run_lanes-requires-clause-list
run_lanes-requires-clause-list g c κs within = refl

pub returns : goal.returns
returns g c =
    let all =
    all_woven c.args.world.now.plain c.in-Ok.home c.args.steps.now c.in_ok-ran.ran.items c.as_slice-2.result.now c.as_slice-3.result.now c.in_ok-changes.changes
    c.in_ok-outcomes.outcomes.items c.in-Ok.ensures c.know.ensures c.in_ok-ran.ensures c.as_slice-2.ensures.value (c.are_apart.ensures c.if-not-are_apart.false)
    c.as_slice-3.ensures.value c.in_ok-changes.ensures c.in_ok-outcomes.ensures in
    record { played = all.0; sound = all.1; count = all.2 }
