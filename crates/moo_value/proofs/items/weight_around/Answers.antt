use Rattle.std.proofs.Common.{arith}
use Rattle.moo_value.proofs.Listing.{data_weight-three}
use Rattle.moo_value.proofs.items.weight_around.Goals as goal
use Rattle.moo_value.proofs.items.weight_around.Goals.{then-end-start, else-end-start}

pub overflow_sub-result : goal.overflow_sub-result
overflow_sub-result c =
    let parts = data_weight-three c.args.items.now c.args.start c.args.end (omega arith) in
    omega (arith, parts)

pub returns-else-whole-eq4294967295 : goal.returns-else-whole-eq4294967295
returns-else-whole-eq4294967295 c =
    let parts = data_weight-three c.args.items.now c.args.start c.args.end (omega arith) in
    omega (arith, parts)
