use Rattle.std.proofs.Common.{◌≡◌, ◌+◌, arith}
use Rattle.spec_value.specs.Datum.{of_list, weight, data_weight}
use Rattle.spec_value.specs.Places.{without}
use Rattle.moo_value.proofs.Listing.{data_weight-without, data_weight-around}
use Rattle.moo_value.proofs.items.weight_without.Goals as goal

pub overflow_sub-result : goal.overflow_sub-result
overflow_sub-result c =
    let parts : data_weight (without (of_list c.args.items.now) c.args.place) + weight c.index-items-place.result ≡ data_weight (of_list c.args.items.now) = rw c.index-items-place.is (data_weight-without c.args.items.now c.args.place c.index-items-place.result c.requires.inside) in
    omega (arith, parts)

pub returns-then-whole-eq4294967295 : goal.returns-then-whole-eq4294967295
returns-then-whole-eq4294967295 c =
    let parts = data_weight-around c.args.items.now c.args.place c.requires.inside in
    omega (arith, parts)

pub returns-else-whole-eq4294967295 : goal.returns-else-whole-eq4294967295
returns-else-whole-eq4294967295 c =
    let parts : data_weight (without (of_list c.args.items.now) c.args.place) + weight c.index-items-place.result ≡ data_weight (of_list c.args.items.now) = rw c.index-items-place.is (data_weight-without c.args.items.now c.args.place c.index-items-place.result c.requires.inside) in
    omega (arith, parts)
