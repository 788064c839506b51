use Rattle.std.proofs.Common.{◌≡◌, suc, ◌-◌, length, arith, rules, w32, to_z, of_z}
use Rattle.view.specs.Meanings.{change_of}
use Rattle.view.proofs.Again.{renewed_so}
use Rattle.view.proofs.changes.Changes.renew.Goals as goal

pub returns-clause-done : goal.returns-clause-done
returns-clause-done c =
    let object : to_z w32 (of_z w32 c.args.object) ≡ c.args.object = search rules in
    let count : length c.self.inside.items.items ≡ suc (c.len-count.result - 1) = omega arith in
    renewed_so change_of c.args.object c.args.name.now c.args.value.now c.args.self.now c.self.inside.items.items c.len-count.result c.index_mut.result.now c.renew_one.new.change c.renew_one.result
    c.self.view_is count c.index_mut.ensures.value (rw object at c.renew_one.ensures.done)
