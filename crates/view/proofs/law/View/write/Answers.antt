use Rattle.std.proofs.Common.{◌≡◌, true, rules, w32, to_z, of_z}
use Rattle.spec_world.specs.Permissions.{owns_or}
use Rattle.view.proofs.Written.{written}
use Rattle.view.proofs.law.View.write.Goals as goal

pub returns-clause-left : goal.returns-clause-left
returns-clause-left g c =
    let object : to_z w32 (of_z w32 c.args.object) ≡ c.args.object = search rules in
    let name : c.in_ok-name.name ≡ c.args.name.now = search rules in
    let value : c.in_ok-value.value ≡ c.args.value.now = search rules in
    let allowed : owns_or c.args.programmer c.in-Some.slot.owner c.in-Some.slot.writable ≡ true = search rules in
    written g.Self.View.holds g.Self.View.now c.args.programmer c.args.object c.args.name.now c.args.value.now c.args.self.now c.slot.new.self c.put.new.self c.in-Some.slot allowed
    (rw (object, c.in-Some.is) at c.in_ok-slot.ensures.left) (rw (object, name, value) at c.in_ok-put.ensures.left)
