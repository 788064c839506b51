use Rattle.std.proofs.Common.{◌≡◌, rules, w32, to_z, of_z}
use Rattle.rules.proofs.ReadRules.{lent_read}
use Rattle.rules.proofs.access.reading.lent_by_name.Goals as goal

pub returns : goal.returns
returns g c =
    let view = g.V.View in
    let object : to_z w32 (of_z w32 c.args.object) ≡ c.args.object = search rules in
    let programmer : to_z w32 (of_z w32 c.args.programmer) ≡ c.args.programmer = search rules in
    lent_read view.holds view.now c.args.view.now (λ v. v.now) c.args.programmer c.args.object c.args.name.now c.value_at_hand.result
    (λ w is. (c.requires.well_formed w is).objects) (rw (object, programmer) at c.value_at_hand.ensures)
