use Rattle.std.proofs.Common.{◌≡◌, rules, w32, to_z, of_z}
use Rattle.speculate.proofs.Stamped.{raised_by}
use Rattle.speculate.proofs.stamps.Stamps.note_one.Goals as goal

pub returns-in-Value : goal.returns-in-Value
returns-in-Value c =
    let number : to_z w32 (of_z w32 c.in-Value.object) ≡ c.in-Value.object = search rules in
    raised_by c.args.self.now c.raise.new.self c.args.change.now _ _ _ c.args.count c.in-Value.is c.raise.ensures.others (rw number at c.raise.ensures.places)
