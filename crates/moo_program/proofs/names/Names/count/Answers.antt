use Rattle.std.proofs.Common.{length, ap, arith}
use Rattle.moo_program.proofs.Slots.{known_count}
use Rattle.moo_program.proofs.names.Names.count.Goals as goal

pub returns : goal.returns
returns c =
    let count = known_count c.args.self.now in
    let len = c.self.inside.list.ok.0 in
    let same = ap length c.self.view_is in
    omega (arith, count, len, same)
