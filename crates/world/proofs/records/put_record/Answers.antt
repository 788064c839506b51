use Rattle.std.proofs.Common.{◌≡◌, pos, arith, rules}
use Rattle.world.proofs.Maps.{key_of_there}
use Rattle.world.proofs.records.put_record.Goals as goal

pub put-requires : goal.put-requires
put-requires g c =
    let is : c.args.number ≡ pos c.in-Some.key = search rules in
    (omega arith, key_of_there _ c.args.number c.in-Some.key 1048576 c.len-known.ensures.within is c.requires)
