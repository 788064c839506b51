use Rattle.named_objects.proofs.Records.{looked}
use Rattle.named_objects.proofs.names.look_upwards.Goals as goal

pub returns : goal.returns
returns c = λ w are.
    looked w c.args.records.now c.in_ok-parents.parents.items are c.in_ok-parents.ensures c.new.result c.in_ok-nearest.nearest.items c.known_everywhere.result c.new.ensures.parents c.in_ok-nearest.ensures.count
    c.in_ok-nearest.ensures.each c.new.ensures.right c.known_everywhere.ensures
