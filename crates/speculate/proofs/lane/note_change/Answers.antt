use Rattle.std.proofs.Common.{ap}
use Rattle.view.specs.Meanings.{change_of}
use Rattle.speculate.proofs.Strands.{value_last}
use Rattle.speculate.proofs.lane.note_change.Goals as goal

pub returns-then-add-clause-summed : goal.returns-then-add-clause-summed
returns-then-add-clause-summed c kept =
    value_last c.args.net.now c.keep.new.net c.args.next.now (change_of c.args.change.now) c.in-Value.object c.in-Value.field-1 c.in-Value.field-2 (ap change_of c.in-Value.is)
    (c.keep.ensures kept)
