use Rattle.std.proofs.Common.{arith}
use Rattle.view.specs.Meanings.{change_of}
use Rattle.view.proofs.Again.{revalued_so}
use Rattle.view.proofs.changes.Changes.set_value.Goals as goal

pub returns-clause-done : goal.returns-clause-done
returns-clause-done c = λ so.
    revalued_so change_of c.args.value c.args.self.now c.self.inside.items.items c.args.place c.index_mut.result.now c.revalue.new.change c.self.view_is (omega arith) c.index_mut.ensures.value (c.revalue.ensures.done so)
