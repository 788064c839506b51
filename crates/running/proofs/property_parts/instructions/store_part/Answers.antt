use Rattle.std.proofs.Common.{arith}
use Rattle.moo_code.specs.Instruction as code
use Rattle.moo_task.specs.declared.moo_machine.verb.Did.TheVariants.{RanOut, LacksOperand}
use Rattle.running.proofs.Asking.{still}
use Rattle.running.proofs.PropertyPartsStoring.{shape, store_unpaid, store_lacks}
use Rattle.running.proofs.property_parts.instructions.store_part.Goals as goal

pub returns-then-len-count-clause-left : goal.returns-then-len-count-clause-left
returns-then-len-count-clause-left g c =
    let s = c.args.state.now in
    let bs = c.args.brackets.now in
    still g.V.View.holds g.V.View.now c.args.view.now (code.store (shape bs)) c.args.call.now s LacksOperand s
    (λ r. store_lacks r c.args.call.now s bs c.saturating_add-count.result (omega arith) (omega arith))

pub returns-then-state-eq0-clause-left : goal.returns-then-state-eq0-clause-left
returns-then-state-eq0-clause-left g c =
    let s = c.args.state.now in
    let bs = c.args.brackets.now in
    still g.V.View.holds g.V.View.now c.args.view.now (code.store (shape bs)) c.args.call.now s RanOut s
    (λ r. store_unpaid r c.args.call.now s bs (omega arith) c.if-state-eq0.true)
