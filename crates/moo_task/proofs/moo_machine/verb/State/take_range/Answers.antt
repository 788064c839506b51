use Rattle.std.proofs.Common.{◌≡◌, ◌∙◌, ap, sym, suc, ◌-◌, ◌∷◌, arith}
use Rattle.moo_task.specs.Shown.{answered_of}
use Rattle.moo_task.proofs.Operations.{takes_range}
use Rattle.moo_task.proofs.moo_machine.verb.State.take_range.Goals as goal

pub returns : goal.returns
returns c a =
    let taken : c.args.self.now.operands ≡ c.in-Some.last ∷ c.in-Some-pop.first ∷ c.in-Some-pop-2.base ∷ c.pop-3.new.self =
    c.in-Some.ensures ∙ ap (λ st. c.in-Some.last ∷ st) (c.in-Some-pop.ensures ∙ ap (λ st. c.in-Some-pop.first ∷ st) c.in-Some-pop-2.ensures) in
    let paid : c.args.self.now.ticks ≡ suc (c.args.self.now.ticks - 1) = omega arith in
    takes_range a c.args.call.now c.args.self.now c.pop-3.new.self c.in-Some-pop-2.base c.in-Some-pop.first c.in-Some.last (c.args.self.now.ticks - 1) taken paid
    ∙ ap (λ r. answered_of a c.args.call.now r (record (c.args.self.now) { operands = c.pop-3.new.self; ticks = c.args.self.now.ticks - 1 })) (sym c.in_ok-answer.ensures)
    ∙ c.in_ok-did.ensures a
