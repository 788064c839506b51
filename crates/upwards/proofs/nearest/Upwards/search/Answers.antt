-- The line upwards is left where something is known or nothing is above, and has no more places than there are.
use Rattle.std.proofs.Common.{◌≡◌, suc, length, ap, sym, ◌∙◌, arith}
use Rattle.upwards.specs.Ways.{nearest_of}
use Rattle.upwards.proofs.Ways.{way_place, go_on, come_out, right_unknown, right_known}
use Rattle.upwards.proofs.nearest.Upwards.search.Goals as goal

pub returns-in_default : goal.returns-in_default
returns-in_default c = λ filled line r h short.
    let w = c.loop-step.invariant filled line r h short in
    right_known filled c.args.self.now r c.loop-step.place w.0 w.1 c.known.result c.known.ensures c.in_default.not-Unknown ∙ ap nearest_of w.3

pub returns-in-None : goal.returns-in-None
returns-in-None c = λ filled line r h short.
    let w = c.loop-step.invariant filled line r h short in
    let empty = right_unknown filled c.args.self.now r c.loop-step.place w.0 w.1 c.known.result c.known.ensures c.in-Unknown.is in
    ap nearest_of (sym (come_out filled c.args.self.now.parents.items c.loop-step.place w.0 w.1 empty c.in-None.ensures) ∙ w.3)

pub loop-step-preserved : goal.loop-step-preserved
loop-step-preserved c = λ filled line r h short.
    let w = c.loop-step.invariant filled line r h short in
    let empty = right_unknown filled c.args.self.now r c.loop-step.place w.0 w.1 c.known.result c.known.ensures c.in-Unknown.is in
    let f = go_on filled c.args.self.now.parents.items c.loop-step.place c.in-Some.parent w.0 w.1 empty c.in-Some.ensures in
    (f.later, f.is_way, omega (arith, f.shorter, w.2), f.finds ∙ w.3)

pub returns : goal.returns
returns c = λ filled line r h short.
    let w = c.loop-step.invariant filled line r h short in
    let p = way_place c.args.self.now.parents.items c.loop-step.place w.0 w.1 in
    let e : length w.0 ≡ suc (length p.1.0) = ap length p.1.1 in
    absurd (omega (arith, e, w.2, short))
