use Rattle.std.proofs.Common.{◌∙◌, ◌<◌, ap, sym, arith, drop, length}
use Rattle.moo_task.proofs.Next.{next_place}
use Rattle.local_code.specs.Taking.{first_taking}
use Rattle.local_code.proofs.Passing.{step_past, none_left}
use Rattle.local_code.proofs.moo_unwind.arms.first_taking.Goals as goal

pub loop-i-preserved : goal.loop-i-preserved
loop-i-preserved c =
    let in_arms : c.loop-i.i < length c.args.arms.now = omega arith in
    let in_held : c.loop-i.i < length c.args.held.now = omega arith in
    c.loop-i.invariant
    ∙ step_past c.args.arms.now c.args.held.now c.args.code.now c.loop-i.i c.index-held-i.result in_arms in_held c.index-held-i.is (sym c.takes_code.ensures ∙ c.if-takes_code.false)
    ∙ ap (λ n. first_taking (drop n c.args.arms.now) (drop n c.args.held.now) c.args.code.now) (sym (next_place c.loop-i.i))

pub returns : goal.returns
returns c = sym (c.loop-i.invariant ∙ none_left c.args.arms.now c.args.held.now c.args.code.now c.loop-i.i (omega arith))
