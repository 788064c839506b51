use Rattle.std.proofs.Common.{◌∙◌, refl, sym, ap, arith}
use Rattle.spec_world.specs.Questions.{apply, apply_all}
use Rattle.view.specs.Meanings.{change_of}
use Rattle.speculate.proofs.Taken.{taken_more, all_taken}
use Rattle.speculate.proofs.weaving.add_changes.Goals as goal

pub loop-change-init : goal.loop-change-init
loop-change-init c w = refl

pub loop-change-preserved : goal.loop-change-preserved
loop-change-preserved c w =
    c.add_change.ensures c.if-not-add_change.false w
    ∙ ap (apply (change_of c.change-item.result)) (c.loop-change.invariant w)
    ∙ sym (taken_more c.args.changes.now c.loop-change.change-index c.change-item.result (apply_all c.args.all.now w) (omega arith) c.change-item.is)

pub returns : goal.returns
returns c done w = c.loop-change.invariant w ∙ all_taken c.args.changes.now c.loop-change.change-index (apply_all c.args.all.now w) (omega arith)
