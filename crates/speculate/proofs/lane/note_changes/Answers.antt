use Rattle.std.proofs.Common.{◌∙◌, refl, sym, ap, arith}
use Rattle.spec_world.specs.Questions.{new_next, apply, apply_all}
use Rattle.view.specs.Meanings.{change_of}
use Rattle.speculate.proofs.Taken.{taken_more, all_taken}
use Rattle.speculate.proofs.Strands.{own_more, own_all}
use Rattle.speculate.proofs.Tables.{grows_still, grows_on}
use Rattle.speculate.proofs.lane.note_changes.Goals as goal

pub loop-change-init : goal.loop-change-init
loop-change-init c = record { grows = grows_still c.args.changed.now; own = tt; summed = λ w. refl }

pub loop-change-preserved : goal.loop-change-preserved
loop-change-preserved c =
    let i = c.loop-change.invariant in
    let yes = c.if-not-note_change.false in record {
      grows = grows_on c.args.changed.now c.loop-change.changed c.note_change.new.changed i.grows c.note_change.ensures.changed;
      own = own_more change_of c.loop-change.changed c.note_change.new.changed c.args.changes.now c.loop-change.change-index c.change-item.result
          c.note_change.ensures.changed (omega arith) c.change-item.is (c.note_change.ensures.own yes) i.own;
      summed = λ w.
          c.note_change.ensures.summed yes w
          ∙ ap (apply (change_of c.change-item.result)) (i.summed w)
          ∙ sym (taken_more c.args.changes.now c.loop-change.change-index c.change-item.result (apply (new_next c.args.next.now) (apply_all c.args.net.now w)) (omega arith) c.change-item.is);
    }

pub returns-clause-own : goal.returns-clause-own
returns-clause-own c done = own_all change_of c.loop-change.changed c.args.changes.now c.loop-change.change-index (omega arith) c.loop-change.invariant.own

pub returns-clause-summed : goal.returns-clause-summed
returns-clause-summed c done w =
    c.loop-change.invariant.summed w ∙ all_taken c.args.changes.now c.loop-change.change-index (apply (new_next c.args.next.now) (apply_all c.args.net.now w)) (omega arith)
