use Rattle.std.proofs.Common.{sym, ◌∙◌, w32}
use Rattle.std.proofs.lemmas.Int.{to_z-of_z}
use Rattle.moo_task.specs.declared.effect.NativeEffect.TheVariants.{Answers}
use Rattle.builtins.proofs.BuiltinsQueueRows.{dies_itself, kills_other}
use Rattle.builtins.proofs.Keeps.{killed_well}
use Rattle.builtins.proofs.builtins_queue.kill.kill_task.Goals as goal

pub returns-then-own-clause-left : goal.returns-then-own-clause-left
returns-then-own-clause-left g c =
    let id = to_z-of_z w32 c.args.id c.ranges.id in
    dies_itself g.V.View.holds g.V.View.now c.args.deeds.now c.args.programmer c.args.id c.args.view.now (sym (rw id at c.is_own-own.ensures) ∙ c.if-own.true)

pub returns-clause-left : goal.returns-clause-left
returns-clause-left g c =
    let id = to_z-of_z w32 c.args.id c.ranges.id in
    let programmer = to_z-of_z w32 c.args.programmer c.ranges.programmer in
    kills_other g.V.View.holds g.V.View.now c.args.deeds.now c.args.programmer c.args.id c.args.view.now c.kill.new.view c.in_ok-answer.answer (sym (rw id at c.is_own-own.ensures) ∙ c.if-own.false)
    (rw (id, programmer) at c.in_ok-answer.ensures.left)

pub returns-clause-well_formed : goal.returns-clause-well_formed
returns-clause-well_formed g c = λ known.
    killed_well g.V.View.holds g.V.View.now c.args.view.now c.kill.new.view c.args.deeds.now c.args.programmer (Answers c.in_ok-answer.answer) c.args.id known (returns-clause-left g c)
