use Rattle.std.proofs.Common.{w32}
use Rattle.std.proofs.lemmas.Int.{to_z-of_z}
use Rattle.moo_task.specs.declared.effect.NativeEffect.TheVariants.{Answers}
use Rattle.builtins.proofs.Keeps.{resumed_well}
use Rattle.builtins.proofs.builtins_queue.resume.resume_with.Goals as goal

pub returns-clause-well_formed : goal.returns-clause-well_formed
returns-clause-well_formed g c = λ known.
    let id = to_z-of_z w32 c.args.id c.ranges.id in
    let programmer = to_z-of_z w32 c.args.programmer c.ranges.programmer in
    resumed_well g.V.View.holds g.V.View.now c.args.view.now c.give_value.new.view c.args.deeds.now c.args.programmer (Answers c.in_ok-answer.answer) c.args.id c.args.value
    known (rw (id, programmer) at c.in_ok-answer.ensures.left)
