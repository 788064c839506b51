use Rattle.std.proofs.Common.{◌≡◌, sym, None, rules, w32, to_z, of_z}
use Rattle.std.proofs.lemmas.Int.{to_z-of_z}
use Rattle.moo_task.specs.Effects.{waiting_of}
use Rattle.steps.proofs.Endings.{not_put, put_there}
use Rattle.steps.proofs.step_runs.ending.waits.Goals as goal

pub returns-in_default-clause-settles : goal.returns-in_default-clause-settles
returns-in_default-clause-settles g c w h =
    let view = g.V.View in
    let none : c.args.deeds.now.task ≡ None = search rules in
    (h, λ es wait stand. not_put c.args.player (waiting_of c.args.waiting) es c.waiting_ending-ending.result c.args.deeds.now (view.now c.args.view.now w) none (sym c.waiting_ending-ending.ensures))

pub returns-clause-settles : goal.returns-clause-settles
returns-clause-settles g c w h =
    let view = g.V.View in
    let player = to_z-of_z w32 c.args.player c.ranges.player in
    let id : to_z w32 (of_z w32 c.in-Some.id) ≡ c.in-Some.id = search rules in
    let r = (rw id at c.in_ok-enqueue.ensures.left) w h in (
      r.0,
      λ es wait stand.
          put_there c.args.player (waiting_of c.args.waiting) es c.waiting_ending-ending.result c.args.deeds.now c.enqueue.new.deeds (view.now c.args.view.now w) (view.now c.enqueue.new.view w) c.in-Some.id c.in_ok-task.task
          c.in-Some.is ((rw player at c.in_ok-task.ensures) es wait stand) (sym c.waiting_ending-ending.ensures) r.1,
    )
