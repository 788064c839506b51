use Rattle.std.proofs.Common.{Some, w32}
use Rattle.std.proofs.lemmas.Int.{to_z-of_z}
use Rattle.steps.proofs.StepsPlaying.{ready_agrees}
use Rattle.steps.proofs.Accepted.{greeted_then, not_there_greeted}
use Rattle.steps.proofs.step_links.logins.greet.Goals as goal

pub on_system-requires-clause-well_formed : goal.on_system-requires-clause-well_formed
on_system-requires-clause-well_formed g c = ready_agrees g.V.View.holds g.V.View.now c.args.view.now c.args.deeds.now c.requires.ready

pub returns-in-Some-clause-left : goal.returns-in-Some-clause-left
returns-in-Some-clause-left g c =
    let view = g.V.View in
    let player = to_z-of_z w32 c.args.player c.ranges.player in
    greeted_then view.holds view.now c.args.view.now c.on_system.new.view c.queue_greeting.new.view c.args.deeds.now c.queue_greeting.new.deeds c.args.player (Some c.in-Some.found) c.queue_greeting.result
    (rw c.in-Some.is at c.in_ok-found.ensures.left) (rw player at c.queue_greeting.ensures.left)

pub returns-in-None-clause-left : goal.returns-in-None-clause-left
returns-in-None-clause-left g c =
    let view = g.V.View in
    not_there_greeted view.holds view.now c.args.view.now c.on_system.new.view c.args.deeds.now c.args.player (rw c.in-None.is at c.in_ok-found.ensures.left)
