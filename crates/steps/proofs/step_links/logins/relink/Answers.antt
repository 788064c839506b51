use Rattle.std.proofs.Common.{◌≡◌, None, w32, rules}
use Rattle.std.proofs.lemmas.Int.{to_z-of_z}
use Rattle.spec_world.specs.World.{Link}
use Rattle.spec_moo.specs.Steps.Events.{foreground_ticks}
use Rattle.spec_ready.proofs.Readiness.{login_ranged}
use Rattle.moo_task.specs.Deeds.{scene_of}
use Rattle.steps.proofs.StepsPlaying.{ready_agrees}
use Rattle.steps.proofs.Accepted.{relinked_goes, relinked_ready}
use Rattle.steps.proofs.step_links.logins.relink.Goals as goal

pub returns-clause-left : goal.returns-clause-left
returns-clause-left g c =
    let view = g.V.View in
    let home = view.home c.args.view.now in
    let connection = to_z-of_z w32 c.args.connection c.ranges.connection in
    let player = to_z-of_z w32 c.args.player c.ranges.player in
    let k : Link = record { person = c.args.player; programming = None } in
    let link : c.new.result ≡ k = search rules in
    let ranged = login_ranged (scene_of c.args.deeds.now (view.now c.args.view.now home) foreground_ticks) c.args.connection c.args.player (c.requires.ready home c.requires.home foreground_ticks) (c.requires.may home c.requires.home) in
    relinked_goes view.holds view.now c.args.view.now c.close_connection_of.new.view c.write_link.new.view c.args.deeds.now c.close_connection_of.new.deeds c.tell_line.new.deeds c.args.connection c.args.player c.new.result
    c.tell_line.result ranged link (rw player at c.in_ok-close_connection_of.ensures.left) (rw connection at c.in_ok-write_link.ensures.left) (rw connection at c.tell_line.ensures)

pub returns-clause-ready : goal.returns-clause-ready
returns-clause-ready g c =
    let view = g.V.View in
    relinked_ready view.holds view.now c.args.view.now c.write_link.new.view c.args.deeds.now c.tell_line.new.deeds c.args.connection c.args.player c.tell_line.result c.requires.ready c.requires.may (returns-clause-left g c)

pub close_connection_of-requires-clause-well_formed : goal.close_connection_of-requires-clause-well_formed
close_connection_of-requires-clause-well_formed g c = ready_agrees g.V.View.holds g.V.View.now c.args.view.now c.args.deeds.now c.requires.ready
