use Rattle.std.proofs.Common.{◌≡◌, codes, to_z, of_z, w32, rules}
use Rattle.std.proofs.lemmas.Int.{to_z-of_z}
use Rattle.spec_world.specs.Links.{connection_object}
use Rattle.spec_moo.specs.Steps.Running.{system_task}
use Rattle.spec_moo.specs.Steps.Events.{foreground_ticks}
use Rattle.moo_task.specs.Deeds.{scene_of}
use Rattle.steps.proofs.Logins.{login_taken}
use Rattle.steps.proofs.step_events.login.log_in.Goals as goal

pub run_task-requires-clause-runs : goal.run_task-requires-clause-runs
run_task-requires-clause-runs g c =
    let connection = to_z-of_z w32 c.args.connection c.ranges.connection in
    let object : to_z w32 (of_z w32 c.connection_object-object.result) ≡ c.connection_object-object.result = search rules in
    let made : c.connection_object-object.result ≡ connection_object c.args.connection = rw connection at c.connection_object-object.ensures in
    let l = c.requires.list in (
      system_task (connection_object c.args.connection) (codes "do_login_command") c.args.argstr l.0 c.args.found.now,
      rw (object, made) at (c.in_ok-task.ensures.runs l.0 l.1),
    )

pub accept-requires-clause-ready : goal.accept-requires-clause-ready
accept-requires-clause-ready g c = c.in_ok-ran.ensures.ready

pub returns-clause-played : goal.returns-clause-played
returns-clause-played g c args is w h =
    let view = g.V.View in
    let connection = to_z-of_z w32 c.args.connection c.ranges.connection in
    let object : to_z w32 (of_z w32 c.connection_object-object.result) ≡ c.connection_object-object.result = search rules in
    let made : c.connection_object-object.result ≡ connection_object c.args.connection = rw connection at c.connection_object-object.ensures in
    let t = (rw connection at c.in_ok-accept.ensures.accepts) w h in
    let p = system_task (connection_object c.args.connection) (codes "do_login_command") c.args.argstr args c.args.found.now in
    let may = rw (object, made) at (c.in_ok-task.ensures.runs args is) in
    let r = (rw c.in_ok-task.ensures.ticks at (c.in_ok-ran.ensures.ran p may)) w t.0 in (
      r.0,
      login_taken (scene_of c.args.deeds.now (view.now c.args.view.now w) foreground_ticks) c.args.connection p (view.now c.run_task.new.view w) (view.now c.accept.new.view w) c.run_task.new.deeds c.accept.new.deeds
          c.in_ok-ran.ran r.1 t.1,
    )
