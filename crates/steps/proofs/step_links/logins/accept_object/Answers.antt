use Rattle.std.proofs.Common.{◌≡◌, ℕ, true, w32}
use Rattle.std.proofs.lemmas.Int.{to_z-of_z}
use Rattle.spec_moo.specs.Steps.Events.{foreground_ticks, may_log_in}
use Rattle.moo_task.specs.Deeds.{scene_of}
use Rattle.moo_task.specs.declared.deeds.Deeds.{Deeds}
use Rattle.steps.proofs.StepsPlaying.{ready_told, told_still}
use Rattle.steps.proofs.Accepted.{refused, let_in}
use Rattle.steps.proofs.step_links.logins.accept_object.Goals as goal

pub log_player_in-requires-clause-ready : goal.log_player_in-requires-clause-ready
log_player_in-requires-clause-ready g c =
    let connection = to_z-of_z w32 c.args.connection c.ranges.connection in
    let object = to_z-of_z w32 c.args.object c.ranges.object in
    ready_told g.V.View.holds g.V.View.now c.args.view.now c.may_log_in.new.view (λ w. (d : Deeds) (t : ℕ) → may_log_in (scene_of d w t) c.args.connection c.args.object ≡ c.in_ok-may.may) c.args.deeds.now
    c.requires.ready (rw (connection, object) at c.in_ok-may.ensures.left)

pub log_player_in-requires-clause-may : goal.log_player_in-requires-clause-may
log_player_in-requires-clause-may g c w h =
    let connection = to_z-of_z w32 c.args.connection c.ranges.connection in
    let object = to_z-of_z w32 c.args.object c.ranges.object in
    let may = told_still g.V.View.holds g.V.View.now c.args.view.now c.may_log_in.new.view (λ w. (d : Deeds) (t : ℕ) → may_log_in (scene_of d w t) c.args.connection c.args.object ≡ true)
    (rw (connection, object, c.if-not-may.false) at c.in_ok-may.ensures.left) w h c.args.deeds.now foreground_ticks in
    rw (connection, object) may

pub returns-then-not-may-clause-left : goal.returns-then-not-may-clause-left
returns-then-not-may-clause-left g c =
    let connection = to_z-of_z w32 c.args.connection c.ranges.connection in
    let object = to_z-of_z w32 c.args.object c.ranges.object in
    refused g.V.View.holds g.V.View.now c.args.view.now c.may_log_in.new.view c.args.deeds.now c.args.connection c.args.object (rw (connection, object, c.if-not-may.true) at c.in_ok-may.ensures.left)

pub returns-clause-left : goal.returns-clause-left
returns-clause-left g c =
    let connection = to_z-of_z w32 c.args.connection c.ranges.connection in
    let object = to_z-of_z w32 c.args.object c.ranges.object in
    let_in g.V.View.holds g.V.View.now c.args.view.now c.may_log_in.new.view c.log_player_in.new.view c.args.deeds.now c.log_player_in.new.deeds c.args.connection c.args.object c.log_player_in.result
    (rw (connection, object, c.if-not-may.false) at c.in_ok-may.ensures.left) (rw (connection, object) at c.log_player_in.ensures.left)
