use Rattle.std.proofs.Common.{◌≡◌, Some, None, ap, to_z, of_z, w32, rules}
use Rattle.std.proofs.lemmas.Int.{to_z-of_z}
use Rattle.spec_value.specs.Datum.{text}
use Rattle.spec_value.specs.Table.{at}
use Rattle.spec_world.specs.Links.{reader_of}
use Rattle.spec_moo.specs.Steps.Events.{line_read, line_for, read_by, foreground_ticks}
use Rattle.moo_task.specs.Deeds.{scene_of}
use Rattle.rules.proofs.Tellings.{if_ok_as}
use Rattle.steps.proofs.StepsPlaying.{plays_then, ready_told, still}
use Rattle.steps.specs.StepsPerformed.{came_to_of}
use Rattle.steps.proofs.step_events.lines.read_line.Goals as goal

pub read_by-requires-clause-ready : goal.read_by-requires-clause-ready
read_by-requires-clause-ready g c =
    ready_told g.V.View.holds g.V.View.now c.args.view.now c.reader.new.view (λ w. reader_of w c.args.connection ≡ c.in_ok-reader.reader) c.args.deeds.now c.requires.ready
    (rw (to_z-of_z w32 c.args.connection c.ranges.connection) at c.in_ok-reader.ensures.left)

pub line_for-requires-clause-ready : goal.line_for-requires-clause-ready
line_for-requires-clause-ready g c =
    ready_told g.V.View.holds g.V.View.now c.args.view.now c.reader.new.view (λ w. reader_of w c.args.connection ≡ c.in_ok-reader.reader) c.args.deeds.now c.requires.ready
    (rw (to_z-of_z w32 c.args.connection c.ranges.connection) at c.in_ok-reader.ensures.left)

pub line_for-requires-clause-link : goal.line_for-requires-clause-link
line_for-requires-clause-link g c =
    rw (to_z-of_z w32 c.args.connection c.ranges.connection) (still g.V.View.holds g.V.View.now c.args.view.now c.reader.new.view (λ w. reader_of w c.args.connection ≡ c.in_ok-reader.reader)
    (λ w. at w.links c.args.connection ≡ Some c.args.link.now) c.requires.link (rw (to_z-of_z w32 c.args.connection c.ranges.connection) at c.in_ok-reader.ensures.left))

pub returns-in_ok-clone-in-Some-clause-played : goal.returns-in_ok-clone-in-Some-clause-played
returns-in_ok-clone-in-Some-clause-played g c =
    let connection = to_z-of_z w32 c.args.connection c.ranges.connection in
    let id : to_z w32 (of_z w32 c.in-Some.id) ≡ c.in-Some.id = search rules in
    let value : c.text-value.result ≡ text c.args.text.now = search rules in
    if_ok_as _ _
    (λ o played. plays_then g.V.View.holds g.V.View.now c.args.view.now c.reader.new.view c.read_by.new.view (λ w. reader_of w c.args.connection ≡ Some c.in-Some.id)
    (λ w. line_read (scene_of c.args.deeds.now w foreground_ticks) c.args.connection c.args.link.now c.args.text.now (reader_of w c.args.connection))
    (λ w. read_by (scene_of c.args.deeds.now w foreground_ticks) c.in-Some.id (text c.args.text.now) (at w.tasks c.in-Some.id)) (came_to_of c.read_by.new.deeds o)
    (rw (connection, c.in-Some.is) at c.in_ok-reader.ensures.left) played
    (λ w is. ap (line_read (scene_of c.args.deeds.now w foreground_ticks) c.args.connection c.args.link.now c.args.text.now) is))
    c.read_by.result (rw (id, value) at c.read_by.ensures.played)

pub returns-in-None-clause-played : goal.returns-in-None-clause-played
returns-in-None-clause-played g c =
    let connection = to_z-of_z w32 c.args.connection c.ranges.connection in
    if_ok_as _ _
    (λ o played. plays_then g.V.View.holds g.V.View.now c.args.view.now c.reader.new.view c.line_for.new.view (λ w. reader_of w c.args.connection ≡ None)
    (λ w. line_read (scene_of c.args.deeds.now w foreground_ticks) c.args.connection c.args.link.now c.args.text.now (reader_of w c.args.connection))
    (λ w. line_for (scene_of c.args.deeds.now w foreground_ticks) c.args.connection c.args.link.now c.args.text.now) (came_to_of c.line_for.new.deeds o)
    (rw (connection, c.in-None.is) at c.in_ok-reader.ensures.left) played
    (λ w is. ap (line_read (scene_of c.args.deeds.now w foreground_ticks) c.args.connection c.args.link.now c.args.text.now) is))
    c.line_for.result (rw connection at c.line_for.ensures.played)
