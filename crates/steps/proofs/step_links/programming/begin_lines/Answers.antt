use Rattle.std.proofs.Common.{◌∙◌, Some, [], ap, sym, w32, rules}
use Rattle.std.proofs.lemmas.Int.{to_z-of_z}
use Rattle.spec_value.specs.Datum.{Text}
use Rattle.spec_world.specs.World.{Link}
use Rattle.spec_world.specs.Links.{open_link}
use Rattle.spec_moo.specs.Steps.Events.{foreground_ticks}
use Rattle.spec_moo.specs.Steps.Programming.{begins, says}
use Rattle.moo_task.specs.Deeds.{scene_of}
use Rattle.steps.proofs.StepsPlaying.{plays_last}
use Rattle.steps.proofs.Relinks.{link_ranged, written_goes}
use Rattle.steps.specs.StepsPerformed.{came_to_of}
use Rattle.steps.proofs.step_links.programming.begin_lines.Goals as goal

pub returns-clause-played : goal.returns-clause-played
returns-clause-played g c =
    let view = g.V.View in
    let home = view.home c.args.view.now in
    let connection = to_z-of_z w32 c.args.connection c.ranges.connection in
    let ranged = link_ranged (scene_of c.args.deeds.now (view.now c.args.view.now home) foreground_ticks) c.args.connection c.args.link.now (c.requires.ready home c.requires.home foreground_ticks) (c.requires.link home c.requires.home) in
    let k : Link = record { person = c.args.link.now.person; programming = Some (record { object = c.args.object; verb = c.args.verb; lines = Some [] }) } in
    let made = rw connection at c.in_ok-write_link.ensures.left in
    let line = c.as_str.ensures ∙ rw (to_z-of_z w32 c.args.object c.ranges.object) at c.in_ok-line.ensures in
    plays_last view.holds view.now c.args.view.now c.write_link.new.view (λ w. open_link w c.args.connection k)
    (λ w. begins (scene_of c.args.deeds.now w foreground_ticks) c.args.connection c.args.link.now.person c.args.object c.args.verb (Some c.args.place)) (came_to_of c.says.new.deeds c.in_ok-outcome.outcome)
    (written_goes view.holds view.now c.args.view.now c.write_link.new.view c.args.connection _ k ranged (search rules) made)
    (λ w. ap (λ (t : Text). says (scene_of c.args.deeds.now (open_link w c.args.connection k) foreground_ticks) c.args.connection t) (sym line)
    ∙ (rw connection at c.in_ok-outcome.ensures) (open_link w c.args.connection k) foreground_ticks)
