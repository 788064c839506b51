use Rattle.std.proofs.Common.{w32}
use Rattle.std.proofs.lemmas.Int.{to_z-of_z}
use Rattle.spec_program.specs.ReadPrograms.{program}
use Rattle.spec_world.specs.World.{World}
use Rattle.spec_world.specs.Members.{verb_changed}
use Rattle.spec_moo.specs.Steps.Events.{foreground_ticks}
use Rattle.spec_moo.specs.Steps.Programming.{written}
use Rattle.moo_task.specs.Deeds.{scene_of}
use Rattle.builtins_view.specs.Programs.{with_program}
use Rattle.steps.proofs.StepsPlaying.{plays_last}
use Rattle.steps.specs.StepsPerformed.{came_to_of}
use Rattle.steps.proofs.step_links.coding.put_tree.Goals as goal

pub replace_program-requires-clause-there : goal.replace_program-requires-clause-there
replace_program-requires-clause-there g c w h = rw (to_z-of_z w32 c.args.object c.ranges.object) (c.requires.there w h)

pub returns-clause-played : goal.returns-clause-played
returns-clause-played g c =
    let object = to_z-of_z w32 c.args.object c.ranges.object in
    let connection = to_z-of_z w32 c.args.connection c.ranges.connection in
    let change = λ (w : World). verb_changed w c.args.object c.args.place (with_program c.args.tree) in
    plays_last g.V.View.holds g.V.View.now c.args.view.now c.replace_program.new.view change
    (λ (w : World). written (scene_of c.args.deeds.now w foreground_ticks) c.args.connection c.args.object c.args.place (program c.args.tree)) (came_to_of c.says.new.deeds c.in_ok-outcome.outcome)
    (rw (object, c.in_ok-program.ensures) at c.in_ok-replace_program.ensures.left)
    (λ w. (rw connection at c.in_ok-outcome.ensures) (change w) foreground_ticks)
