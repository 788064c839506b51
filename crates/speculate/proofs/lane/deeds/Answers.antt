use Rattle.speculate.proofs.Marked.{begins, begins_sound, marked_does, marked_sound, marked_records}
use Rattle.speculate.proofs.lane.deeds.Goals as goal

pub run_step-requires-clause-home : goal.run_step-requires-clause-home
run_step-requires-clause-home c = begins c.args.world.now.plain c.over-view.result c.over-view.ensures.empty c.over-view.ensures.sound

pub run_step-requires-clause-sound : goal.run_step-requires-clause-sound
run_step-requires-clause-sound c = begins_sound c.args.world.now.plain c.over-view.result c.over-view.ensures.empty

pub returns-clause-does : goal.returns-clause-does
returns-clause-does c =
    marked_does c.args.world.now.plain c.args.step.now c.over-view.result c.run_step.new.view _ _ _ c.over-view.ensures.empty c.run_step.ensures.home c.finish-changes.ensures.changes
    c.in_ok-outcome.ensures.played c.finish-changes.ensures.objects

pub returns-clause-sound : goal.returns-clause-sound
returns-clause-sound c =
    marked_sound c.args.world.now.plain c.over-view.result c.run_step.new.view _ c.over-view.ensures.empty c.run_step.ensures.home c.finish-changes.ensures.changes
    c.in_ok-outcome.ensures.stays c.in_ok-outcome.ensures.sound

pub returns-clause-after : goal.returns-clause-after
returns-clause-after c =
    marked_records c.args.world.now.plain c.over-view.result c.run_step.new.view _ _ c.over-view.ensures.empty c.run_step.ensures.home c.finish-changes.ensures.changes
    c.finish-changes.ensures.fork
