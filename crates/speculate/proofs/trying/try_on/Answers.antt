use Rattle.std.proofs.Common.{sym, subst}
use Rattle.view.specs.Sound.{IsSound}
use Rattle.world.specs.Amended.{Amended, amended_now}
use Rattle.speculate.proofs.Alone.{tried, tried_sound, tried_records}
use Rattle.speculate.proofs.trying.try_on.Goals as goal

pub run_step-requires-clause-sound : goal.run_step-requires-clause-sound
run_step-requires-clause-sound c = λ w is. subst (λ (a : Amended). IsSound (amended_now a)) (sym c.over-view.ensures.empty) c.over-view.ensures.sound

pub returns-clause-played : goal.returns-clause-played
returns-clause-played c =
    tried c.args.world.now.plain c.args.step.now c.over-view.result c.run_step.new.view _ _ c.over-view.ensures.empty c.run_step.ensures.home c.finish-changes.ensures.changes c.in_ok-outcome.ensures.played

pub returns-clause-sound : goal.returns-clause-sound
returns-clause-sound c =
    tried_sound c.args.world.now.plain c.over-view.result c.run_step.new.view _ c.over-view.ensures.empty c.run_step.ensures.home c.finish-changes.ensures.changes c.in_ok-outcome.ensures.sound

pub returns-clause-after : goal.returns-clause-after
returns-clause-after c =
    tried_records c.args.world.now.plain c.over-view.result c.run_step.new.view _ _ c.over-view.ensures.empty c.run_step.ensures.home c.finish-changes.ensures.changes c.finish-changes.ensures.fork
