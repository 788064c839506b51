use Rattle.std.proofs.Common.{◌≡◌, ◌∙◌, true, false, ap, sym, codes, w32, if◌then◌else◌}
use Rattle.std.specs.Ordering.{int_eq}
use Rattle.std.proofs.lemmas.Int.{to_z-of_z}
use Rattle.spec_world.specs.Links.{connection_object}
use Rattle.spec_world.specs.VerbsSought.{find_verb}
use Rattle.spec_moo.specs.Steps.Running.{system}
use Rattle.spec_moo.specs.Steps.Events.{told_gone, nothing_runs, foreground_ticks}
use Rattle.moo_task.specs.Deeds.{scene_of}
use Rattle.steps.proofs.step_events.connections.gone.Goals as goal

pub returns-then-nobodys-clause-played : goal.returns-then-nobodys-clause-played
returns-then-nobodys-clause-played g c w h =
    let v = g.V.View.now c.args.view.now w in
    let nobody : int_eq c.args.person (connection_object c.args.connection) ≡ true = sym (rw (to_z-of_z w32 c.args.person c.ranges.person, to_z-of_z w32 c.args.connection c.ranges.connection) at c.is_nobodys-nobodys.ensures) ∙ c.if-nobodys.true in (
      h,
      ap (λ b. if b then nothing_runs (scene_of c.args.deeds.now v foreground_ticks) else told_gone (scene_of c.args.deeds.now v foreground_ticks) c.args.person (find_verb v system (codes "user_disconnected"))) nobody
          ∙ c.nothing.ensures c.args.deeds.now v foreground_ticks,
    )

pub returns-clause-played : goal.returns-clause-played
returns-clause-played g c w h =
    let view = g.V.View in
    let v = view.now c.args.view.now w in
    let somebody : int_eq c.args.person (connection_object c.args.connection) ≡ false = sym (rw (to_z-of_z w32 c.args.person c.ranges.person, to_z-of_z w32 c.args.connection c.ranges.connection) at c.is_nobodys-nobodys.ensures) ∙ c.if-nobodys.false in
    let r = (rw (to_z-of_z w32 c.args.person c.ranges.person) at c.in_ok-outcome.ensures.played) w h in
    (r.0, ap (λ b. if b then nothing_runs (scene_of c.args.deeds.now v foreground_ticks) else told_gone (scene_of c.args.deeds.now v foreground_ticks) c.args.person (find_verb v system (codes "user_disconnected"))) somebody ∙ r.1)
