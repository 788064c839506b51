use Rattle.std.proofs.Common.{◌∙◌, ap, w32, if◌then◌else◌}
use Rattle.std.proofs.lemmas.Int.{to_z-of_z}
use Rattle.spec_moo.specs.Steps.Events.{foreground_ticks}
use Rattle.spec_moo.specs.Steps.Programming.{ends, goes_on}
use Rattle.moo_task.specs.Deeds.{scene_of}
use Rattle.steps.proofs.Codings.{as_decided}
use Rattle.steps.proofs.step_links.collecting.collect.Goals as goal

pub returns-then-ends-clause-played : goal.returns-then-ends-clause-played
returns-then-ends-clause-played g c w h =
    let s = scene_of c.args.deeds.now (g.V.View.now c.args.view.now w) foreground_ticks in
    let k = c.args.link.now in
    let p = c.args.programming.now in
    let r = (rw (to_z-of_z w32 c.args.connection c.ranges.connection) at c.in_ok-outcome.ensures.played) w h in
    (r.0, as_decided s c.args.connection k p c.args.text.now _ c.is_end-ends.ensures ∙ ap (λ b. if b then ends s c.args.connection k p else goes_on s c.args.connection k p c.args.text.now) c.if-ends.true ∙ r.1)

pub returns-clause-played : goal.returns-clause-played
returns-clause-played g c w h =
    let s = scene_of c.args.deeds.now (g.V.View.now c.args.view.now w) foreground_ticks in
    let k = c.args.link.now in
    let p = c.args.programming.now in
    let r = (rw (to_z-of_z w32 c.args.connection c.ranges.connection) at c.in_ok-outcome-2.ensures.played) w h in
    (r.0, as_decided s c.args.connection k p c.args.text.now _ c.is_end-ends.ensures ∙ ap (λ b. if b then ends s c.args.connection k p else goes_on s c.args.connection k p c.args.text.now) c.if-ends.false ∙ r.1)
