use Rattle.std.proofs.Common.{◌∙◌, ℤ, ap, refl, w32, to_z, of_z}
use Rattle.std.proofs.lemmas.Int.{to_z-of_z}
use Rattle.spec_world.specs.World.{Call, Start}
use Rattle.moo_task.specs.Frames.{begun, kept_of}
use Rattle.steps.specs.Tasks.{called_as}
use Rattle.steps.proofs.Beginnings.{may_begin}
use Rattle.steps.proofs.step_tasks.begin.begin.Goals as goal

pub returns-clause-runs : goal.returns-clause-runs
returns-clause-runs c args is =
    let player = to_z-of_z w32 c.args.player c.ranges.player in
    let called : Call = called_as c.args.call c.args.word in
    let started =
    c.in_ok-frame.ensures.frame args is ∙ ap (λ (k : Call). begun (to_z w32 (of_z w32 c.args.player)) c.in_ok-start.start k c.args.program args) c.called_as-called.ensures
    ∙ ap (λ (z : ℤ). begun z c.in_ok-start.start called c.args.program args) player
    ∙ ap (λ (s : Start). begun c.args.player s called c.args.program args) c.in_ok-start.ensures in
    may_begin c.args.player c.args.call c.args.word c.args.start args c.args.program _ (kept_of c.in_ok-frame.frame) started refl player c.new-2.ensures
