use Rattle.std.proofs.Common.{◌∙◌, ap, sym}
use Rattle.spec_value.specs.Datum.{Datum}
use Rattle.spec_moo.specs.Leaving.{returned}
use Rattle.moo_task.specs.Outcomes.{ticks_of}
use Rattle.local_code.specs.Scenes.{scene_at}
use Rattle.local_code.specs.Steps.{out_at}
use Rattle.local_code.proofs.Out.{broken_out, continued_out}
use Rattle.running.proofs.moo_run.leaving.give_zero.Goals as goal

pub returns-clause-broken : goal.returns-clause-broken
returns-clause-broken g c w h =
    let l = c.in_ok-outcome.ensures.out w h in (
      l.0,
      λ n. broken_out c.args.task.now.player (ticks_of c.args.task.now) (scene_at c.args.deeds.now (g.V.View.now c.args.view.now w) c.args.task.now) c.args.task.now.outer n
          ∙ ap (λ (v : Datum). out_at (returned v) c.args.deeds.now (g.V.View.now c.args.view.now w) c.args.task.now) (sym c.integer-zero.ensures) ∙ l.1,
    )

pub returns-clause-continued : goal.returns-clause-continued
returns-clause-continued g c w h =
    let l = c.in_ok-outcome.ensures.out w h in (
      l.0,
      λ n. continued_out c.args.task.now.player (ticks_of c.args.task.now) (scene_at c.args.deeds.now (g.V.View.now c.args.view.now w) c.args.task.now) c.args.task.now.outer n
          ∙ ap (λ (v : Datum). out_at (returned v) c.args.deeds.now (g.V.View.now c.args.view.now w) c.args.task.now) (sym c.integer-zero.ensures) ∙ l.1,
    )
