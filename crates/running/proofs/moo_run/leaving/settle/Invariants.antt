use Rattle.std.proofs.Common.{◌≡◌}
use Rattle.spec_world.specs.World.{World}
use Rattle.rules.specs.Lines.{AreAgreeing}
use Rattle.local_code.specs.Scenes.{led_at}
use Rattle.local_code.specs.Steps.{leavings}
use Rattle.running.proofs.moo_run.leaving.settle.Given as goal

abbrev pub invariant-leaving : goal.invariant-leaving
invariant-leaving g l = let view = g.V.View in record {
  anchor : view.anchor l.view ≡ view.anchor l.fn.view;
  home : view.home l.view ≡ view.home l.fn.view;
  held : view.holds l.view (view.home l.view);
  well_formed : AreAgreeing view.holds view.now l.view;
  player : l.task.player ≡ l.fn.task.player;
  out : (w : World) → view.holds l.view w
      → view.holds l.fn.view w × (led_at l.fn.outcome l.fn.deeds (view.now l.fn.view w) l.fn.task ≡ led_at l.outcome l.deeds (view.now l.view w) l.task);
}

abbrev pub decreases-leaving : goal.decreases-leaving
decreases-leaving g l = leavings l.outcome l.task
