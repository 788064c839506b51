use Rattle.std.proofs.Common.{◌≡◌}
use Rattle.spec_world.specs.World.{World}
use Rattle.rules.specs.Lines.{AreAgreeing}
use Rattle.moo_code.specs.Runs.{ran, IsOver}
use Rattle.moo_code.specs.Lasting.{lasting}
use Rattle.local_code.specs.Stopping.{bound_of, begun_at, Comes}
use Rattle.running.proofs.moo_run.run.run.Given as goal

abbrev pub invariant-instructions : goal.invariant-instructions
invariant-instructions g l = let view = g.V.View in record {
  anchor : view.anchor l.view ≡ view.anchor l.fn.view;
  home : view.home l.view ≡ view.home l.fn.view;
  held : view.holds l.view (view.home l.view);
  well_formed : AreAgreeing view.holds view.now l.view;
  player : l.task.player ≡ l.fn.task.player;
  over : IsOver (ran l.fn.task.player (bound_of l.fn.deeds (view.now l.fn.view (view.home l.fn.view)) l.fn.task) (begun_at l.deeds (view.now l.view (view.home l.view)) l.task));
  comes : (w : World) → view.holds l.view w
      → view.holds l.fn.view w × Comes l.fn.task.player (begun_at l.fn.deeds (view.now l.fn.view w) l.fn.task) (begun_at l.deeds (view.now l.view w) l.task);
}

abbrev pub decreases-instructions : goal.decreases-instructions
decreases-instructions g l =
    let view = g.V.View in
    lasting l.fn.task.player (bound_of l.fn.deeds (view.now l.fn.view (view.home l.fn.view)) l.fn.task) (begun_at l.deeds (view.now l.view (view.home l.view)) l.task)
