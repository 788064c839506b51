use Rattle.std.proofs.Common.{◌≡◌, drop}
use Rattle.spec_world.specs.Inherit.{ancestors, first_value}
use Rattle.view.specs.Law.{Tells}
use Rattle.rules.specs.Lines.{AreAgreeing, from, size}
use Rattle.rules.proofs.inherit.property.inherited.Given as goal

abbrev pub invariant-loop-next : goal.invariant-loop-next
invariant-loop-next g l =
    let view = g.V.View in
    record {
      anchor : view.anchor l.view ≡ view.anchor l.fn.view;
      home : view.home l.view ≡ view.home l.fn.view;
      there : view.holds l.view (view.home l.view);
      well_formed : AreAgreeing view.holds view.now l.view;
      left : Tells view.holds view.now l.fn.view l.view (λ w. first_value w (drop 1 (ancestors w l.object)) l.name ≡ first_value w (from w l.next) l.name);
    }

abbrev pub decreases-loop-next : goal.decreases-loop-next
decreases-loop-next g l = let view = g.V.View in size (view.now l.view (view.home l.view)) l.next
