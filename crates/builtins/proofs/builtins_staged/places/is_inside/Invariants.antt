use Rattle.std.proofs.Common.{◌≡◌}
use Rattle.spec_world.specs.Whereabouts.{is_inside}
use Rattle.view.specs.Law.{Tells}
use Rattle.rules.specs.Lines.{AreAgreeing}
use Rattle.builtins.proofs.Ways.{places_ahead}
use Rattle.builtins.proofs.builtins_staged.places.is_inside.Given as goal

abbrev pub invariant-loop-next : goal.invariant-loop-next
invariant-loop-next g l =
    let view = g.V.View in
    record {
      anchor : view.anchor l.view ≡ view.anchor l.fn.view;
      home : view.home l.view ≡ view.home l.fn.view;
      there : view.holds l.view (view.home l.view);
      well_formed : AreAgreeing view.holds view.now l.view;
      left : Tells view.holds view.now l.fn.view l.view (λ w. is_inside w l.what l.place ≡ is_inside w l.what l.next);
    }

abbrev pub decreases-loop-next : goal.decreases-loop-next
decreases-loop-next g l = let view = g.V.View in places_ahead (view.now l.view (view.home l.view)) l.next
