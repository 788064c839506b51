use Rattle.std.proofs.Common.{◌≡◌}
use Rattle.view.specs.Law.{Tells}
use Rattle.rules.specs.Lines.{AreAgreeing}
use Rattle.rules.specs.Below.{Walked}
use Rattle.rules.proofs.family.below.walk.Given as goal

abbrev pub invariant-loop-done : goal.invariant-loop-done
invariant-loop-done g l =
    let view = g.V.View in
    record {
      anchor : view.anchor l.view ≡ view.anchor l.fn.view;
      home : view.home l.view ≡ view.home l.fn.view;
      there : view.holds l.view (view.home l.view);
      well_formed : AreAgreeing view.holds view.now l.view;
      left : Tells view.holds view.now l.fn.view l.view (λ w. Walked w l.object l.done l.family.items);
    }
