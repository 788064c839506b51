use Rattle.std.proofs.Common.{◌≡◌}
use Rattle.spec_world.specs.Inherit.{ancestors}
use Rattle.spec_world.specs.VerbsSought.{first_on}
use Rattle.view.specs.Law.{Tells}
use Rattle.rules.specs.Lines.{AreAgreeing, from, size}
use Rattle.rules.specs.Sought.{passes}
use Rattle.rules.proofs.inherit.verb.find.Given as goal

abbrev pub invariant-loop-next : goal.invariant-loop-next
invariant-loop-next g l =
    let view = g.V.View in
    record {
      anchor : view.anchor l.view ≡ view.anchor l.fn.view;
      home : view.home l.view ≡ view.home l.fn.view;
      there : view.holds l.view (view.home l.view);
      well_formed : AreAgreeing view.holds view.now l.view;
      left : Tells view.holds view.now l.fn.view l.view (λ w. first_on w (passes l.purpose l.word) (ancestors w l.object) ≡ first_on w (passes l.purpose l.word) (from w l.next));
    }

abbrev pub decreases-loop-next : goal.decreases-loop-next
decreases-loop-next g l = let view = g.V.View in size (view.now l.view (view.home l.view)) l.next
