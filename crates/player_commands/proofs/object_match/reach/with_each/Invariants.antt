use Rattle.std.proofs.Common.{◌≡◌, drop}
use Rattle.view.specs.Law.{Tells}
use Rattle.rules.specs.Lines.{AreAgreeing}
use Rattle.player_commands.specs.Fits.{with_objects}
use Rattle.player_commands.proofs.object_match.reach.with_each.Given as goal

abbrev pub invariant-loop-object : goal.invariant-loop-object
invariant-loop-object g l =
    let view = g.V.View in
    record {
      anchor : view.anchor l.view ≡ view.anchor l.fn.view;
      home : view.home l.view ≡ view.home l.fn.view;
      there : view.holds l.view (view.home l.view);
      well_formed : AreAgreeing view.holds view.now l.view;
      left : Tells view.holds view.now l.fn.view l.view (λ w. with_objects w l.text l.found (drop l.object-index l.objects) ≡ with_objects w l.text l.fn.matches l.objects);
    }
