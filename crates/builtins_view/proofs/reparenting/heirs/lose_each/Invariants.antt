use Rattle.std.proofs.Common.{◌≡◌, drop}
use Rattle.view.specs.Law.{Goes}
use Rattle.builtins_view.specs.Heirs.{lose_each}
use Rattle.builtins_view.proofs.reparenting.heirs.lose_each.Given as goal

abbrev pub invariant-loop-name : goal.invariant-loop-name
invariant-loop-name g l =
    let view = g.V.View in
    record {
      anchor : view.anchor l.view ≡ view.anchor l.fn.view;
      home : view.home l.view ≡ view.home l.fn.view;
      there : view.holds l.view (view.home l.view);
      left : Goes view.holds view.now l.fn.view l.view (λ was is. lose_each (drop l.name-index l.names) l.objects is ≡ lose_each l.names l.objects was);
    }
