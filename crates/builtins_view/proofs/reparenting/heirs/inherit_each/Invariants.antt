use Rattle.std.proofs.Common.{◌≡◌, drop}
use Rattle.view.specs.Law.{Goes}
use Rattle.builtins_view.specs.Heirs.{inherit_each}
use Rattle.builtins_view.proofs.reparenting.heirs.inherit_each.Given as goal

abbrev pub invariant-loop-entry : goal.invariant-loop-entry
invariant-loop-entry g l =
    let view = g.V.View in
    record {
      anchor : view.anchor l.view ≡ view.anchor l.fn.view;
      home : view.home l.view ≡ view.home l.fn.view;
      there : view.holds l.view (view.home l.view);
      left : Goes view.holds view.now l.fn.view l.view (λ was is. inherit_each (drop l.entry-index l.slots) l.objects is ≡ inherit_each l.slots l.objects was);
    }
