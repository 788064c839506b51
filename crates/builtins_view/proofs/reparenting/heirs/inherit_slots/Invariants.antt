use Rattle.std.proofs.Common.{◌≡◌, drop}
use Rattle.view.specs.Law.{Goes}
use Rattle.builtins_view.specs.Heirs.{inherit_down}
use Rattle.builtins_view.proofs.reparenting.heirs.inherit_slots.Given as goal

abbrev pub invariant-loop-object : goal.invariant-loop-object
invariant-loop-object g l =
    let view = g.V.View in
    record {
      anchor : view.anchor l.view ≡ view.anchor l.fn.view;
      home : view.home l.view ≡ view.home l.fn.view;
      there : view.holds l.view (view.home l.view);
      left : Goes view.holds view.now l.fn.view l.view (λ was is. inherit_down l.name l.slot (drop l.object-index l.objects) is ≡ inherit_down l.name l.slot l.objects was);
    }
