use Rattle.std.proofs.Common.{◌≡◌, drop}
use Rattle.view.specs.Law.{Tells}
use Rattle.builtins_view.specs.Slots.{any_defines}
use Rattle.builtins_view.proofs.builtins_family.naming.is_defined_by_any.Given as goal

abbrev pub invariant-loop-object : goal.invariant-loop-object
invariant-loop-object g l =
    let view = g.V.View in
    record {
      anchor : view.anchor l.view ≡ view.anchor l.fn.view;
      home : view.home l.view ≡ view.home l.fn.view;
      there : view.holds l.view (view.home l.view);
      left : Tells view.holds view.now l.fn.view l.view (λ w. any_defines w l.name (drop l.object-index l.objects) ≡ any_defines w l.name l.objects);
    }
