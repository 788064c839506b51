use Rattle.std.proofs.Common.{◌≡◌, drop}
use Rattle.view.specs.Law.{Tells}
use Rattle.std.specs.List.{list_any}
use Rattle.builtins_view.specs.Clashes.{has_slot}
use Rattle.builtins_view.proofs.reparenting.clashes.has_any.Given as goal

abbrev pub invariant-loop-name : goal.invariant-loop-name
invariant-loop-name g l =
    let view = g.V.View in
    record {
      anchor : view.anchor l.view ≡ view.anchor l.fn.view;
      home : view.home l.view ≡ view.home l.fn.view;
      there : view.holds l.view (view.home l.view);
      left : Tells view.holds view.now l.fn.view l.view (λ w. list_any (has_slot w l.object) (drop l.name-index l.names) ≡ list_any (has_slot w l.object) l.names);
    }
