use Rattle.std.proofs.Common.{◌≡◌, ◌++◌, drop}
use Rattle.view.specs.Law.{Tells}
use Rattle.builtins_view.specs.Along.{names_on}
use Rattle.builtins_view.proofs.reparenting.along.names_along.Given as goal

abbrev pub invariant-loop-object : goal.invariant-loop-object
invariant-loop-object g l =
    let view = g.V.View in
    record {
      anchor : view.anchor l.view ≡ view.anchor l.fn.view;
      home : view.home l.view ≡ view.home l.fn.view;
      there : view.holds l.view (view.home l.view);
      left : Tells view.holds view.now l.fn.view l.view (λ w. l.names.items ++ names_on w (drop l.object-index l.line) ≡ names_on w l.line);
    }
