use Rattle.std.proofs.Common.{◌≡◌, ◌++◌, drop}
use Rattle.view.specs.Law.{Tells}
use Rattle.builtins_view.specs.Along.{slots_of}
use Rattle.builtins_view.proofs.reparenting.along.slots_named.Given as goal

abbrev pub invariant-loop-name : goal.invariant-loop-name
invariant-loop-name g l =
    let view = g.V.View in
    record {
      anchor : view.anchor l.view ≡ view.anchor l.fn.view;
      home : view.home l.view ≡ view.home l.fn.view;
      there : view.holds l.view (view.home l.view);
      left : Tells view.holds view.now l.fn.view l.view (λ w. l.slots.items ++ slots_of w l.object (drop l.name-index l.names) ≡ slots_of w l.object l.names);
    }
