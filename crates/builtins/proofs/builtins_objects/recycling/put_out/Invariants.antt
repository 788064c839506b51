use Rattle.std.proofs.Common.{◌≡◌, drop}
use Rattle.view.specs.Law.{Goes}
use Rattle.spec_world.specs.Families.{to_nowhere}
use Rattle.builtins.proofs.builtins_objects.recycling.put_out.Given as goal

abbrev pub invariant-loop-object : goal.invariant-loop-object
invariant-loop-object g l =
    let view = g.V.View in
    record {
      anchor : view.anchor l.view ≡ view.anchor l.fn.view;
      home : view.home l.view ≡ view.home l.fn.view;
      there : view.holds l.view (view.home l.view);
      left : Goes view.holds view.now l.fn.view l.view (λ was is. to_nowhere is (drop l.object-index l.contents) ≡ to_nowhere was l.contents);
    }
