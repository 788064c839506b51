use Rattle.std.proofs.Common.{◌≡◌, drop}
use Rattle.view.specs.Law.{Goes}
use Rattle.spec_world.specs.World.{World}
use Rattle.spec_world.specs.Families.{reparented_each}
use Rattle.rules.specs.Lines.{AreAgreeing}
use Rattle.builtins.specs.Going.{HasChildren}
use Rattle.builtins.proofs.builtins_objects.recycling.raise_children.Given as goal

abbrev pub invariant-loop-child : goal.invariant-loop-child
invariant-loop-child g l =
    let view = g.V.View in
    record {
      anchor : view.anchor l.view ≡ view.anchor l.fn.view;
      home : view.home l.view ≡ view.home l.fn.view;
      there : view.holds l.view (view.home l.view);
      well_formed : AreAgreeing view.holds view.now l.view;
      known : (w : World) → view.holds l.view w → HasChildren (view.now l.view w) l.object l.parent (drop l.child-index l.children);
      left : Goes view.holds view.now l.fn.view l.view (λ was is. reparented_each is (drop l.child-index l.children) l.parent ≡ reparented_each was l.children l.parent);
    }
