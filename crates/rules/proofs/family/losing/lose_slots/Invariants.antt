use Rattle.std.proofs.Common.{◌≡◌, drop}
use Rattle.view.specs.Law.{Goes}
use Rattle.rules.specs.InTurn.{in_turn}
use Rattle.rules.specs.Losing.{losing}
use Rattle.rules.proofs.family.losing.lose_slots.Given as goal

abbrev pub invariant-loop-object : goal.invariant-loop-object
invariant-loop-object g l =
    let view = g.V.View in
    record {
      anchor : view.anchor l.view ≡ view.anchor l.fn.view;
      home : view.home l.view ≡ view.home l.fn.view;
      there : view.holds l.view (view.home l.view);
      left :
          Goes view.holds view.now l.fn.view l.view
          (λ before after. in_turn (losing l.name) (drop l.object-index l.objects) after ≡ in_turn (losing l.name) l.objects before);
    }
