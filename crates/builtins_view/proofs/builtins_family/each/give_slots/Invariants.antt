use Rattle.std.proofs.Common.{◌≡◌, drop}
use Rattle.view.specs.Law.{Goes}
use Rattle.rules.specs.InTurn.{in_turn}
use Rattle.builtins_view.specs.Slots.{getting}
use Rattle.builtins_view.proofs.builtins_family.each.give_slots.Given as goal

abbrev pub invariant-loop-object : goal.invariant-loop-object
invariant-loop-object g l =
    let view = g.V.View in
    record {
      anchor : view.anchor l.view ≡ view.anchor l.fn.view;
      home : view.home l.view ≡ view.home l.fn.view;
      there : view.holds l.view (view.home l.view);
      left :
          Goes view.holds view.now l.fn.view l.view
          (λ before after. in_turn (getting l.definer l.name l.slot) (drop l.object-index l.objects) after ≡ in_turn (getting l.definer l.name l.slot) l.objects before);
    }
