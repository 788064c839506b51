use Rattle.std.proofs.Common.{◌≡◌, ◌++◌, ◌-◌}
use Rattle.view.specs.Law.{Tells}
use Rattle.builtins_view.specs.Counting.{players_from}
use Rattle.builtins_view.proofs.builtins_players.listing.among.Given as goal

abbrev pub invariant-loop-number : goal.invariant-loop-number
invariant-loop-number g l =
    let view = g.V.View in
    record {
      anchor : view.anchor l.view ≡ view.anchor l.fn.view;
      home : view.home l.view ≡ view.home l.fn.view;
      there : view.holds l.view (view.home l.view);
      left : Tells view.holds view.now l.fn.view l.view (λ w. l.players.items ++ players_from w l.number (l.count - l.number) ≡ players_from w 0 l.count);
    }
