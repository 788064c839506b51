use Rattle.std.proofs.Common.{◌≡◌, ◌++◌, drop}
use Rattle.view.specs.Law.{Tells}
use Rattle.builtins.specs.Listed.{seen_of}
use Rattle.builtins.proofs.builtins_queue.listing.seen.Given as goal

abbrev pub invariant-loop-id : goal.invariant-loop-id
invariant-loop-id g l =
    let view = g.V.View in
    record {
      anchor : view.anchor l.view ≡ view.anchor l.fn.view;
      home : view.home l.view ≡ view.home l.fn.view;
      there : view.holds l.view (view.home l.view);
      left : Tells view.holds view.now l.fn.view l.view (λ w. l.items.items ++ seen_of l.all l.programmer w.tasks (drop l.id-index l.ids) ≡ seen_of l.all l.programmer w.tasks l.ids);
    }
