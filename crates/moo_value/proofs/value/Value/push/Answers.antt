use Rattle.spec_value.specs.Datum.{of_list}
use Rattle.moo_value.proofs.Listing.{sound-append}
use Rattle.moo_value.proofs.value.Value.push.Goals as goal

pub invariant_of-self-in-List : goal.invariant_of-self-in-List
invariant_of-self-in-List c =
    let kept = rw c.in-List.is at c.self.invariant in
    rw c.in_ok-push-in-List.ensures (sound-append (of_list c.in-List.items.value.items) c.in-List.weight c.kept_weight-added.result c.saturating_add.result c.args.item kept c.know.ensures c.kept_weight-added.ensures c.saturating_add.ensures)
