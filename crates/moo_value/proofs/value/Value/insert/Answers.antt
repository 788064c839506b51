use Rattle.spec_value.specs.Datum.{of_list}
use Rattle.moo_value.proofs.Listing.{sound-inserted, up_to}
use Rattle.moo_value.proofs.value.Value.insert.Goals as goal

pub insert-requires : goal.insert-requires
insert-requires c = up_to c.in-List.items.value.items c.args.place (rw (← c.self.view_is, c.in-List.is) at c.requires)

pub invariant_of-self-in-List : goal.invariant_of-self-in-List
invariant_of-self-in-List c =
    let kept = rw c.in-List.is at c.self.invariant in
    rw c.in_ok-insert-in-List.ensures (sound-inserted (of_list c.in-List.items.value.items) c.args.place c.in-List.weight c.kept_weight-added.result c.saturating_add.result c.args.item kept c.know.ensures c.kept_weight-added.ensures c.saturating_add.ensures)
