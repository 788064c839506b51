use Rattle.moo_value.proofs.Listing.{sound-with_item, within}
use Rattle.moo_value.proofs.value.Value.replace.Goals as goal

pub weight_without-others-requires-clause-inside : goal.weight_without-others-requires-clause-inside
weight_without-others-requires-clause-inside c = rw (c.deref-2.ensures.value, c.deref.ensures) (within c.in-List.items.value.items c.args.place (rw (← c.self.view_is, c.in-List.is) at c.requires))

pub replace-requires : goal.replace-requires
replace-requires c = within c.in-List.items.value.items c.args.place (rw (← c.self.view_is, c.in-List.is) at c.requires)

pub invariant_of-self-2 : goal.invariant_of-self-2
invariant_of-self-2 c =
    let kept = rw c.in-List.is at c.self.invariant in
    let inside = within c.in-List.items.value.items c.args.place (rw (← c.self.view_is, c.in-List.is) at c.requires) in
    let others = rw (c.deref-2.ensures.value, c.deref.ensures) at c.weight_without-others.ensures in
    rw c.in_ok-taken.ensures.after (sound-with_item c.in-List.items.value.items c.args.place c.in-List.weight c.weight_without-others.result c.kept_weight-added.result c.saturating_add.result c.args.item inside kept c.know.ensures others c.kept_weight-added.ensures c.saturating_add.ensures)
