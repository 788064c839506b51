use Rattle.std.proofs.Common.{◌≡◌, ap, sym, ◌∙◌}
use Rattle.spec_value.specs.Datum.{list, no_data, of_list}
use Rattle.moo_value.specs.Parts.{list_with_part}
use Rattle.moo_value.specs.View.{node_datum}
use Rattle.moo_value.proofs.Listing.{sound-with_part, up_to, part_of_nothing}
use Rattle.moo_value.proofs.value.Value.replace_part.Goals as goal

pub weight_around-others-requires-clause-starts : goal.weight_around-others-requires-clause-starts
weight_around-others-requires-clause-starts c = rw (c.deref-in-List.ensures.value, c.deref.ensures) (up_to c.in-List.items.value.items c.args.start (rw (← c.self.view_is, c.in-List.is) at c.requires.starts))

pub weight_around-others-requires-clause-ends : goal.weight_around-others-requires-clause-ends
weight_around-others-requires-clause-ends c = rw (c.deref-in-List.ensures.value, c.deref.ensures) (up_to c.in-List.items.value.items c.args.end (rw (← c.self.view_is, c.in-List.is) at c.requires.ends))

pub replace_part-requires-clause-starts : goal.replace_part-requires-clause-starts
replace_part-requires-clause-starts c = up_to c.in-List.items.value.items c.args.start (rw (← c.self.view_is, c.in-List.is) at c.requires.starts)

pub replace_part-requires-clause-ends : goal.replace_part-requires-clause-ends
replace_part-requires-clause-ends c = up_to c.in-List.items.value.items c.args.end (rw (← c.self.view_is, c.in-List.is) at c.requires.ends)

pub invariant_of-self-in-List : goal.invariant_of-self-in-List
invariant_of-self-in-List c =
    let kept = rw c.in-List.is at c.self.invariant in
    let others = rw (c.deref-in-List.ensures.value, c.deref.ensures) at c.weight_around-others.ensures in
    rw c.in_ok-replace_part-in-List.ensures (sound-with_part c.in-List.items.value.items c.args.start c.args.end c.in-List.weight c.weight_around-others.result c.weight-added.result c.saturating_add.result
    c.args.between.now kept c.know_all.ensures others c.weight-added.ensures c.saturating_add.ensures)

pub returns-in_ok-self-inside-in-Empty : goal.returns-in_ok-self-inside-in-Empty
returns-in_ok-self-inside-in-Empty c =
    let between = of_list c.args.between.now in
    let is : list no_data ≡ c.args.self.now = sym (ap node_datum c.in-Empty.is) ∙ c.self.view_is in
    c.drop.view_is ∙ c.in_ok-self-inside-in-Empty.ensures ∙ ap (λ ds. list (of_list ds)) c.in_ok-copied-in-Empty.ensures
    ∙ sym (ap list (part_of_nothing c.args.start c.args.end between)) ∙ ap (λ d. list_with_part d c.args.start c.args.end between) is
