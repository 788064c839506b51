use Rattle.std.proofs.Common.{remove, ap, ◌∙◌, sym, Some}
use Rattle.spec_value.specs.Datum.{of_list}
use Rattle.moo_value.proofs.Listing.{same_items, of_list-remove, item_at-of_list}
use Rattle.moo_value.proofs.items.remove.Goals as goal

pub returns-clause-after : goal.returns-clause-after
returns-clause-after c =
    let before = c.args.items.now.value.items in
    let same = same_items before c.in_ok-list.list.now.items (λ e. ap (λ v. v.items) e) c.in_ok-list.ensures.value in
    ap (λ v. of_list v.items) (c.make_mut.follows.holds c.remove.new.self (rw c.in_ok-list.was))
    ∙ ap of_list c.remove.ensures.items
    ∙ ap (λ ds. of_list (remove ds c.args.place)) same
    ∙ of_list-remove before c.args.place c.requires

pub returns-clause-item : goal.returns-clause-item
returns-clause-item c =
    let before = c.args.items.now.value.items in
    let same = same_items before c.in_ok-list.list.now.items (λ e. ap (λ v. v.items) e) c.in_ok-list.ensures.value in
    item_at-of_list before c.args.place c.remove.result c.requires ∙ ap Some (sym (rw same at c.remove.ensures.value))
