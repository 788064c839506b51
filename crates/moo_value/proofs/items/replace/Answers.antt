use Rattle.std.proofs.Common.{ap, ◌∙◌, sym, Some}
use Rattle.std.proofs.Math.ListN.{set}
use Rattle.spec_value.specs.Datum.{of_list}
use Rattle.moo_value.proofs.Listing.{same_items, of_list-set, item_at-of_list}
use Rattle.moo_value.proofs.items.replace.Goals as goal

pub returns-clause-after : goal.returns-clause-after
returns-clause-after c =
    let before = c.args.items.now.value.items in
    let same = same_items before c.in_ok-list.list.now.items (λ e. ap (λ v. v.items) e) c.in_ok-list.ensures.value in
    ap (λ v. of_list v.items) (c.make_mut.follows.holds _ (rw c.in_ok-list.was))
    ∙ ap (λ x. of_list (set c.in_ok-list.list.now.items c.args.place x)) c.replace.ensures.after
    ∙ ap (λ ds. of_list (set ds c.args.place c.args.item)) same
    ∙ of_list-set before c.args.place c.args.item

pub returns-clause-item : goal.returns-clause-item
returns-clause-item c =
    let before = c.args.items.now.value.items in
    let same = same_items before c.in_ok-list.list.now.items (λ e. ap (λ v. v.items) e) c.in_ok-list.ensures.value in
    item_at-of_list before c.args.place c.index_mut.result.now c.requires ∙ ap Some (sym (rw same at c.index_mut.ensures.value) ∙ sym c.replace.ensures.value)
