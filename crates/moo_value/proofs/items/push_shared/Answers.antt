use Rattle.std.proofs.Common.{◌∷◌, [], ◌++◌, ap, ◌∙◌}
use Rattle.spec_value.specs.Datum.{of_list}
use Rattle.moo_value.proofs.Listing.{same_items, of_list-push}
use Rattle.moo_value.proofs.items.push_shared.Goals as goal

pub returns : goal.returns
returns c =
    let before = c.args.items.now.value.items in
    let same = same_items c.unshare.new.items.value.items c.in_ok-list.list.now.items (λ e. ap (λ v. v.items) e) c.in_ok-list.ensures.value ∙ c.unshare.ensures in
    ap (λ v. of_list v.items) (c.make_mut.follows.holds c.push.new.self (rw c.in_ok-list.was))
    ∙ ap of_list c.in_ok-push.ensures.items
    ∙ ap (λ ds. of_list (ds ++ c.args.item ∷ [])) same
    ∙ of_list-push before c.args.item
