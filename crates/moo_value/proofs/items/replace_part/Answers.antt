use Rattle.std.proofs.Common.{◌++◌, ◌∙◌, ap, sym, take, drop, map-id}
use Rattle.std.proofs.lemmas.Iterator.{items_from_drains}
use Rattle.std.proofs.lemmas.Iterator.Adapters.{YieldsList-from_vec}
use Rattle.spec_value.specs.Datum.{of_list}
use Rattle.moo_value.proofs.Listing.{same_items, around_part}
use Rattle.moo_value.proofs.items.replace_part.Goals as goal

pub returns : goal.returns
returns c =
    let before = c.args.items.now.value.items in
    let start = c.args.start in
    let end = c.args.end in
    let same = same_items before c.in_ok-list.list.now.items (λ e. ap (λ v. v.items) e) c.in_ok-list.ensures.value in
    let put = c.in_ok-splice.ensures.items in
    let more = c.in_ok-more.more in
    let given = sym (map-id put.1) ∙ items_from_drains put.1 (put.3.1.0, put.3.1.1, λ w. (put.3.0, put.3.1.2)) (YieldsList-from_vec more.items put.2.0 (put.2.1 ∙ more.ok.0)) in
    ap (λ v. of_list v.items) (c.make_mut.follows.holds c.splice.new.self (rw c.in_ok-list.was))
    ∙ ap of_list put.4
    ∙ ap (λ ys. of_list (take start c.in_ok-list.list.now.items ++ (ys ++ drop end c.in_ok-list.list.now.items))) (given ∙ c.in_ok-more.ensures)
    ∙ ap (λ ds. of_list (take start ds ++ (c.args.between.now ++ drop end ds))) same
    ∙ sym (around_part before c.args.between.now start end)
