use Rattle.std.proofs.Common.{◌++◌, ◌-◌, ◌∙◌, ap, sym, length, take, drop, append_assoc}
use Rattle.spec_value.specs.Datum.{of_list}
use Rattle.moo_value.proofs.Listing.{take_rest, around_part}
use Rattle.moo_value.proofs.items.with_part_copied.Goals as goal

pub returns : goal.returns
returns c =
    let items = c.args.items.now in
    let between = c.args.between.now in
    let one = c.in_ok-push_all.ensures ∙ ap (λ xs. xs ++ take c.args.start items) c.in_ok-copy.ensures.items in
    let two = c.in_ok-push_all-2.ensures ∙ ap (λ xs. xs ++ between) one in
    let three = c.in_ok-push_all-3.ensures
    ∙ ap (λ xs. xs ++ take (length items - c.args.end) (drop c.args.end items)) two
    ∙ ap (λ ys. (take c.args.start items ++ between) ++ ys) (take_rest items c.args.end)
    ∙ append_assoc (take c.args.start items) between (drop c.args.end items) in
    ap of_list three ∙ sym (around_part items between c.args.start c.args.end)
