use Rattle.std.proofs.Common.{◌≡◌, ◌∷◌, [], ◌++◌, ap, ◌∙◌, rules}
use Rattle.spec_value.specs.Datum.{of_list}
use Rattle.moo_value.proofs.Listing.{of_list-push}
use Rattle.moo_value.proofs.items.push.Goals as goal

pub returns-in_ok-put_last-in-Some : goal.returns-in_ok-put_last-in-Some
returns-in_ok-put_last-in-Some c =
    let same : c.in-Some.own.now.items ≡ c.args.items.now.value.items = search rules in
    ap of_list c.in_ok-put_last-in-Some.ensures.ok
    ∙ ap (λ ds. of_list (ds ++ c.args.item ∷ [])) same
    ∙ of_list-push c.args.items.now.value.items c.args.item
