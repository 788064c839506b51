use Rattle.std.proofs.Common.{◌∙◌, ap, sym, subst, map}
use Rattle.spec_value.specs.Datum.{of_list}
use Rattle.moo_value.specs.Shown.{shown_datum}
use Rattle.moo_value.proofs.Listing.{item_count-of_list}
use Rattle.moo_program.specs.Meaning.{part_meant}
use Rattle.local_code.specs.Wanting.{Wants}
use Rattle.local_code.proofs.moo_stores.wanted.next_wanted.Goals as goal

pub returns-in_ok-place-in-List : goal.returns-in_ok-place-in-List
returns-in_ok-place-in-List c =
    let scatter = c.args.scatter.now in
    subst (λ l. Wants scatter.items.items (map part_meant scatter.defaults.items) c.args.done l c.in_ok-place-in-List.place)
    (sym (ap shown_datum c.in-List.is) ∙ c.shown.ensures)
    (c.in_ok-place-in-List.ensures (of_list c.in-List.items.now) (item_count-of_list c.in-List.items.now))
