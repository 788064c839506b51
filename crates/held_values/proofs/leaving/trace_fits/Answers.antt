use Rattle.std.proofs.Common.{◌≡◌, ◌∙◌, ◌<◌, ◌&&◌, length, ap, sym, rules}
use Rattle.spec_value.specs.Datum.{list, of_list}
use Rattle.spec_world.specs.WellFormed.{are_traced}
use Rattle.held_values.proofs.ValueKinds.{nonempty_list}
use Rattle.held_values.proofs.leaving.trace_fits.Goals as goal

pub returns-then-not-is_empty : goal.returns-then-not-is_empty
returns-then-not-is_empty c =
    let items = c.in-List.items.now in
    let is : c.args.value.now ≡ list (of_list items) = sym c.in-List.ensures in
    let there : 0 < length items = search rules in
    rw is (c.are_traced_items.ensures ∙ ap (λ b. b && are_traced (of_list items)) (sym (nonempty_list items there)))
