use Rattle.std.proofs.Common.{ap, sym, ◌∙◌}
use Rattle.std.specs.Ordering.{nat_cmp}
use Rattle.due_table.specs.Order.{with_item}
use Rattle.due_table.specs.Held.{keys_of}
use Rattle.due_table.proofs.OneMoment.{keys, keys_put}
use Rattle.due_table.proofs.keys.Keys.with.Goals as goal

pub returns-in_ok-with-in-Several : goal.returns-in_ok-with-in-Several
returns-in_ok-with-in-Several c =
    c.several-in-Several.ensures
    ∙ ap keys c.in_ok-with-in-Several.ensures.entries
    ∙ keys_put c.args.key tt _
    ∙ ap (with_item nat_cmp c.args.key) (sym (ap keys_of c.in-Several.is) ∙ c.self.view_is)
