use Rattle.std.proofs.Common.{ap, sym, ◌∙◌}
use Rattle.std.specs.Ordering.{nat_cmp}
use Rattle.due_table.specs.Order.{without_item}
use Rattle.due_table.specs.Held.{keys_of}
use Rattle.due_table.proofs.OneMoment.{keys, keys_left}
use Rattle.due_table.proofs.keys.Keys.without.Goals as goal

pub returns-in_ok-without-in-Several-clause-left : goal.returns-in_ok-without-in-Several-clause-left
returns-in_ok-without-in-Several-clause-left c =
    c.left_of.ensures.left
    ∙ ap keys c.in_ok-without-in-Several.ensures.entries
    ∙ keys_left c.args.key _
    ∙ ap (without_item nat_cmp c.args.key) (sym (ap keys_of c.in-Several.is) ∙ c.self.view_is)
