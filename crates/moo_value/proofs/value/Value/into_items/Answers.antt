use Rattle.std.proofs.Common.{sym, ◌∙◌, ap}
use Rattle.std.specs.Arc.{arc_value}
use Rattle.moo_value.proofs.Taken.{items_taken}
use Rattle.moo_value.specs.View.{node_datum}
use Rattle.moo_value.proofs.value.Value.into_items.Goals as goal

pub returns-in-List : goal.returns-in-List
returns-in-List c = items_taken (λ v. v.items) c.taken.result ((arc_value c.in-List.items).items) c.args.self (sym (ap node_datum c.in-List.is) ∙ c.self.view_is) c.taken.ensures
