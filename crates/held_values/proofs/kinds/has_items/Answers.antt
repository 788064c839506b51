use Rattle.std.proofs.Common.{◌∙◌, ap, not}
use Rattle.held_values.specs.Wanted.{has_items}
use Rattle.held_values.proofs.Wanting.{items_there}
use Rattle.held_values.proofs.kinds.has_items.Goals as goal

pub returns-in-List : goal.returns-in-List
returns-in-List c = ap not c.is_empty.ensures ∙ items_there c.in-List.items.now ∙ ap has_items c.in-List.ensures
