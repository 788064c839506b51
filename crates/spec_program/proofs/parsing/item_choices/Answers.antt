use Rattle.spec_program.proofs.ItemChoicesHold.{list_items, scatter_items}
use Rattle.spec_program.proofs.parsing.item_choices.Goals as goal

pub returns : goal.returns
returns c = record { lists = list_items; scatters = scatter_items }
