use Rattle.spec_program.proofs.OtherMovesHold.{other_list_items, other_scatter_items, optional_items, item_fault}
use Rattle.spec_program.proofs.parsing.item_faults.Goals as goal

pub returns : goal.returns
returns c = record { lists = other_list_items; scatters = other_scatter_items; optional = optional_items; between = item_fault }
