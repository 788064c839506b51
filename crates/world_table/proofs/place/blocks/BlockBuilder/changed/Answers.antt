use Rattle.world_table.proofs.Rows.{is_row_with}
use Rattle.world_table.proofs.place.blocks.BlockBuilder.changed.Goals as goal

pub block-requires-clause-places : goal.block-requires-clause-places
block-requires-clause-places g c = rw c.in_ok-copies.ensures (is_row_with _ _ _ _ c.requires.places c.requires.at c.requires.branch)
