-- By what a reader's end is told: what was found.
use Rattle.std.specs.Prelude.{Bool, true, false, Option, Some, None}
use Rattle.spec_program.specs.ReadPrograms.{FoundBlock}
use Rattle.moo_reader.specs.BlockViews.{block_found}
use Rattle.reader_frames.specs.declared.state.Part.{Part}
use Rattle.reader_frames.specs.declared.state.Part.TheVariants as part
use Rattle.reader_frames.specs.declared.state.Next.{Next}
use Rattle.reader_frames.specs.declared.state.Next.TheVariants as next

abbrev pub part_block : Part → Option FoundBlock
part_block (part.Block p) = Some (block_found p.value)
part_block p = None

abbrev pub block_in : Next → Option FoundBlock
block_in (next.Found p) = part_block p
block_in x = None

-- where a block that is found is the whole text, or is not
abbrev pub over_by : Next → Bool → Bool
over_by (next.Found (part.Block p)) whole = whole
over_by next.Sticks whole = true
over_by x whole = false
