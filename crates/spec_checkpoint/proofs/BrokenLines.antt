-- A name that spells the end of a text, and then itself.
use Rattle.std.proofs.Common.{◌≡◌, [], ◌∷◌, ◌++◌, refl, codes}
use Rattle.std.specs.Fmt.{digits}
use Rattle.spec_value.specs.Datum.{Text}
use Rattle.spec_world.specs.Inherit.{line, ancestors}
use Rattle.spec_world.specs.Checkpoint.{with_line_ends, checkpoint_text}
use Rattle.spec_checkpoint.specs.BrokenLines.{world_naming, NeedsLines}

-- behind the program of the first
rest : Text
rest = with_line_ends (codes "x;" ∷ codes "tasks 0" ∷ codes "end" ∷ [])

broken : Text
broken = codes "x;" ++ (10 ∷ (with_line_ends (codes "tasks 0" ∷ codes "end" ∷ []) ++ codes "x"))

begins : checkpoint_text (world_naming (codes "x")) ++ rest ≡ checkpoint_text (world_naming broken)
unfolding digits line ancestors checkpoint_text rest broken
begins = refl

some_rest : rest ≡ [] → ⊥
unfolding rest
some_rest e = cc

pub needs_lines : NeedsLines
needs_lines none = some_rest (none (world_naming (codes "x")) (world_naming broken) rest begins)
