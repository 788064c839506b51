-- Lines that are kept as runs of the same one.
use Rattle.std.specs.Prelude.{ℕ, List, [], ◌∷◌, ◌++◌, replicate}
use Rattle.reader_frames.specs.declared.lines.Run.{Run}

abbrev pub lines_in : List Run → List ℕ
lines_in [] = []
lines_in (r ∷ rs) = r.line ∷ (replicate r.more r.line ++ lines_in rs)
