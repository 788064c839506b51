-- The text of a path, number by number.
use Rattle.std.proofs.Common.{◌≡◌, ℕ, List, [], ◌∷◌, ◌++◌, map, sym, ap}
use Rattle.std.proofs.lemmas.List.{append-nil}
use Rattle.std.specs.Fmt.{decimal}
use Rattle.spec_world.specs.Checkpoint.{path}
use Rattle.checkpoint_text.specs.CheckpointFramesLines.{dotted}

pub path_dotted : (n : ℕ) (ns : List ℕ) → path (map decimal (n ∷ ns)) ≡ decimal n ++ dotted ns
path_dotted n [] = sym (append-nil (decimal n))
path_dotted n (m ∷ ms) = ap (λ t. decimal n ++ 46 ∷ t) (path_dotted m ms)
