-- Of the nodes of a tree only some can ever be the first that is too deep: each that is deeper than all before it, up to the first that is too
-- deep already. They are at most one more than the greatest depth, and they tell of the tree all that is asked.
use Rattle.std.specs.Prelude.{ℕ, suc, ◌≤◌, ◌≡◌, nat_lt, Bool, not, ◌&&◌, List, [], ◌∷◌, ◌++◌, length, if◌then◌else◌}
use Rattle.spec_program.specs.Reading.{Node, under}
use Rattle.spec_program.specs.ReadPrograms.{greatest_depth, too_deep}

-- whether a node matters behind others, of which the deepest is at this depth
abbrev pub matters : ℕ → Node → Bool
matters d n = nat_lt d n.depth && not (nat_lt greatest_depth d)

abbrev pub kept_behind : ℕ → List Node → List Node
kept_behind d [] = []
kept_behind d (n ∷ ns) = if matters d n then n ∷ kept_behind n.depth ns else kept_behind d ns

abbrev pub kept : List Node → List Node
kept ns = kept_behind 0 ns

-- the first that is too deep is the same
abbrev pub KeptTellsDepth : Type 0
KeptTellsDepth = (ns : List Node) → too_deep (kept ns) ≡ too_deep ns

-- what is kept of a whole is made of what is kept of its parts
abbrev pub KeptUnder : Type 0
KeptUnder = (line : ℕ) (ns : List Node) → kept (under line ns) ≡ kept (under line (kept ns))

abbrev pub KeptBehind : Type 0
KeptBehind = (ns ms : List Node) → kept (ns ++ ms) ≡ kept (kept ns ++ kept ms)

abbrev pub KeptFew : Type 0
KeptFew = (ns : List Node) → length (kept ns) ≤ suc greatest_depth
