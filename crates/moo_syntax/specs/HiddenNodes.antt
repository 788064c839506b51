-- Whether the node of an integer behind others is not kept, since the first of them is as deep.
use Rattle.std.specs.Prelude.{ℕ, nat_le, Bool, false, List, [], ◌∷◌}
use Rattle.spec_program.specs.Reading.{Node}

abbrev pub node_alone : ℕ → Node
node_alone line = record { depth = 1; line = line }

abbrev pub hides : List Node → Bool
hides [] = false
hides (n ∷ ns) = nat_le 1 n.depth
