-- Nodes whose depths are told from a base.
use Rattle.std.specs.Prelude.{ℕ, ◌-◌, ◌≤◌, List, [], ◌∷◌, map}
use Rattle.spec_program.specs.Reading.{Node}
use Rattle.moo_reader.specs.declared.node.Mark.{Mark}

abbrev pub node_at : ℕ → Mark → Node
node_at base m = record { depth = base - m.start; line = m.line }

abbrev pub nodes_at : ℕ → List Mark → List Node
nodes_at base ms = map (node_at base) ms

-- each starts within the base
abbrev pub StartWithin : ℕ → List Mark → Type 0
StartWithin base [] = Unit {0}
StartWithin base (m ∷ ms) = (m.start ≤ base) × StartWithin base ms
