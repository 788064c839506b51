-- A node of the code, as one of the definitions.
use Rattle.spec_program.specs.Reading as meant
use Rattle.moo_reader.specs.declared.node.Node.{Node}

abbrev pub node_of : Node → meant.Node
node_of n = record { depth = n.depth; line = n.line }
