use Rattle.std.proofs.Common.{◌≡◌, [], drop}
use Rattle.tree_parts.specs.Nodes.{construct_of}
use Rattle.held_values.specs.Wanted.{wanted_down}
use Rattle.held_values.proofs.wanted.wanted_below.Given as goal

-- the way that is left leads to what the whole way leads to
abbrev pub invariant-loop-number : goal.invariant-loop-number
invariant-loop-number l = wanted_down l.loops l.wanted.items (construct_of l.node) (drop l.number-index l.path) ≡ wanted_down 0 [] (construct_of l.fn.whole) l.path
