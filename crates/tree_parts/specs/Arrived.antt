-- One step down a tree.
use Rattle.std.specs.Prelude.{ℕ, Bool, false, Option, Some, None}
use Rattle.spec_program.specs.Construct.{Construct}
use Rattle.spec_program.specs.Place.{Part, held_count, is_call}
use Rattle.moo_code.specs.Paths.{past}
use Rattle.tree_parts.specs.Nodes.{construct_of}
use Rattle.tree_parts.specs.declared.frame_tasks.arrive.Below.{Below}

abbrev pub is_call_there : Option Construct → Bool
is_call_there None = false
is_call_there (Some c) = is_call c

abbrev pub below_of : Below → Construct × ℕ
below_of b = (construct_of b.node, b.left)

-- a construct, with the values that are left
abbrev pub with_left : Construct → Option ℕ → Option (Construct × ℕ)
with_left c None = None
with_left c (Some k) = Some (c, k)

abbrev pub in_tree : Option Construct → Option ℕ → Option (Construct × ℕ)
in_tree None k = None
in_tree (Some c) k = with_left c k

abbrev pub step_of : Option Part → ℕ → Option (Construct × ℕ)
step_of None k = None
step_of (Some x) k = in_tree x.tree (past (held_count x.held) k)
