-- The statements in a statement nest less deep than it.
use Rattle.std.specs.Prelude.{suc, ◌+◌, ◌≤◌, max, List, [], ◌∷◌, Some, None}
use Rattle.std.proofs.Common.{arith}
use denote.Param.Weighed.{most}
use Rattle.spec_program.specs.Tree.{Statement}
use Rattle.moo_tree.specs.Depth.{statement_depth, program_depth, branches_depth, arms_depth}
use Rattle.moo_tree.specs.StatementView.{node_statement, program_of, branches_of, arms_of}
use Rattle.moo_tree.specs.declared.statement.StatementNode.{StatementNode}
use Rattle.moo_tree.specs.declared.statement.StatementNode.TheVariants.{Evaluate, Return, If, ForEach, ForRange, While, Fork, TryExcept, TryFinally, Break, Continue}
use Rattle.moo_tree.specs.declared.statement.Branch.{Branch}
use Rattle.moo_tree.specs.declared.statement.Arm.{Arm}
use Rattle.moo_tree.specs.declared.statement.Statement.TheDeep.{deep-StatementNode, deep-Branch, deep-Arm}

block_falls : (ss : List Statement) → most (λ s. statement_depth s + 1) ss ≤ suc (program_depth (program_of ss))
block_falls [] = omega arith
block_falls (s ∷ ss) = omega (arith, block_falls ss)

branches_fall : (bs : List Branch) → most (λ b. deep-Branch b) bs ≤ suc (branches_depth (branches_of bs))
branches_fall [] = omega arith
branches_fall (b ∷ bs) = omega (arith, block_falls b.body.items, branches_fall bs)

arms_fall : (more : List Arm) → most (λ a. deep-Arm a) more ≤ suc (arms_depth (arms_of more))
arms_fall [] = omega arith
arms_fall (a ∷ more) = omega (arith, block_falls a.body.items, arms_fall more)

pub statement_falls : (n : StatementNode) → max (deep-StatementNode n) 0 ≤ statement_depth (node_statement n)
statement_falls (Evaluate e) = omega arith
statement_falls (Return None) = omega arith
statement_falls (Return (Some e)) = omega arith
statement_falls (If bs None) = omega (arith, branches_fall bs.items)
statement_falls (If bs (Some p)) = omega (arith, branches_fall bs.items, block_falls p.items)
statement_falls (ForEach x e p) = omega (arith, block_falls p.items)
statement_falls (ForRange x a b p) = omega (arith, block_falls p.items)
statement_falls (While x c p) = omega (arith, block_falls p.items)
statement_falls (Fork x e p) = omega (arith, block_falls p.items)
statement_falls (TryExcept p more) = omega (arith, block_falls p.items, arms_fall more.items)
statement_falls (TryFinally p q) = omega (arith, block_falls p.items, block_falls q.items)
statement_falls (Break x) = omega arith
statement_falls (Continue x) = omega arith
