-- What the fields of statements and programs mean.
use Rattle.std.specs.Prelude.{List, [], ◌∷◌, Option, Some, None}
use Rattle.spec_program.specs.Tree.{Expr, Statement, evaluate, give, give_zero, branch, for_each, for_range, repeat, fork, guarded, finished, leave_loop, next_turn, Program, the_end, seq, Branches, no_branches, on, no_else, else_do, Arms, no_arms, except}
use Rattle.moo_tree.specs.ExpressionView.{codes_of}
use Rattle.moo_tree.specs.declared.statement.StatementNode.{StatementNode}
use Rattle.moo_tree.specs.declared.statement.StatementNode.TheVariants.{Evaluate, Return, If, ForEach, ForRange, While, Fork, TryExcept, TryFinally, Break, Continue}
use Rattle.moo_tree.specs.declared.statement.Branch.{Branch}
use Rattle.moo_tree.specs.declared.statement.Arm.{Arm}

abbrev pub returned : Option Expr → Statement
returned None = give_zero
returned (Some e) = give e

abbrev pub program_of : List Statement → Program
program_of [] = the_end
program_of (s ∷ ss) = seq s (program_of ss)

abbrev pub branches_of : List Branch → Branches
branches_of [] = no_branches
branches_of (b ∷ bs) = on b.condition (program_of b.body.items) (branches_of bs)

abbrev pub arms_of : List Arm → Arms
arms_of [] = no_arms
arms_of (a ∷ more) = except a.variable (codes_of a.codes) (program_of a.body.items) (arms_of more)

-- one of them alone
abbrev pub branch_of : Branch → Branches
branch_of b = branches_of (b ∷ [])

abbrev pub arm_of : Arm → Arms
arm_of a = arms_of (a ∷ [])

abbrev pub node_statement : StatementNode → Statement
node_statement (Evaluate e) = evaluate e
node_statement (Return e) = returned e
node_statement (If bs None) = branch (branches_of bs.items) no_else
node_statement (If bs (Some p)) = branch (branches_of bs.items) (else_do (program_of p.items))
node_statement (ForEach x e p) = for_each x e (program_of p.items)
node_statement (ForRange x a b p) = for_range x a b (program_of p.items)
node_statement (While x c p) = repeat x c (program_of p.items)
node_statement (Fork x e p) = fork x e (program_of p.items)
node_statement (TryExcept p more) = guarded (program_of p.items) (arms_of more.items)
node_statement (TryFinally p q) = finished (program_of p.items) (program_of q.items)
node_statement (Break x) = leave_loop x
node_statement (Continue x) = next_turn x
