-- The tables of the language (Programmer's Manual, "Evaluation of expressions and statements"): where each construct takes a step, what the step does and costs, and what it does with a leaving in one of its parts.
use Rattle.std.specs.Prelude.{ℕ, zero, suc, ◌==◌, List, ◌||◌, Option, None, is_none, Bool, true, false, if◌then◌else◌}
use Rattle.spec_value.specs.Datum.{Datum}
use Rattle.spec_program.specs.Tree.{Expr, literal, variable, own_length, unary, binary, both, either, conditional, listing, call, property, verb_call, index, range, caught, assignment, scatter, Statement, evaluate, give, give_zero, branch, for_each, for_range, repeat, fork, guarded, finished, leave_loop, next_turn}
use Rattle.spec_program.specs.Construct.{Construct, of_expr, of_target, of_default, of_statement, of_program}
use Rattle.spec_program.specs.Place.{Part, nth, expr_parts, statement_parts}
use Rattle.spec_moo.specs.Scene.{Scene}
use Rattle.spec_moo.specs.Leaving.{Leaving}
use Rattle.spec_moo.specs.Pending.{Pending}
use Rattle.spec_moo.specs.Effect.{Effect, hands, ends}
use Rattle.spec_moo.specs.Effects.Operators.{unary_effect, binary_effect, both_effect, either_effect, conditional_effect}
use Rattle.spec_moo.specs.Effects.Access.{variable_effect, property_effect, assignment_effect}
use Rattle.spec_moo.specs.Effects.Lists.{list_effect, index_effect, range_effect, length_effect}
use Rattle.spec_moo.specs.Effects.Calls.{call_effect, verb_call_effect}
use Rattle.spec_moo.specs.Effects.Branches.{evaluate_effect, return_effect, return_zero_effect, branch_step, branch_effect}
use Rattle.spec_moo.specs.Effects.Loops.{turn_ticks, list_turn, list_loop_effect, range_turn_at, range_loop_effect, while_ticks, while_effect, break_effect, continue_effect, loop_catches, out_of_loop}
use Rattle.spec_moo.specs.Effects.Handlers.{caught_step, codes_known, caught_effect, expression_catches, guarded_point, is_step, guarded_effect, body_catches, finally_effect, finally_catches}
use Rattle.spec_moo.specs.Effects.Scatter.{item_count, scatter_effect, default_effect}
use Rattle.spec_moo.specs.Effects.Forks.{fork_effect}

-- ---- where a construct takes a step, with so many parts done: most when all are

abbrev pub all_done : List Part → ℕ → Bool
all_done ps n = is_none (nth ps n)

abbrev pub expr_step : Expr → ℕ → Bool
expr_step (both a b) n = n == 1
expr_step (either a b) n = n == 1
expr_step (conditional c a b) n = (n == 1) || (n == 2)
expr_step (caught e codes d) n = caught_step codes n
expr_step (scatter items e) n = true
expr_step e n = all_done (expr_parts e) n

abbrev pub statement_step : Statement → ℕ → Bool
statement_step (branch bs q) n = branch_step (statement_parts (branch bs q)) n
statement_step (for_each x e p) n = (n == 1) || (n == 2)
statement_step (for_range x a b p) n = (n == 2) || (n == 3)
statement_step (repeat x c p) n = true
statement_step (fork x e p) n = n == 1
statement_step (guarded p arms) n = is_step (guarded_point arms n)
statement_step (finished p q) n = true
statement_step s n = all_done (statement_parts s) n

abbrev pub has_step : Construct → ℕ → Bool
has_step (of_expr e) n = expr_step e n
has_step (of_target t) n = false
has_step (of_default x e) n = n == 1
has_step (of_statement s) n = statement_step s n
has_step (of_program p) n = false

-- ---- what a step does

abbrev pub expr_effect : Scene → Pending → Expr → ℕ → List Datum → Effect
expr_effect s p (literal v) n vs = hands s v
expr_effect s p (variable x) n vs = variable_effect s p x
expr_effect s p own_length n vs = length_effect s p
expr_effect s p (unary u a) n vs = unary_effect s u vs
expr_effect s p (binary op a b) n vs = binary_effect s op vs
expr_effect s p (both a b) n vs = both_effect s vs
expr_effect s p (either a b) n vs = either_effect s vs
expr_effect s p (conditional c a b) n vs = conditional_effect s n vs
expr_effect s p (listing es) n vs = list_effect s vs
expr_effect s p (call f es) n vs = call_effect s p f vs
expr_effect s p (property o q) n vs = property_effect s p vs
expr_effect s p (verb_call o v es) n vs = verb_call_effect s p vs
expr_effect s p (index x i) n vs = index_effect s vs
expr_effect s p (range x a b) n vs = range_effect s vs
expr_effect s p (caught e codes d) n vs = caught_effect s codes n vs
expr_effect s p (assignment t e) n vs = assignment_effect s p t vs
expr_effect s p (scatter items e) n vs = scatter_effect s items n vs

abbrev pub statement_effect : Scene → Pending → Statement → ℕ → List Datum → Effect
statement_effect s p (evaluate e) n vs = evaluate_effect s vs
statement_effect s p (give e) n vs = return_effect s vs
statement_effect s p give_zero n vs = return_zero_effect
statement_effect s p (branch bs q) n vs = branch_effect s (statement_parts (branch bs q)) n vs
statement_effect s p (for_each x e b) n vs = list_loop_effect s x vs
statement_effect s p (for_range x a c b) n vs = range_loop_effect s x n vs
statement_effect s p (repeat x c b) n vs = while_effect s n vs
statement_effect s p (fork x e b) n vs = fork_effect s p x b vs
statement_effect s p (guarded b arms) n vs = guarded_effect s arms n vs
statement_effect s p (finished b q) n vs = finally_effect s n vs
statement_effect s p (leave_loop x) n vs = break_effect p x
statement_effect s p (next_turn x) n vs = continue_effect p x

unfoldable pub effect : Scene → Pending → Construct → ℕ → List Datum → Effect
effect s p (of_expr e) n vs = expr_effect s p e n vs
effect s p (of_default x e) n vs = default_effect s x vs
effect s p (of_statement t) n vs = statement_effect s p t n vs
effect s p c n vs = ends s

-- ---- what it costs, in ticks: after the operands and before the operation

abbrev pub once_at : ℕ → ℕ → ℕ
once_at m n = if n == m then 1 else 0

abbrev pub expr_ticks : Expr → ℕ → ℕ
expr_ticks (literal v) n = 0
expr_ticks (variable x) n = 0
expr_ticks (conditional c a b) n = once_at 1 n
expr_ticks (caught e codes d) n = once_at (codes_known codes) n
expr_ticks (scatter items e) n = once_at (suc (item_count items)) n
expr_ticks e n = 1

-- `if` once, after its first condition; a loop for each turn
abbrev pub statement_ticks : Statement → ℕ → List Datum → ℕ
statement_ticks (give e) n vs = 1
statement_ticks give_zero n vs = 1
statement_ticks (branch bs q) n vs = once_at 1 n
statement_ticks (for_each x e p) n vs = turn_ticks (list_turn vs)
statement_ticks (for_range x a b p) n vs = turn_ticks (range_turn_at n vs)
statement_ticks (repeat x c p) n vs = while_ticks n vs
statement_ticks (fork x e p) n vs = 1
statement_ticks s n vs = 0

abbrev pub step_ticks : Construct → ℕ → List Datum → ℕ
step_ticks (of_expr e) n vs = expr_ticks e n
step_ticks (of_statement s) n vs = statement_ticks s n vs
step_ticks c n vs = 0

-- ---- what a construct does with a leaving in one of its parts: most let it pass

abbrev pub catches : Scene → Construct → ℕ → List Datum → Leaving → Option Effect
catches s (of_expr (caught e codes d)) (suc zero) held l = expression_catches s codes d held l
catches s (of_statement (for_each x e p)) (suc (suc zero)) held l = loop_catches s l
catches s (of_statement (for_range x a b p)) (suc (suc (suc zero))) held l = loop_catches s l
catches s (of_statement (repeat x c p)) (suc (suc zero)) held l = loop_catches s l
catches s (of_statement (guarded p arms)) (suc zero) held l = body_catches arms held l
catches s (of_statement (finished p q)) (suc zero) held l = finally_catches l
catches s c n held l = None

-- and as what
abbrev pub passed_by : Construct → ℕ → Leaving → Leaving
passed_by (of_statement (for_each x e p)) (suc (suc zero)) l = out_of_loop l
passed_by (of_statement (for_range x a b p)) (suc (suc (suc zero))) l = out_of_loop l
passed_by (of_statement (repeat x c p)) (suc (suc zero)) l = out_of_loop l
passed_by c n l = l
