-- What is still to be read behind a part of a text, as data: a list of frames, whose meaning is that of the definition's own functions.
use Rattle.std.specs.Prelude.{ℕ, Bool, false, true, List, [], ◌++◌, Option, Some}
use Rattle.spec_value.specs.Datum.{Text, fold_case}
use Rattle.spec_value.specs.Operators.{UnaryOperator, BinaryOperator}
use Rattle.spec_program.specs.Tree.{Expr, evaluate, give, for_each, for_range, repeat, unary, binary, both, either, conditional, call, verb_call, assignment, scatter, Target, Items, codes_in, instead, the_code}
use Rattle.spec_program.specs.Tokens.{Sign, Keyword, Placed, endfor_word, endwhile_word, endfork_word, finally_word, close_parenthesis, close_bracket, double_dot, bar, not_sign, arrow, quote}
use Rattle.spec_program.specs.Reading.{Read, got, and_then, if_sign, if_keyword, past_sign, past_keyword, Node}
use Rattle.spec_program.specs.ReadExpressions.{Found, found_at, FoundArguments, with_argument, further_ones, some_arguments, Operand, whole, property_of, verb_of, index_of, range_of, steps, Allowed, list_alone, scatter_alone, FoundItems, with_required, with_rest, with_optional, with_expression, with_default, and_items, items_from, braces_found, FoundCodes, error_codes, caught_with, operators, braces_or_value, expression}
use Rattle.spec_program.specs.ReadPrograms.{FoundStatement, FoundBlock, FoundBranches, FoundArms, simple, block_to, with_branch, and_branches, branches, branch_of, else_block, loop_of, forked, with_arm, and_arms, arms, finally_part, finished_of, handlers, guarded_of, ended_by_semicolon, and_block, block}

-- what a frame takes, and what it gives
pub data Kind : Type 0 where
  an_expression an_operand some_arguments_read some_items_read some_codes_read : Kind
  a_statement a_block some_branches_read some_arms_read : Kind

abbrev pub Of : Kind → Type 0
Of an_expression = Found
Of an_operand = Operand
Of some_arguments_read = FoundArguments
Of some_items_read = FoundItems
Of some_codes_read = FoundCodes
Of a_statement = FoundStatement
Of a_block = FoundBlock
Of some_branches_read = FoundBranches
Of some_arms_read = FoundArms

-- an operator between two expressions, and how it joins them
pub data Join : Type 0 where
  by_operator : BinaryOperator → Join
  by_both by_either : Join

abbrev pub joins : Join → Expr → Expr → Expr
joins (by_operator o) = binary o
joins by_both = both
joins by_either = either

-- an item of braces that was read, before those behind it
pub data Item : Type 0 where
  bare bare_rest : Text → ℕ → Item  -- `x`, `@x` with its line
  bare_optional : Text → Item
  with_its_default : Text → Found → Item
  other : Bool → Found → Item  -- spliced or not

abbrev pub with_item : Item → FoundItems → FoundItems
with_item (bare x line) f = with_required x line f
with_item (bare_rest x line) f = with_rest x line f
with_item (bare_optional x) f = with_optional x f
with_item (with_its_default x e) f = with_default x e f
with_item (other spliced e) f = with_expression spliced e f

-- a loop or a fork whose expression is read next, and one whose body is
pub data Head : Type 0 where
  for_head : Text → Head
  while_head fork_head : Option Text → Head

pub data Body : Type 0 where
  list_body : Text → Found → Body
  range_body : Text → Found → Found → Body
  while_body fork_body : Option Text → Found → Body

abbrev pub body_of : Head → Found → Body
body_of (for_head x) e = list_body x e
body_of (while_head x) e = while_body x e
body_of (fork_head x) e = fork_body x e

abbrev pub end_word : Body → Keyword
end_word (list_body x e) = endfor_word
end_word (range_body x a b) = endfor_word
end_word (while_body x c) = endwhile_word
end_word (fork_body x e) = endfork_word

-- the whole statement, from its line on
abbrev pub with_body : ℕ → Body → FoundBlock → FoundStatement
with_body line (list_body x e) p = loop_of line (Some x) (for_each x e.tree p.tree) e.nodes p
with_body line (range_body x a b) p = loop_of line (Some x) (for_range x a.tree b.tree p.tree) (a.nodes ++ b.nodes) p
with_body line (while_body x c) p = loop_of line x (repeat x c.tree p.tree) c.nodes p
with_body line (fork_body x e) p = forked line x e p

-- the first Bool of a frame tells whether it stands in brackets, where `$` may
pub data Frame : Kind → Kind → Type 0 where
  in_parentheses : ℕ → Frame an_expression an_expression  -- the line of the opening one
  as_operand : Frame an_expression an_operand
  behind_sign : UnaryOperator → ℕ → Frame an_expression an_operand
  behind_argument : Bool → Bool → Frame an_expression some_arguments_read  -- spliced or not: perhaps others follow
  argument_before : Bool → Found → Frame some_arguments_read some_arguments_read
  to_sign : Sign → Frame some_arguments_read some_arguments_read
  call_of : Text → ℕ → Frame some_arguments_read an_operand
  property_name : Bool → Operand → Frame an_expression an_operand
  verb_name : Bool → Operand → Frame an_expression an_operand
  verb_arguments : Found → Found → Frame some_arguments_read an_operand
  steps_behind : Bool → Frame an_operand an_operand
  index_in : Bool → Operand → Frame an_expression an_operand
  range_in : Bool → Operand → Found → Frame an_expression an_operand
  value_behind : Bool → ℕ → Frame an_operand an_expression  -- an assignment, or operators that bind as tightly as is wanted
  right_of : Bool → ℕ → Found → Join → Frame an_expression an_expression
  chosen_first : Bool → ℕ → Found → Frame an_expression an_expression  -- between `?` and `|`
  chosen_second : Bool → ℕ → Found → Found → Frame an_expression an_expression
  assigned_to : Found → Target → Frame an_expression an_expression
  scattered_to : ℕ → Items → List Node → Frame an_expression an_expression
  item_expression : Bool → Allowed → Bool → Frame an_expression some_items_read
  item_default : Bool → Allowed → Text → Frame an_expression some_items_read
  item_before : Item → Frame some_items_read some_items_read
  in_braces : ℕ → Frame some_items_read an_operand
  caught_in : Bool → ℕ → Frame an_expression an_operand
  caught_codes : Bool → ℕ → Found → Frame some_codes_read an_operand
  as_codes : Frame some_arguments_read some_codes_read
  caught_instead : ℕ → Found → FoundCodes → Frame an_expression an_operand
  statement_before : FoundStatement → Frame a_block a_block
  block_behind : Frame a_statement a_block
  to_word : Keyword → Frame a_block a_block
  in_head : Frame an_expression an_expression  -- to the closing parenthesis of a statement's head
  evaluated returned : ℕ → Frame an_expression a_statement
  branches_of : ℕ → Frame some_branches_read a_statement
  condition : Frame an_expression some_branches_read
  block_of_branch : Found → Frame a_block some_branches_read
  branch_before : Found → FoundBlock → Frame some_branches_read some_branches_read
  as_else : Frame a_block some_branches_read
  head_of : ℕ → Head → Frame an_expression a_statement
  range_first : ℕ → Text → Frame an_expression a_statement
  range_last : ℕ → Text → Found → Frame an_expression a_statement
  block_of_body : ℕ → Body → Frame a_block a_statement
  tried : ℕ → Frame a_block a_statement
  finally_of : ℕ → FoundBlock → Frame a_block a_statement
  arms_of : ℕ → FoundBlock → Frame some_arms_read a_statement
  codes_of_arm : Option Text → Frame some_codes_read some_arms_read
  block_of_arm : Option Text → FoundCodes → Frame a_block some_arms_read
  arm_before : Option Text → FoundCodes → FoundBlock → Frame some_arms_read some_arms_read

-- the body of a loop or a fork up to its end word
abbrev pub body_read : ℕ → ℕ → Body → List Placed → Read FoundStatement
body_read n line b ts = and_then (block_to (end_word b) (block n) ts) (λ p us. got (with_body line b p) us)

-- how reading goes on behind what the frame takes; the number is that of the definition, enough for all tokens
abbrev pub resume : {a c : Kind} → ℕ → Frame a c → Of a → List Placed → Read (Of c)
resume n (in_parentheses line) e ts = past_sign close_parenthesis ts (got (record e { line = line }))
resume n as_operand e ts = got (whole e) ts
resume n (behind_sign u line) e ts = got (whole (found_at line (unary u e.tree) e.nodes)) ts
resume n (behind_argument b spliced) e ts =
    and_then (further_ones (some_arguments n (expression n) b) ts) (λ es us. got (with_argument spliced e es) us)
resume n (argument_before spliced e) es ts = got (with_argument spliced e es) ts
resume n (to_sign s) es ts = past_sign s ts (got es)
resume n (call_of x line) es ts = got (whole (found_at line (call (fold_case x) es.tree) es.nodes)) ts
resume n (property_name b o) p ts = steps n (expression n) b (property_of o.found p) ts
resume n (verb_name b o) v ts = and_then (verb_of n (expression n) b o.found v ts) (steps n (expression n) b)
resume n (verb_arguments o v) es ts = got (whole (found_at o.line (verb_call o.tree v.tree es.tree) (o.nodes ++ (v.nodes ++ es.nodes)))) ts
resume n (steps_behind b) o ts = steps n (expression n) b o ts
resume n (index_in b o) i ts =
    if_sign double_dot
    (λ vs. and_then (expression n true 0 vs) (λ j ws. past_sign close_bracket ws (λ xs. steps n (expression n) b (range_of o i j) xs)))
    (λ vs. past_sign close_bracket vs (λ ws. steps n (expression n) b (index_of o i) ws))
    ts
resume n (range_in b o i) j ts = past_sign close_bracket ts (λ xs. steps n (expression n) b (range_of o i j) xs)
resume n (value_behind b k) o ts = braces_or_value (expression n) b k o o.braces (operators n (expression n) b k o.found) ts
resume n (right_of b k a j) c ts = operators n (expression n) b k (found_at a.line (joins j a.tree c.tree) (a.nodes ++ c.nodes)) ts
resume n (chosen_first b k c) x ts =
    past_sign bar ts (λ vs. and_then (expression n b 1 vs) (λ y ws.
    operators n (expression n) b k (found_at c.line (conditional c.tree x.tree y.tree) (c.nodes ++ (x.nodes ++ y.nodes))) ws))
resume n (chosen_second b k c x) y ts =
    operators n (expression n) b k (found_at c.line (conditional c.tree x.tree y.tree) (c.nodes ++ (x.nodes ++ y.nodes))) ts
resume n (assigned_to a t) e ts = got (found_at a.line (assignment t e.tree) (a.nodes ++ e.nodes)) ts
resume n (scattered_to line items ns) e ts = got (found_at line (scatter items e.tree) (ns ++ e.nodes)) ts
resume n (item_expression b a spliced) e ts =
    and_items (items_from n (expression n) b) (list_alone a) (with_expression spliced e) ts
resume n (item_default b a x) e ts = and_items (items_from n (expression n) b) (scatter_alone a) (with_default x e) ts
resume n (item_before i) f ts = got (with_item i f) ts
resume n (in_braces line) f ts = got (braces_found line f) ts
resume n (caught_in b line) e ts =
    past_sign not_sign ts (λ vs. and_then (error_codes n (expression n) b vs) (λ c ws.
    if_sign arrow
    (λ xs. and_then (expression n b 0 xs) (λ d ys. past_sign quote ys (got (caught_with line e c (instead d.tree) d.nodes))))
    (λ xs. past_sign quote xs (got (caught_with line e c the_code [])))
    ws))
resume n (caught_codes b line e) c ts =
    if_sign arrow
    (λ xs. and_then (expression n b 0 xs) (λ d ys. past_sign quote ys (got (caught_with line e c (instead d.tree) d.nodes))))
    (λ xs. past_sign quote xs (got (caught_with line e c the_code [])))
    ts
resume n as_codes es ts = got (record { tree = codes_in es.tree; nodes = es.nodes }) ts
resume n (caught_instead line e c) d ts = past_sign quote ts (got (caught_with line e c (instead d.tree) d.nodes))
resume n (statement_before s) p ts = got (and_block s p) ts
resume n block_behind s ts = and_then (block n ts) (λ p us. got (and_block s p) us)
resume n (to_word k) p ts = past_keyword k ts (got p)
resume n in_head e ts = past_sign close_parenthesis ts (got e)
resume n (evaluated line) e ts = ended_by_semicolon (simple line (evaluate e.tree) e.nodes) ts
resume n (returned line) e ts = ended_by_semicolon (simple line (give e.tree) e.nodes) ts
resume n (branches_of line) b ts = got (branch_of line b) ts
resume n condition c ts = and_then (block n ts) (λ p us. and_branches (block n) (branches n (expression n) (block n)) c p us)
resume n (block_of_branch c) p ts = and_branches (block n) (branches n (expression n) (block n)) c p ts
resume n (branch_before c p) b ts = got (with_branch c p b) ts
resume n as_else p ts = got (else_block p) ts
resume n (head_of line h) e ts = body_read n line (body_of h e) ts
resume n (range_first line x) a ts =
    past_sign double_dot ts (λ us. and_then (expression n false 0 us) (λ b vs.
    past_sign close_bracket vs (body_read n line (range_body x a b))))
resume n (range_last line x a) b ts = past_sign close_bracket ts (body_read n line (range_body x a b))
resume n (block_of_body line b) p ts = got (with_body line b p) ts
resume n (tried line) p ts = if_keyword finally_word (finally_part (block n) line p) (handlers n (expression n) (block n) line p) ts
resume n (finally_of line p) q ts = got (finished_of line p q) ts
resume n (arms_of line p) a ts = got (guarded_of line p a) ts
resume n (codes_of_arm x) c ts =
    past_sign close_parenthesis ts (λ us. and_then (block n us) (λ p vs. and_arms (arms n (expression n) (block n)) x c p vs))
resume n (block_of_arm x c) p ts = and_arms (arms n (expression n) (block n)) x c p ts
resume n (arm_before x c p) a ts = got (with_arm x c p a) ts

-- the newest frame first; at the end the text is whole
pub data Frames : Kind → Type 0 where
  whole_text : Frames a_block
  push : {a c : Kind} → Frame a c → Frames c → Frames a

abbrev pub resume_all : {a : Kind} → ℕ → Frames a → Of a → List Placed → Read FoundBlock
resume_all n whole_text p ts = got p ts
resume_all n (push f fs) v ts = and_then (resume n f v ts) (resume_all n fs)

-- what frames mean, where this is read next
abbrev pub means : {a : Kind} → ℕ → Frames a → Read (Of a) → Read FoundBlock
means n fs r = and_then r (resume_all n fs)
