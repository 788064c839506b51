-- What goes on behind something that was found, by the newest frame.
use Rattle.std.specs.Prelude.{ℕ, zero, suc, Bool, true, false, List, [], ◌++◌, Option, Some, None}
use Rattle.spec_value.specs.Datum.{Text, fold_case}
use Rattle.spec_program.specs.Tree.{own_length, evaluate, give, unary, conditional, call, verb_call, assignment, scatter, Target, codes_in, instead, the_code}
use Rattle.spec_program.specs.Tokens as t
use Rattle.spec_program.specs.Tokens.{Placed}
use Rattle.spec_program.specs.ReadExpressions as by
use Rattle.spec_program.specs.ReadExpressions.{Found, found_at, FoundArguments, Operand, whole, Braces, Allowed, FoundCodes}
use Rattle.spec_program.specs.ReadPrograms as in_programs
use Rattle.spec_program.specs.ReadPrograms.{FoundBlock, FoundStatement}
use Rattle.spec_program.specs.Frames as f
use Rattle.spec_program.specs.Frames.{Kind, an_expression, an_operand, some_arguments_read, some_branches_read, some_arms_read, some_items_read, some_codes_read, a_statement, a_block, Of, Frame, Join, Frames, push, whole_text}
use Rattle.spec_reader.specs.Next.{Next, found, reads_expression, reads_steps, reads_operators, reads_arguments, reads_block, reads_branches, reads_arms, sticks, State, goes, stops, on_sign, on_keyword}
use Rattle.spec_reader.specs.Ends.{past_sign, past_keyword, arguments_to, items_on, codes_begin, statement_ended, body_begins}

-- ---- behind an expression

abbrev pub argument_read : Bool → Bool → Frames some_arguments_read → Found → List Placed → State
argument_read b spliced fs e ts =
    on_sign t.comma (goes (reads_arguments b (push (f.argument_before spliced e) fs))) (goes (found fs (by.with_argument spliced e by.none_found))) ts

abbrev pub verb_named : Bool → Found → Found → Frames an_operand → List Placed → State
verb_named b o v fs ts =
    on_sign t.open_parenthesis (arguments_to t.close_parenthesis b (push (f.verb_arguments o v) (push (f.steps_behind b) fs))) stops ts

abbrev pub index_read : Bool → Operand → Frames an_operand → Found → List Placed → State
index_read b o fs i ts =
    on_sign t.double_dot (goes (reads_expression true 0 (push (f.range_in b o i) fs)))
    (past_sign t.close_bracket (reads_steps b (by.index_of o i) fs)) ts

abbrev pub joined : Found → Join → Found → Found
joined a j c = found_at a.line (f.joins j a.tree c.tree) (a.nodes ++ c.nodes)

abbrev pub chosen : Found → Found → Found → Found
chosen c x y = found_at c.line (conditional c.tree x.tree y.tree) (c.nodes ++ (x.nodes ++ y.nodes))

abbrev pub codes_read : Bool → ℕ → Found → Frames an_operand → FoundCodes → List Placed → State
codes_read b line e fs c ts =
    on_sign t.arrow (goes (reads_expression b 0 (push (f.caught_instead line e c) fs)))
    (past_sign t.quote (found fs (by.caught_with line e c the_code []))) ts

abbrev pub codes_of_arguments : FoundArguments → FoundCodes
codes_of_arguments es = record { tree = codes_in es.tree; nodes = es.nodes }

-- ---- behind an operand: an assignment, or its operators

-- an assignment stands where any expression may
abbrev pub is_any_level : ℕ → Bool
is_any_level zero = true
is_any_level (suc k) = false

abbrev pub assigned_or : Next → Next → Bool → List Placed → State
assigned_or x y true ts = on_sign t.assign (goes x) (goes y) ts
assigned_or x y false ts = goes y ts

abbrev pub scattered_or_stuck : Next → Bool → List Placed → State
scattered_or_stuck x true ts = past_sign t.assign x ts
scattered_or_stuck x false ts = stops ts

-- of what is assigned to, its line and nodes are kept
abbrev pub target_part : Found → Found
target_part e = record { tree = own_length; line = e.line; nodes = e.nodes }

abbrev pub target_next : Bool → Found → Option Target → Frames an_expression → Next
target_next b e None fs = sticks
target_next b e (Some t) fs = reads_expression b 0 (push (f.assigned_to (target_part e) t) fs)

abbrev pub can_assign : ℕ → Option Target → Bool
can_assign k None = false
can_assign k (Some t) = is_any_level k

abbrev pub target_read : Bool → ℕ → Found → Option Target → Frames an_expression → List Placed → State
target_read b k e o fs ts = assigned_or (target_next b e o fs) (reads_operators b k e fs) (can_assign k o) ts

abbrev pub braces_read : Bool → ℕ → Operand → Braces → Frames an_expression → List Placed → State
braces_read b k o by.no_braces fs ts = target_read b k o.found o.target fs ts
braces_read b k o (by.perhaps_scatter items ns) fs ts =
    assigned_or (reads_expression b 0 (push (f.scattered_to o.found.line items ns) fs)) (reads_operators b k o.found fs) (is_any_level k) ts
braces_read b k o (by.surely_scatter items ns) fs ts =
    scattered_or_stuck (reads_expression b 0 (push (f.scattered_to o.found.line items ns) fs)) (is_any_level k) ts

-- ---- behind a block

abbrev pub tried : ℕ → Frames a_statement → FoundBlock → List Placed → State
tried line fs p ts =
    on_keyword t.finally_word (goes (reads_block (push (f.to_word t.endtry_word) (push (f.finally_of line p) fs))))
    (past_keyword t.except_word (reads_arms (push (f.arms_of line p) fs))) ts

abbrev pub branch_read : Found → Frames some_branches_read → FoundBlock → List Placed → State
branch_read c fs p ts =
    on_keyword t.elseif_word (goes (reads_branches (push (f.branch_before c p) fs)))
    (λ us. on_keyword t.else_word (goes (reads_block (push (f.to_word t.endif_word) (push f.as_else (push (f.branch_before c p) fs)))))
    (past_keyword t.endif_word (found fs (in_programs.with_branch c p in_programs.no_more_branches))) us) ts

abbrev pub arm_read : Option Text → FoundCodes → Frames some_arms_read → FoundBlock → List Placed → State
arm_read x c fs p ts =
    on_keyword t.except_word (goes (reads_arms (push (f.arm_before x c p) fs)))
    (past_keyword t.endtry_word (found fs (in_programs.with_arm x c p in_programs.no_more_arms))) ts

-- ---- by the frame

abbrev pub behind : {a c : Kind} → Frame a c → Frames c → Of a → List Placed → State
behind (f.in_parentheses line) fs e ts = past_sign t.close_parenthesis (found fs (record e { line = line })) ts
behind f.as_operand fs e ts = goes (found fs (whole e)) ts
behind (f.behind_sign u line) fs e ts = goes (found fs (whole (found_at line (unary u e.tree) e.nodes))) ts
behind (f.behind_argument b spliced) fs e ts = argument_read b spliced fs e ts
behind (f.argument_before spliced e) fs es ts = goes (found fs (by.with_argument spliced e es)) ts
behind (f.to_sign s) fs es ts = past_sign s (found fs es) ts
behind (f.call_of x line) fs es ts = goes (found fs (whole (found_at line (call (fold_case x) es.tree) es.nodes))) ts
behind (f.property_name b o) fs p ts = goes (reads_steps b (by.property_of o.found p) fs) ts
behind (f.verb_name b o) fs v ts = verb_named b o.found v fs ts
behind (f.verb_arguments o v) fs es ts =
    goes (found fs (whole (found_at o.line (verb_call o.tree v.tree es.tree) (o.nodes ++ (v.nodes ++ es.nodes))))) ts
behind (f.steps_behind b) fs o ts = goes (reads_steps b o fs) ts
behind (f.index_in b o) fs i ts = index_read b o fs i ts
behind (f.range_in b o i) fs j ts = past_sign t.close_bracket (reads_steps b (by.range_of o i j) fs) ts
behind (f.value_behind b k) fs o ts = braces_read b k o o.braces fs ts
behind (f.right_of b k a j) fs c ts = goes (reads_operators b k (joined a j c) fs) ts
behind (f.chosen_first b k c) fs x ts = past_sign t.bar (reads_expression b 1 (push (f.chosen_second b k c x) fs)) ts
behind (f.chosen_second b k c x) fs y ts = goes (reads_operators b k (chosen c x y) fs) ts
behind (f.assigned_to a t) fs e ts = goes (found fs (found_at a.line (assignment t e.tree) (a.nodes ++ e.nodes))) ts
behind (f.scattered_to line items ns) fs e ts = goes (found fs (found_at line (scatter items e.tree) (ns ++ e.nodes))) ts
behind (f.item_expression b a spliced) fs e ts = items_on b (by.list_alone a) (f.other spliced e) fs ts
behind (f.item_default b a x) fs e ts = items_on b (by.scatter_alone a) (f.with_its_default x e) fs ts
behind (f.item_before i) fs g ts = goes (found fs (f.with_item i g)) ts
behind (f.in_braces line) fs g ts = goes (found fs (by.braces_found line g)) ts
behind (f.caught_in b line) fs e ts = on_sign t.not_sign (codes_begin b (push (f.caught_codes b line e) fs)) stops ts
behind (f.caught_codes b line e) fs c ts = codes_read b line e fs c ts
behind f.as_codes fs es ts = goes (found fs (codes_of_arguments es)) ts
behind (f.caught_instead line e c) fs d ts = past_sign t.quote (found fs (by.caught_with line e c (instead d.tree) d.nodes)) ts
behind (f.statement_before s) fs p ts = goes (found fs (in_programs.and_block s p)) ts
behind f.block_behind fs s ts = goes (reads_block (push (f.statement_before s) fs)) ts
behind (f.to_word k) fs p ts = past_keyword k (found fs p) ts
behind f.in_head fs e ts = past_sign t.close_parenthesis (found fs e) ts
behind (f.evaluated line) fs e ts = statement_ended (in_programs.simple line (evaluate e.tree) e.nodes) fs ts
behind (f.returned line) fs e ts = statement_ended (in_programs.simple line (give e.tree) e.nodes) fs ts
behind (f.branches_of line) fs b ts = goes (found fs (in_programs.branch_of line b)) ts
behind f.condition fs c ts = goes (reads_block (push (f.block_of_branch c) fs)) ts
behind (f.block_of_branch c) fs p ts = branch_read c fs p ts
behind (f.branch_before c p) fs b ts = goes (found fs (in_programs.with_branch c p b)) ts
behind f.as_else fs p ts = goes (found fs (in_programs.else_block p)) ts
behind (f.head_of line h) fs e ts = goes (body_begins line (f.body_of h e) fs) ts
behind (f.range_first line x) fs a ts = past_sign t.double_dot (reads_expression false 0 (push (f.range_last line x a) fs)) ts
behind (f.range_last line x a) fs b ts = past_sign t.close_bracket (body_begins line (f.range_body x a b) fs) ts
behind (f.block_of_body line b) fs p ts = goes (found fs (f.with_body line b p)) ts
behind (f.tried line) fs p ts = tried line fs p ts
behind (f.finally_of line p) fs q ts = goes (found fs (in_programs.finished_of line p q)) ts
behind (f.arms_of line p) fs a ts = goes (found fs (in_programs.guarded_of line p a)) ts
behind (f.codes_of_arm x) fs c ts = past_sign t.close_parenthesis (reads_block (push (f.block_of_arm x c) fs)) ts
behind (f.block_of_arm x c) fs p ts = arm_read x c fs p ts
behind (f.arm_before x c p) fs a ts = goes (found fs (in_programs.with_arm x c p a)) ts

-- at the end the text is whole
abbrev pub found_by : {a : Kind} → Frames a → Of a → List Placed → State
found_by whole_text p ts = goes (found whole_text p) ts
found_by (push g fs) v ts = behind g fs v ts
