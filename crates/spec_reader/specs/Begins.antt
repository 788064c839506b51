-- What begins with a token, where something is read.
use Rattle.std.specs.Prelude.{ℕ, nat_le, Bool, true, false, List, [], ◌∷◌, if◌then◌else◌, Option, Some, None}
use Rattle.spec_value.specs.Datum as value
use Rattle.spec_value.specs.Datum.{Datum, Text, fold_case}
use Rattle.spec_value.specs.Operators.{negation, not_true}
use Rattle.spec_program.specs.Tree.{Statement, literal, variable, own_length, listing, no_arguments, to_variable, leave_loop, next_turn, give_zero}
use Rattle.spec_program.specs.Spelling.{operator_level, right_level}
use Rattle.spec_program.specs.Tokens as t
use Rattle.spec_program.specs.Tokens.{Keyword, Sign, Token, Placed}
use Rattle.spec_program.specs.ReadExpressions as by
use Rattle.spec_program.specs.ReadExpressions.{Found, found_at, Operand, whole, Allowed, Joint, joint}
use Rattle.spec_program.specs.ReadPrograms as in_programs
use Rattle.spec_program.specs.Frames as f
use Rattle.spec_program.specs.Frames.{an_expression, an_operand, some_arguments_read, some_items_read, some_branches_read, some_arms_read, a_statement, a_block, Frames, push}
use Rattle.spec_program.specs.Moves.{begins_with}
use Rattle.spec_program.specs.FurtherMoves.{name_at}
use Rattle.spec_program.specs.BracedMoves.{all_allowed}
use Rattle.spec_reader.specs.Next.{Next, found, reads_expression, reads_steps, reads_items, reads_block, reads_branches, State, goes, stops, on_sign, on_keyword, TakenWord, no_word, this_word, taken_word, on_word}
use Rattle.spec_reader.specs.Ends.{past_sign, arguments_to, items_on, codes_begin, statement_ended, head_begins}

-- ---- an operand

abbrev pub literal_begins : Bool → ℕ → Datum → Frames an_operand → List Placed → State
literal_begins b line v fs ts = goes (reads_steps b (whole (found_at line (literal v) [])) fs) ts

abbrev pub variable_at : ℕ → Text → Operand
variable_at line x = by.assignable (found_at line (variable (fold_case x)) []) (to_variable (fold_case x))

abbrev pub word_begins : Bool → Text → ℕ → Frames an_operand → List Placed → State
word_begins b x line fs ts =
    on_sign t.open_parenthesis (arguments_to t.close_parenthesis b (push (f.call_of x line) (push (f.steps_behind b) fs)))
    (goes (reads_steps b (variable_at line x) fs)) ts

-- `$x` and `$x(..)`
abbrev pub system_begins : Bool → ℕ → Found → Frames an_operand → List Placed → State
system_begins b line x fs ts =
    on_sign t.open_parenthesis (arguments_to t.close_parenthesis b (push (f.verb_arguments (by.system_at line) x) (push (f.steps_behind b) fs)))
    (goes (reads_steps b (by.property_of (by.system_at line) x) fs)) ts

abbrev pub dollar_alone : Bool → ℕ → Frames an_operand → List Placed → State
dollar_alone true line fs ts = goes (reads_steps true (whole (found_at line own_length [])) fs) ts
dollar_alone false line fs ts = stops ts

abbrev pub dollar_begins : Bool → ℕ → Frames an_operand → List Placed → State
dollar_begins b line fs ts = on_word (λ x at us. system_begins b line (name_at at x) fs us) (dollar_alone b line fs) (taken_word ts)

abbrev pub brace_begins : Bool → ℕ → ℕ → Frames an_operand → List Placed → State
brace_begins b k line fs ts =
    on_sign t.close_brace (goes (reads_steps b (whole (found_at line (listing no_arguments) [])) fs))
    (goes (reads_items b (all_allowed k) (push (f.in_braces line) (push (f.steps_behind b) fs)))) ts

abbrev pub operand_by : Bool → ℕ → Frames an_operand → Token → ℕ → List Placed → List Placed → State
operand_by b k fs (t.sign t.minus_sign) line rest all = goes (reads_expression b 7 (push (f.behind_sign negation line) fs)) rest
operand_by b k fs (t.sign t.not_sign) line rest all = goes (reads_expression b 7 (push (f.behind_sign not_true line) fs)) rest
operand_by b k fs (t.integer m) line rest all = literal_begins b line (value.integer (by.integer_value m)) fs rest
operand_by b k fs (t.object below m) line rest all = literal_begins b line (value.object (by.object_value below m)) fs rest
operand_by b k fs (t.string x) line rest all = literal_begins b line (value.text x) fs rest
operand_by b k fs (t.error_name e) line rest all = literal_begins b line (value.error e) fs rest
operand_by b k fs (t.word x) line rest all = word_begins b x line fs rest
operand_by b k fs (t.sign t.dollar) line rest all = dollar_begins b line fs rest
operand_by b k fs (t.sign t.open_parenthesis) line rest all =
    goes (reads_expression b 0 (push (f.in_parentheses line) (push f.as_operand (push (f.steps_behind b) fs)))) rest
operand_by b k fs (t.sign t.open_brace) line rest all = brace_begins b k line fs rest
operand_by b k fs (t.sign t.backquote) line rest all =
    goes (reads_expression b 0 (push (f.caught_in b line) (push (f.steps_behind b) fs))) rest
operand_by b k fs x line rest all = stops all

abbrev pub operand_begins : Bool → ℕ → Frames an_operand → List Placed → State
operand_begins b k fs [] = stops []
operand_begins b k fs (p ∷ ts) = operand_by b k fs p.token p.line ts (p ∷ ts)

-- ---- steps

-- a name: a word, or an expression in parentheses
abbrev pub name_by : Bool → Frames an_expression → Token → ℕ → List Placed → List Placed → State
name_by b fs (t.word x) line rest all = goes (found fs (name_at line x)) rest
name_by b fs (t.sign t.open_parenthesis) line rest all = goes (reads_expression b 0 (push (f.in_parentheses line) fs)) rest
name_by b fs x line rest all = stops all

abbrev pub name_begins : Bool → Frames an_expression → List Placed → State
name_begins b fs [] = stops []
name_begins b fs (p ∷ ts) = name_by b fs p.token p.line ts (p ∷ ts)

abbrev pub step_by : Bool → Operand → Frames an_operand → Token → List Placed → List Placed → State
step_by b o fs (t.sign t.dot) rest all = name_begins b (push (f.property_name b o) fs) rest
step_by b o fs (t.sign t.colon) rest all = name_begins b (push (f.verb_name b o) fs) rest
step_by b o fs (t.sign t.open_bracket) rest all = goes (reads_expression true 0 (push (f.index_in b o) fs)) rest
step_by b o fs x rest all = goes (found fs o) all

abbrev pub steps_unless : Bool → Bool → Operand → Frames an_operand → List Placed → State
steps_unless true b o fs ts = goes (found fs o) ts
steps_unless false b o fs [] = goes (found fs o) []
steps_unless false b o fs (p ∷ ts) = step_by b o fs p.token ts (p ∷ ts)

-- ---- operators

abbrev pub if_tight : Bool → Next → Next → List Placed → List Placed → State
if_tight true x y rest all = goes x rest
if_tight false x y rest all = goes y all

abbrev pub joint_by : Bool → ℕ → Found → Frames an_expression → Joint → List Placed → List Placed → State
joint_by b k a fs (by.operator op) rest all =
    if_tight (nat_le k (operator_level op)) (reads_expression b (right_level op) (push (f.right_of b k a (f.by_operator op)) fs))
    (found fs a) rest all
joint_by b k a fs by.and_joint rest all = if_tight (nat_le k 2) (reads_expression b 3 (push (f.right_of b k a f.by_both) fs)) (found fs a) rest all
joint_by b k a fs by.or_joint rest all = if_tight (nat_le k 2) (reads_expression b 3 (push (f.right_of b k a f.by_either) fs)) (found fs a) rest all
joint_by b k a fs by.question_joint rest all = if_tight (nat_le k 1) (reads_expression b 0 (push (f.chosen_first b k a) fs)) (found fs a) rest all
joint_by b k a fs by.no_joint rest all = goes (found fs a) all

abbrev pub operators_begin : Bool → ℕ → Found → Frames an_expression → List Placed → State
operators_begin b k a fs [] = goes (found fs a) []
operators_begin b k a fs (p ∷ ts) = joint_by b k a fs (joint p.token) ts (p ∷ ts)

-- ---- arguments

abbrev pub arguments_begin : Bool → Frames some_arguments_read → List Placed → State
arguments_begin b fs ts =
    on_sign t.at_sign (goes (reads_expression b 0 (push (f.behind_argument b true) fs)))
    (goes (reads_expression b 0 (push (f.behind_argument b false) fs))) ts

-- ---- items

-- a word alone: a comma or the closing brace is behind it
abbrev pub if_alone : Bool → Text → ℕ → List Placed → List Placed → TakenWord
if_alone true x line rest all = this_word x line rest
if_alone false x line rest all = no_word all

abbrev pub if_word_alone : Token → ℕ → List Placed → List Placed → TakenWord
if_word_alone (t.word x) line rest all = if_alone (by.ends_item rest) x line rest all
if_word_alone k line rest all = no_word all

abbrev pub taken_word_alone : List Placed → TakenWord
taken_word_alone [] = no_word []
taken_word_alone (p ∷ ts) = if_word_alone p.token p.line ts (p ∷ ts)

abbrev pub expression_item : Bool → Allowed → Bool → Frames some_items_read → List Placed → State
expression_item b a spliced fs ts = goes (reads_expression b 0 (push (f.item_expression b a spliced) fs)) ts

abbrev pub plain_item : Bool → Allowed → Frames some_items_read → List Placed → State
plain_item b a fs ts = on_word (λ x line us. items_on b a (f.bare x line) fs us) (expression_item b a false fs) (taken_word_alone ts)

abbrev pub rest_item : Bool → Allowed → Frames some_items_read → List Placed → State
rest_item b a fs ts = on_word (λ x line us. items_on b (by.rest_allowed a) (f.bare_rest x line) fs us) (expression_item b a true fs)
    (taken_word_alone ts)

-- behind `?`
abbrev pub optional_named : Bool → Allowed → Frames some_items_read → Text → List Placed → State
optional_named b a fs x ts =
    on_sign t.assign (goes (reads_expression b 0 (push (f.item_default b a x) fs))) (items_on b (by.scatter_alone a) (f.bare_optional x) fs) ts

abbrev pub optional_item : Bool → Allowed → Frames some_items_read → List Placed → State
optional_item b a fs ts = on_word (λ x line us. optional_named b a fs x us) stops (taken_word ts)

abbrev pub listed_item : Bool → Allowed → Frames some_items_read → List Placed → State
listed_item b a fs ts = on_sign t.at_sign (rest_item b a fs) (plain_item b a fs) ts

abbrev pub stops_at : Sign → (List Placed → State) → List Placed → State
stops_at s g ts = if begins_with s ts then stops ts else g ts

-- where a list is possible
abbrev pub item_of_list : Bool → Bool → Allowed → Frames some_items_read → List Placed → State
item_of_list true b a fs ts = on_sign t.question (optional_item b a fs) (listed_item b a fs) ts
item_of_list false b a fs ts = stops_at t.question (listed_item b a fs) ts

abbrev pub scatter_plain : Bool → Allowed → Frames some_items_read → List Placed → State
scatter_plain b a fs ts = on_word (λ x line us. items_on b a (f.bare x line) fs us) stops (taken_word ts)

abbrev pub scatter_rest : Bool → Allowed → Frames some_items_read → List Placed → State
scatter_rest b a fs ts = on_word (λ x line us. items_on b (record a { has_rest = true }) (f.bare_rest x line) fs us) stops (taken_word ts)

abbrev pub scatter_unless : Bool → Bool → Allowed → Frames some_items_read → List Placed → State
scatter_unless true b a fs ts = stops_at t.at_sign (scatter_plain b a fs) ts
scatter_unless false b a fs ts = on_sign t.at_sign (scatter_rest b a fs) (scatter_plain b a fs) ts

-- where only a scatter is
abbrev pub item_of_scatter : Bool → Allowed → Frames some_items_read → List Placed → State
item_of_scatter b a fs ts = on_sign t.question (optional_item b a fs) (scatter_unless a.has_rest b a fs) ts

abbrev pub item_by : Bool → Bool → Allowed → Frames some_items_read → List Placed → State
item_by true b a fs ts = item_of_list a.as_scatter b a fs ts
item_by false b a fs ts = item_of_scatter b a fs ts

-- ---- statements

abbrev pub return_begins : ℕ → Frames a_statement → List Placed → State
return_begins line fs ts =
    on_sign t.semicolon (goes (found fs (in_programs.simple line give_zero []))) (goes (reads_expression false 0 (push (f.returned line) fs))) ts

abbrev pub leaving_begins : (Option Text → Statement) → ℕ → Frames a_statement → List Placed → State
leaving_begins g line fs ts =
    on_word
    (λ x at us. statement_ended (in_programs.stray line (Some (fold_case x)) (g (Some (fold_case x)))) fs us)
    (statement_ended (in_programs.stray line None (g None)) fs)
    (taken_word ts)

abbrev pub for_in : ℕ → Text → Frames a_statement → List Placed → State
for_in line x fs ts = on_sign t.open_bracket (goes (reads_expression false 0 (push (f.range_first line x) fs)))
    (head_begins line (f.for_head x) fs) ts

abbrev pub for_named : ℕ → Text → Frames a_statement → List Placed → State
for_named line x fs ts = on_keyword t.in_word (for_in line x fs) stops ts

abbrev pub for_begins : ℕ → Frames a_statement → List Placed → State
for_begins line fs ts = on_word (λ x at us. for_named line (fold_case x) fs us) stops (taken_word ts)

abbrev pub while_begins : ℕ → Frames a_statement → List Placed → State
while_begins line fs ts =
    on_word (λ x at us. head_begins line (f.while_head (Some (fold_case x))) fs us) (head_begins line (f.while_head None) fs) (taken_word ts)

abbrev pub fork_begins : ℕ → Frames a_statement → List Placed → State
fork_begins line fs ts =
    on_word (λ x at us. head_begins line (f.fork_head (Some (fold_case x))) fs us) (head_begins line (f.fork_head None) fs) (taken_word ts)

abbrev pub branches_begin : Frames some_branches_read → List Placed → State
branches_begin fs ts = past_sign t.open_parenthesis (reads_expression false 0 (push f.in_head (push f.condition fs))) ts

abbrev pub arm_named : Option Text → Frames some_arms_read → List Placed → State
arm_named x fs ts = on_sign t.open_parenthesis (codes_begin false (push (f.codes_of_arm x) fs)) stops ts

abbrev pub arms_begin : Frames some_arms_read → List Placed → State
arms_begin fs ts = on_word (λ x at us. arm_named (Some (fold_case x)) fs us) (arm_named None fs) (taken_word ts)

-- with which words and signs a statement begins; the rest ends a block, or begins an expression
abbrev pub statement_by_keyword : Frames a_block → Frames a_statement → Keyword → ℕ → List Placed → List Placed → State
statement_by_keyword fs gs t.if_word line rest all = goes (reads_branches (push (f.branches_of line) gs)) rest
statement_by_keyword fs gs t.for_word line rest all = for_begins line gs rest
statement_by_keyword fs gs t.while_word line rest all = while_begins line gs rest
statement_by_keyword fs gs t.fork_word line rest all = fork_begins line gs rest
statement_by_keyword fs gs t.try_word line rest all = goes (reads_block (push (f.tried line) gs)) rest
statement_by_keyword fs gs t.break_word line rest all = leaving_begins leave_loop line gs rest
statement_by_keyword fs gs t.continue_word line rest all = leaving_begins next_turn line gs rest
statement_by_keyword fs gs t.return_word line rest all = return_begins line gs rest
statement_by_keyword fs gs k line rest all = goes (found fs in_programs.no_statements) all

abbrev pub expression_statement : Frames a_statement → ℕ → List Placed → State
expression_statement gs line all = goes (reads_expression false 0 (push (f.evaluated line) gs)) all

abbrev pub statement_by_sign : Frames a_block → Frames a_statement → Sign → ℕ → List Placed → List Placed → State
statement_by_sign fs gs t.semicolon line rest all = goes (reads_block fs) rest
statement_by_sign fs gs t.open_parenthesis line rest all = expression_statement gs line all
statement_by_sign fs gs t.open_brace line rest all = expression_statement gs line all
statement_by_sign fs gs t.dollar line rest all = expression_statement gs line all
statement_by_sign fs gs t.backquote line rest all = expression_statement gs line all
statement_by_sign fs gs t.minus_sign line rest all = expression_statement gs line all
statement_by_sign fs gs t.not_sign line rest all = expression_statement gs line all
statement_by_sign fs gs s line rest all = goes (found fs in_programs.no_statements) all

abbrev pub statement_by : Frames a_block → Frames a_statement → Token → ℕ → List Placed → List Placed → State
statement_by fs gs (t.keyword k) line rest all = statement_by_keyword fs gs k line rest all
statement_by fs gs (t.sign s) line rest all = statement_by_sign fs gs s line rest all
statement_by fs gs (t.bad k) line rest all = goes (found fs in_programs.no_statements) all
statement_by fs gs x line rest all = expression_statement gs line all

abbrev pub block_begins : Frames a_block → List Placed → State
block_begins fs [] = goes (found fs in_programs.no_statements) []
block_begins fs (p ∷ ts) = statement_by fs (push f.block_behind fs) p.token p.line ts (p ∷ ts)
