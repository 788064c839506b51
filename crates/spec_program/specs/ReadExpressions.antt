-- Expressions as they are read (Programmer's Manual, "MOO Language Expressions").
use Rattle.std.specs.Prelude.{ℕ, zero, suc, ℤ, pos, negsuc, nat_le, ◌==◌, Bool, true, false, not, ◌&&◌, List, [], ◌∷◌, ◌++◌, if◌then◌else◌, Option, Some, None}
use Rattle.spec_value.specs.Datum as value
use Rattle.spec_value.specs.Datum.{Datum, Text, fold_case}
use Rattle.spec_value.specs.Operators.{UnaryOperator, negation, not_true, BinaryOperator, plus, minus, times, divided_by, remainder_by, to_the, equals, differs, less, less_or_equal, greater, greater_or_equal, is_in}
use Rattle.spec_program.specs.Tree.{Expr, literal, variable, own_length, unary, binary, both, either, conditional, listing, call, property, verb_call, index, range, caught, assignment, scatter, Arguments, no_arguments, argument, splice, Codes, any_code, codes_in, Fallback, the_code, instead, Target, to_variable, to_property, to_index, to_range, Items, no_items, required, optional, remaining, defaulted}
use Rattle.spec_program.specs.Spelling.{operator_level, right_level}
use Rattle.spec_program.specs.Tokens.{Keyword, Sign, Token, word, keyword, error_name, integer, object, string, sign, Placed, greatest_integer, in_word, any_word, open_parenthesis, close_parenthesis, open_bracket, close_bracket, open_brace, close_brace, comma, colon, dot, double_dot, assign, equal, arrow, not_sign, differs_sign, plus_sign, minus_sign, times_sign, slash, percent, caret, less_sign, less_equal, greater_sign, greater_equal, and_sign, or_sign, bar, question, dollar, at_sign, backquote, quote}
use Rattle.spec_program.specs.Reading.{Read, got, stuck, and_then, is_sign, if_sign, if_keyword, past_sign, past_word, line_of, Node, under}

-- an expression with the line of its first token, its parentheses included
pub record Found : Type 0 where
  pub tree : Expr
  pub line : ℕ
  pub nodes : List Node

abbrev pub found_at : ℕ → Expr → List Node → Found
found_at line e ns = record { tree = e; line = line; nodes = under line ns }

-- whether it stands in brackets, where `$` may, and how tightly it has to bind: 0 is any expression
abbrev pub ReadsExpression : Type 0
ReadsExpression = Bool → ℕ → List Placed → Read Found

-- ---- arguments: expressions and splices between commas

pub record FoundArguments : Type 0 where
  pub tree : Arguments
  pub nodes : List Node

abbrev pub none_found : FoundArguments
none_found = record { tree = no_arguments; nodes = [] }

abbrev pub with_argument : Bool → Found → FoundArguments → FoundArguments
with_argument true e more = record { tree = splice e.tree more.tree; nodes = e.nodes ++ more.nodes }
with_argument false e more = record { tree = argument e.tree more.tree; nodes = e.nodes ++ more.nodes }

abbrev pub further_ones : (List Placed → Read FoundArguments) → List Placed → Read FoundArguments
further_ones more ts = if_sign comma more (got none_found) ts

abbrev pub one_argument : ReadsExpression → Bool → (List Placed → Read FoundArguments) → Bool → List Placed → Read FoundArguments
one_argument reads b more spliced ts =
    and_then (reads b 0 ts) (λ e us. and_then (further_ones more us) (λ es vs. got (with_argument spliced e es) vs))

-- at least one
unfoldable pub some_arguments : ℕ → ReadsExpression → Bool → List Placed → Read FoundArguments
some_arguments zero reads b ts = stuck ts
some_arguments (suc n) reads b ts =
    if_sign at_sign (one_argument reads b (some_arguments n reads b) true) (one_argument reads b (some_arguments n reads b) false) ts

-- as many as there are before this sign, and past it
abbrev pub arguments_to : Sign → ℕ → ReadsExpression → Bool → List Placed → Read FoundArguments
arguments_to s n reads b ts =
    if_sign s (got none_found) (λ us. and_then (some_arguments n reads b us) (λ es vs. past_sign s vs (got es))) ts

-- ---- what stands before operators, and what it may become behind them

pub data Braces : Type 0 where
  no_braces : Braces
  perhaps_scatter : Items → List Node → Braces  -- with the nodes of its defaults
  surely_scatter : Items → List Node → Braces

pub record Operand : Type 0 where
  pub found : Found
  pub target : Option Target
  pub ranged : Bool  -- a range is the last step of a target
  pub braces : Braces

abbrev pub whole : Found → Operand
whole e = record { found = e; target = None; ranged = false; braces = no_braces }

abbrev pub assignable : Found → Target → Operand
assignable e t = record { found = e; target = Some t; ranged = false; braces = no_braces }

-- ---- literals

-- the number after the greatest is read as the least
abbrev pub integer_value : ℕ → ℤ
integer_value n = if nat_le n greatest_integer then pos n else negsuc greatest_integer

abbrev pub negative : ℕ → ℤ
negative zero = pos 0
negative (suc n) = negsuc n

abbrev pub object_value : Bool → ℕ → ℤ
object_value false n = pos n
object_value true n = negative n

abbrev pub literal_at : ℕ → Datum → List Placed → Read Operand
literal_at line v ts = got (whole (found_at line (literal v) [])) ts

abbrev pub system_at : ℕ → Found
system_at line = found_at line (literal (value.object (pos 0))) []

-- ---- names: a word, or an expression in parentheses

abbrev pub in_parentheses : ReadsExpression → Bool → ℕ → List Placed → Read Found
in_parentheses reads b line ts = and_then (reads b 0 ts) (λ e us. past_sign close_parenthesis us (got (record e { line = line })))

abbrev pub name_by : ReadsExpression → Bool → Token → ℕ → List Placed → List Placed → Read Found
name_by reads b (word x) line rest all = got (found_at line (literal (value.text x)) []) rest
name_by reads b (sign open_parenthesis) line rest all = in_parentheses reads b line rest
name_by reads b k line rest all = stuck all

abbrev pub name : ReadsExpression → Bool → List Placed → Read Found
name reads b [] = stuck []
name reads b (p ∷ ts) = name_by reads b p.token p.line ts (p ∷ ts)

-- ---- properties, verbs and indexes of what stands before

abbrev pub property_of : Found → Found → Operand
property_of o p = assignable (found_at o.line (property o.tree p.tree) (o.nodes ++ p.nodes)) (to_property o.tree p.tree)

abbrev pub verb_of : ℕ → ReadsExpression → Bool → Found → Found → List Placed → Read Operand
verb_of n reads b o v ts =
    past_sign open_parenthesis ts (λ us. and_then (arguments_to close_parenthesis n reads b us) (λ es vs.
    got (whole (found_at o.line (verb_call o.tree v.tree es.tree) (o.nodes ++ (v.nodes ++ es.nodes)))) vs))

abbrev pub stepped : Option Target → Bool → (Target → Target) → Option Target
stepped (Some t) false step = Some (step t)
stepped t ranged step = None

abbrev pub index_of : Operand → Found → Operand
index_of o i =
    record {
      found = found_at o.found.line (index o.found.tree i.tree) (o.found.nodes ++ i.nodes);
      target = stepped o.target o.ranged (λ t. to_index t i.tree);
      ranged = false;
      braces = no_braces;
    }

abbrev pub range_of : Operand → Found → Found → Operand
range_of o i j =
    record {
      found = found_at o.found.line (range o.found.tree i.tree j.tree) (o.found.nodes ++ (i.nodes ++ j.nodes));
      target = stepped o.target o.ranged (λ t. to_range t i.tree j.tree);
      ranged = true;
      braces = no_braces;
    }

abbrev pub in_brackets : ReadsExpression → Operand → (Operand → List Placed → Read Operand) → List Placed → Read Operand
in_brackets reads o more ts =
    and_then (reads true 0 ts) (λ i us.
    if_sign double_dot
    (λ vs. and_then (reads true 0 vs) (λ j ws. past_sign close_bracket ws (λ xs. more (range_of o i j) xs)))
    (λ vs. past_sign close_bracket vs (λ ws. more (index_of o i) ws))
    us)

abbrev pub is_surely_scatter : Braces → Bool
is_surely_scatter (surely_scatter xs ns) = true
is_surely_scatter _ = false

-- as many steps as follow
abbrev pub step_after : ℕ → ReadsExpression → Bool → (Operand → List Placed → Read Operand) → Operand → Token → List Placed → List Placed → Read Operand
step_after n reads b more o (sign dot) rest all = and_then (name reads b rest) (λ p us. more (property_of o.found p) us)
step_after n reads b more o (sign colon) rest all =
    and_then (name reads b rest) (λ v us. and_then (verb_of n reads b o.found v us) more)
step_after n reads b more o (sign open_bracket) rest all = in_brackets reads o more rest
step_after n reads b more o k rest all = got o all

abbrev pub steps_unless : Bool → ℕ → ReadsExpression → Bool → (Operand → List Placed → Read Operand) → Operand → List Placed → Read Operand
steps_unless true n reads b more o ts = got o ts
steps_unless false n reads b more o [] = got o []
steps_unless false n reads b more o (p ∷ ts) = step_after n reads b more o p.token ts (p ∷ ts)

unfoldable pub steps : ℕ → ReadsExpression → Bool → Operand → List Placed → Read Operand
steps zero reads b o ts = stuck ts
steps (suc n) reads b o ts = steps_unless (is_surely_scatter o.braces) n reads b (steps n reads b) o ts

-- ---- braces: a list, or the left side of a scatter

-- what the items so far allow: a list, a scatter; and whether one of them takes the rest
pub record Allowed : Type 0 where
  pub as_list : Bool
  pub as_scatter : Bool
  pub has_rest : Bool

pub record FoundItems : Type 0 where
  pub allowed : Allowed
  pub arguments : Arguments
  pub argument_nodes : List Node
  pub items : Items
  pub default_nodes : List Node

abbrev pub no_more : Allowed → FoundItems
no_more a = record { allowed = a; arguments = no_arguments; argument_nodes = []; items = no_items; default_nodes = [] }

abbrev pub with_required : Text → ℕ → FoundItems → FoundItems
with_required x line f = record f {
  arguments = argument (variable (fold_case x)) f.arguments;
  argument_nodes = under line [] ++ f.argument_nodes;
  items = required (fold_case x) f.items;
}

abbrev pub with_rest : Text → ℕ → FoundItems → FoundItems
with_rest x line f = record f {
  arguments = splice (variable (fold_case x)) f.arguments;
  argument_nodes = under line [] ++ f.argument_nodes;
  items = remaining (fold_case x) f.items;
}

abbrev pub with_optional : Text → FoundItems → FoundItems
with_optional x f = record f { items = optional (fold_case x) f.items }

abbrev pub with_default : Text → Found → FoundItems → FoundItems
with_default x e f = record f { items = defaulted (fold_case x) e.tree f.items; default_nodes = e.nodes ++ f.default_nodes }

abbrev pub with_expression : Bool → Found → FoundItems → FoundItems
with_expression true e f = record f { arguments = splice e.tree f.arguments; argument_nodes = e.nodes ++ f.argument_nodes }
with_expression false e f = record f { arguments = argument e.tree f.arguments; argument_nodes = e.nodes ++ f.argument_nodes }

abbrev pub ReadsItems : Type 0
ReadsItems = Allowed → List Placed → Read FoundItems

-- behind an item: another one, or the closing brace
abbrev pub and_items : ReadsItems → Allowed → (FoundItems → FoundItems) → List Placed → Read FoundItems
and_items more a with ts =
    and_then (if_sign comma (more a) (λ us. past_sign close_brace us (got (no_more a))) ts) (λ f us. got (with f) us)

abbrev pub list_alone : Allowed → Allowed
list_alone a = record a { as_scatter = false }

abbrev pub scatter_alone : Allowed → Allowed
scatter_alone a = record a { as_list = false }

abbrev pub expression_item : ReadsExpression → Bool → ReadsItems → Allowed → Bool → List Placed → Read FoundItems
expression_item reads b more a spliced ts =
    and_then (reads b 0 ts) (λ e us. and_items more (list_alone a) (with_expression spliced e) us)

-- a word and then a comma or the closing brace
abbrev pub ends_item : List Placed → Bool
ends_item [] = false
ends_item (p ∷ ts) = if is_sign comma p.token then true else is_sign close_brace p.token

abbrev pub optional_item : ReadsExpression → Bool → ReadsItems → Allowed → List Placed → Read FoundItems
optional_item reads b more a ts =
    past_word ts (λ x line us.
    if_sign assign
    (λ vs. and_then (reads b 0 vs) (λ e ws. and_items more (scatter_alone a) (with_default x e) ws))
    (λ vs. and_items more (scatter_alone a) (with_optional x) vs)
    us)

-- one rest alone; in a list it is a splice like another
abbrev pub rest_allowed : Allowed → Allowed
rest_allowed a = record a { as_scatter = a.as_scatter && not a.has_rest; has_rest = true }

abbrev pub bare_or_not : Bool → (List Placed → Read FoundItems) → (List Placed → Read FoundItems) → List Placed → List Placed → Read FoundItems
bare_or_not true bare other rest all = bare rest
bare_or_not false bare other rest all = other all

abbrev pub word_item : ReadsExpression → Bool → ReadsItems → Allowed → Text → ℕ → List Placed → List Placed → Read FoundItems
word_item reads b more a x line rest all =
    bare_or_not (ends_item rest) (and_items more a (with_required x line)) (expression_item reads b more a false) rest all

abbrev pub plain_item_by : ReadsExpression → Bool → ReadsItems → Allowed → Token → ℕ → List Placed → List Placed → Read FoundItems
plain_item_by reads b more a (word x) line rest all = word_item reads b more a x line rest all
plain_item_by reads b more a k line rest all = expression_item reads b more a false all

abbrev pub plain_item : ReadsExpression → Bool → ReadsItems → Allowed → List Placed → Read FoundItems
plain_item reads b more a [] = stuck []
plain_item reads b more a (p ∷ ts) = plain_item_by reads b more a p.token p.line ts (p ∷ ts)

abbrev pub rest_item_by : ReadsExpression → Bool → ReadsItems → Allowed → Token → ℕ → List Placed → List Placed → Read FoundItems
rest_item_by reads b more a (word x) line rest all =
    bare_or_not (ends_item rest) (and_items more (rest_allowed a) (with_rest x line)) (expression_item reads b more a true) rest all
rest_item_by reads b more a k line rest all = expression_item reads b more a true all

abbrev pub rest_item : ReadsExpression → Bool → ReadsItems → Allowed → List Placed → Read FoundItems
rest_item reads b more a [] = stuck []
rest_item reads b more a (p ∷ ts) = rest_item_by reads b more a p.token p.line ts (p ∷ ts)

-- where a scatter may stand, and nothing so far is against it
abbrev pub item_of_either : ReadsExpression → Bool → ReadsItems → Allowed → List Placed → Read FoundItems
item_of_either reads b more a ts =
    if_sign question
    (λ us. bare_or_not a.as_scatter (optional_item reads b more a) stuck us ts)
    (λ us. if_sign at_sign (rest_item reads b more a) (plain_item reads b more a) us)
    ts

-- where only a scatter is possible
abbrev pub scatter_rest : ReadsItems → Allowed → Bool → List Placed → List Placed → Read FoundItems
scatter_rest more a true rest all = stuck all
scatter_rest more a false rest all = past_word rest (λ x line us. and_items more (record a { has_rest = true }) (with_rest x line) us)

abbrev pub item_of_scatter : ReadsExpression → Bool → ReadsItems → Allowed → List Placed → Read FoundItems
item_of_scatter reads b more a ts =
    if_sign question
    (optional_item reads b more a)
    (λ us. if_sign at_sign
    (λ vs. scatter_rest more a a.has_rest vs us)
    (λ vs. past_word vs (λ x line ws. and_items more a (with_required x line) ws))
    us)
    ts

abbrev pub item_by : Bool → ReadsExpression → Bool → ReadsItems → Allowed → List Placed → Read FoundItems
item_by true reads b more a ts = item_of_either reads b more a ts
item_by false reads b more a ts = item_of_scatter reads b more a ts

unfoldable pub items_from : ℕ → ReadsExpression → Bool → Allowed → List Placed → Read FoundItems
items_from zero reads b a ts = stuck ts
items_from (suc n) reads b a ts = item_by a.as_list reads b (items_from n reads b) a ts

abbrev pub braces_of : FoundItems → Braces
braces_of f =
    if f.allowed.as_scatter then (if f.allowed.as_list then perhaps_scatter f.items f.default_nodes else surely_scatter f.items f.default_nodes)
    else no_braces

abbrev pub braces_found : ℕ → FoundItems → Operand
braces_found line f = record (whole (found_at line (listing f.arguments) f.argument_nodes)) { braces = braces_of f }

-- a scatter stands where any expression may
abbrev pub in_braces : ℕ → ReadsExpression → Bool → ℕ → ℕ → List Placed → Read Operand
in_braces n reads b k line ts =
    if_sign close_brace
    (got (whole (found_at line (listing no_arguments) [])))
    (λ us. and_then (items_from n reads b (record { as_list = true; as_scatter = k == 0; has_rest = false }) us) (λ f vs. got (braces_found line f) vs))
    ts

-- ---- a caught expression: codes, and perhaps a value instead

pub record FoundCodes : Type 0 where
  pub tree : Codes
  pub nodes : List Node

-- all of them, or at least one
abbrev pub error_codes : ℕ → ReadsExpression → Bool → List Placed → Read FoundCodes
error_codes n reads b ts =
    if_keyword any_word
    (got (record { tree = any_code; nodes = [] }))
    (λ us. and_then (some_arguments n reads b us) (λ es vs. got (record { tree = codes_in es.tree; nodes = es.nodes }) vs))
    ts

abbrev pub caught_with : ℕ → Found → FoundCodes → Fallback → List Node → Operand
caught_with line e c d ns = whole (found_at line (caught e.tree c.tree d) (e.nodes ++ (c.nodes ++ ns)))

abbrev pub in_backquotes : ℕ → ReadsExpression → Bool → ℕ → List Placed → Read Operand
in_backquotes n reads b line ts =
    and_then (reads b 0 ts) (λ e us. past_sign not_sign us (λ vs. and_then (error_codes n reads b vs) (λ c ws.
    if_sign arrow
    (λ xs. and_then (reads b 0 xs) (λ d ys. past_sign quote ys (got (caught_with line e c (instead d.tree) d.nodes))))
    (λ xs. past_sign quote xs (got (caught_with line e c the_code [])))
    ws)))

-- ---- what begins with a word or with `$`

abbrev pub word_first : ℕ → ReadsExpression → Bool → Text → ℕ → List Placed → Read Operand
word_first n reads b x line ts =
    if_sign open_parenthesis
    (λ us. and_then (arguments_to close_parenthesis n reads b us) (λ es vs. got (whole (found_at line (call (fold_case x) es.tree) es.nodes)) vs))
    (got (assignable (found_at line (variable (fold_case x)) []) (to_variable (fold_case x))))
    ts

-- `$x` is x of #0
abbrev pub system_first : ℕ → ReadsExpression → Bool → ℕ → Found → List Placed → Read Operand
system_first n reads b line x ts = if_sign open_parenthesis (λ us. verb_of n reads b (system_at line) x ts) (got (property_of (system_at line) x)) ts

-- alone it stands in brackets only
abbrev pub dollar_alone : Bool → ℕ → List Placed → Read Operand
dollar_alone true line ts = got (whole (found_at line own_length [])) ts
dollar_alone false line ts = stuck ts

abbrev pub dollar_by : ℕ → ReadsExpression → Bool → ℕ → Token → ℕ → List Placed → List Placed → Read Operand
dollar_by n reads b line (word x) at rest all = system_first n reads b line (found_at at (literal (value.text x)) []) rest
dollar_by n reads b line k at rest all = dollar_alone b line all

abbrev pub dollar_first : ℕ → ReadsExpression → Bool → ℕ → List Placed → Read Operand
dollar_first n reads b line [] = dollar_alone b line []
dollar_first n reads b line (p ∷ ts) = dollar_by n reads b line p.token p.line ts (p ∷ ts)

-- ---- the first operand: a sign before it binds most tightly

abbrev pub signed : ReadsExpression → Bool → UnaryOperator → ℕ → List Placed → Read Operand
signed reads b u line ts = and_then (reads b 7 ts) (λ e us. got (whole (found_at line (unary u e.tree) e.nodes)) us)

abbrev pub with_steps : ℕ → ReadsExpression → Bool → Read Operand → Read Operand
with_steps n reads b r = and_then r (steps n reads b)

abbrev pub operand_by : ℕ → ReadsExpression → Bool → ℕ → Token → ℕ → List Placed → List Placed → Read Operand
operand_by n reads b k (sign minus_sign) line rest all = signed reads b negation line rest
operand_by n reads b k (sign not_sign) line rest all = signed reads b not_true line rest
operand_by n reads b k (integer m) line rest all = with_steps n reads b (literal_at line (value.integer (integer_value m)) rest)
operand_by n reads b k (object below m) line rest all = with_steps n reads b (literal_at line (value.object (object_value below m)) rest)
operand_by n reads b k (string t) line rest all = with_steps n reads b (literal_at line (value.text t) rest)
operand_by n reads b k (error_name e) line rest all = with_steps n reads b (literal_at line (value.error e) rest)
operand_by n reads b k (word x) line rest all = with_steps n reads b (word_first n reads b x line rest)
operand_by n reads b k (sign dollar) line rest all = with_steps n reads b (dollar_first n reads b line rest)
operand_by n reads b k (sign open_parenthesis) line rest all =
    with_steps n reads b (and_then (in_parentheses reads b line rest) (λ e us. got (whole e) us))
operand_by n reads b k (sign open_brace) line rest all = with_steps n reads b (in_braces n reads b k line rest)
operand_by n reads b k (sign backquote) line rest all = with_steps n reads b (in_backquotes n reads b line rest)
operand_by n reads b k t line rest all = stuck all

abbrev pub operand : ℕ → ReadsExpression → Bool → ℕ → List Placed → Read Operand
operand n reads b k [] = stuck []
operand n reads b k (p ∷ ts) = operand_by n reads b k p.token p.line ts (p ∷ ts)

-- ---- operators

pub data Joint : Type 0 where
  operator : BinaryOperator → Joint
  and_joint or_joint question_joint no_joint : Joint

abbrev pub joint : Token → Joint
joint (sign plus_sign) = operator plus
joint (sign minus_sign) = operator minus
joint (sign times_sign) = operator times
joint (sign slash) = operator divided_by
joint (sign percent) = operator remainder_by
joint (sign caret) = operator to_the
joint (sign equal) = operator equals
joint (sign differs_sign) = operator differs
joint (sign less_sign) = operator less
joint (sign less_equal) = operator less_or_equal
joint (sign greater_sign) = operator greater
joint (sign greater_equal) = operator greater_or_equal
joint (keyword in_word) = operator is_in
joint (sign and_sign) = and_joint
joint (sign or_sign) = or_joint
joint (sign question) = question_joint
joint k = no_joint

abbrev pub if_tight : Bool → (List Placed → Read Found) → (List Placed → Read Found) → List Placed → List Placed → Read Found
if_tight true joins done rest all = joins rest
if_tight false joins done rest all = done all

abbrev pub Continues : Type 0
Continues = Found → List Placed → Read Found

abbrev pub joined : ReadsExpression → Bool → Continues → Found → ℕ → (Expr → Expr → Expr) → List Placed → Read Found
joined reads b more a right f ts = and_then (reads b right ts) (λ c us. more (found_at a.line (f a.tree c.tree) (a.nodes ++ c.nodes)) us)

abbrev pub chosen_between : ReadsExpression → Bool → Continues → Found → List Placed → Read Found
chosen_between reads b more c ts =
    and_then (reads b 0 ts) (λ x us. past_sign bar us (λ vs. and_then (reads b 1 vs) (λ y ws.
    more (found_at c.line (conditional c.tree x.tree y.tree) (c.nodes ++ (x.nodes ++ y.nodes))) ws)))

-- an operator that binds at least as tightly as is wanted
abbrev pub join_by : ReadsExpression → Bool → Continues → ℕ → Found → Joint → List Placed → List Placed → Read Found
join_by reads b more k a (operator op) rest all = if_tight (nat_le k (operator_level op)) (joined reads b more a (right_level op) (binary op)) (got a) rest all
join_by reads b more k a and_joint rest all = if_tight (nat_le k 2) (joined reads b more a 3 both) (got a) rest all
join_by reads b more k a or_joint rest all = if_tight (nat_le k 2) (joined reads b more a 3 either) (got a) rest all
join_by reads b more k a question_joint rest all = if_tight (nat_le k 1) (chosen_between reads b more a) (got a) rest all
join_by reads b more k a no_joint rest all = got a all

abbrev pub join_next : ReadsExpression → Bool → Continues → ℕ → Found → List Placed → Read Found
join_next reads b more k a [] = got a []
join_next reads b more k a (p ∷ ts) = join_by reads b more k a (joint p.token) ts (p ∷ ts)

unfoldable pub operators : ℕ → ReadsExpression → Bool → ℕ → Found → List Placed → Read Found
operators zero reads b k a ts = stuck ts
operators (suc n) reads b k a ts = join_next reads b (operators n reads b k) k a ts

-- ---- assignments: behind a target or a scatter, where any expression may stand

abbrev pub assigned : ReadsExpression → Bool → Found → Target → List Placed → Read Found
assigned reads b a t ts = and_then (reads b 0 ts) (λ e us. got (found_at a.line (assignment t e.tree) (a.nodes ++ e.nodes)) us)

abbrev pub scattered : ReadsExpression → Bool → ℕ → Items → List Node → List Placed → Read Found
scattered reads b line items ns ts = and_then (reads b 0 ts) (λ e us. got (found_at line (scatter items e.tree) (ns ++ e.nodes)) us)

abbrev pub if_any_level : ℕ → (List Placed → Read Found) → (List Placed → Read Found) → List Placed → Read Found
if_any_level zero there absent ts = if_sign assign there absent ts
if_any_level (suc k) there absent ts = absent ts

abbrev pub target_or_value : ReadsExpression → Bool → ℕ → Found → Option Target → (List Placed → Read Found) → List Placed → Read Found
target_or_value reads b k a None more ts = more ts
target_or_value reads b k a (Some t) more ts = if_any_level k (assigned reads b a t) more ts

abbrev pub braces_or_value : ReadsExpression → Bool → ℕ → Operand → Braces → (List Placed → Read Found) → List Placed → Read Found
braces_or_value reads b k o no_braces more ts = target_or_value reads b k o.found o.target more ts
braces_or_value reads b k o (perhaps_scatter items ns) more ts = if_any_level k (scattered reads b o.found.line items ns) more ts
braces_or_value reads b k o (surely_scatter items ns) more ts = if_any_level k (scattered reads b o.found.line items ns) stuck ts

-- a token `=` behind anything else fits nothing
abbrev pub expression_with : ℕ → ReadsExpression → ReadsExpression
expression_with n reads b k ts =
    and_then (operand n reads b k ts) (λ o us. braces_or_value reads b k o o.braces (operators n reads b k o.found) us)

unfoldable pub expression : ℕ → ReadsExpression
expression zero b k ts = stuck ts
expression (suc n) b k ts = expression_with n (expression n) b k ts
