-- Statements and programs as they are read (Programmer's Manual, "MOO Language Statements"), and what is wrong with a text that is no program.
use Rattle.std.specs.Prelude.{ℕ, zero, suc, nat_lt, Bool, true, false, ◌||◌, List, [], ◌∷◌, ◌++◌, map, filter, not, length, Option, Some, None, if◌then◌else◌, codes}
use Rattle.std.specs.Fmt.{decimal}
use Rattle.spec_value.specs.Datum.{Text, fold_case, same_text}
use Rattle.spec_program.specs.Tree.{Statement, evaluate, give, give_zero, branch, for_each, for_range, repeat, fork, guarded, finished, leave_loop, next_turn, Program, the_end, seq, Branches, no_branches, on, Otherwise, no_else, else_do, Arms, no_arms, except}
use Rattle.spec_program.specs.Tokens.{FaultKind, character, unclosed, token, nesting, number, loop_name, Keyword, Token, word, keyword, sign, bad, Placed, tokens_of, if_word, else_word, elseif_word, endif_word, for_word, in_word, endfor_word, while_word, endwhile_word, break_word, continue_word, return_word, fork_word, endfork_word, try_word, except_word, finally_word, endtry_word, open_parenthesis, close_parenthesis, open_bracket, close_bracket, open_brace, semicolon, double_dot, not_sign, minus_sign, dollar, backquote}
use Rattle.spec_program.specs.Reading.{Read, got, stuck, and_then, if_sign, if_keyword, past_sign, past_keyword, past_word, line_of, Node, under}
use Rattle.spec_program.specs.ReadExpressions.{Found, ReadsExpression, expression, FoundCodes, error_codes}

-- ---- `break` and `continue` that no loop around has taken so far

-- one in the body of a fork is taken by no loop outside of it
pub record Stray : Type 0 where
  pub line : ℕ
  pub name : Option Text
  pub cut_off : Bool

abbrev pub same_name : Option Text → Option Text → Bool
same_name (Some x) (Some y) = same_text x y
same_name _ _ = false

abbrev pub names_none : Option Text → Bool
names_none None = true
names_none (Some x) = false

abbrev pub goes_out : Option Text → Stray → Bool
goes_out own s = s.cut_off || not (names_none s.name || same_name s.name own)

-- out of a loop of this name
abbrev pub out_of_loop : Option Text → List Stray → List Stray
out_of_loop own ss = filter (goes_out own) ss

abbrev pub cut : Stray → Stray
cut s = record s { cut_off = true }

-- ---- what is found

pub record FoundBlock : Type 0 where
  pub tree : Program
  pub nodes : List Node
  pub strays : List Stray

pub record FoundStatement : Type 0 where
  pub tree : Statement
  pub nodes : List Node
  pub strays : List Stray

abbrev pub ReadsBlock : Type 0
ReadsBlock = List Placed → Read FoundBlock

abbrev pub simple : ℕ → Statement → List Node → FoundStatement
simple line s ns = record { tree = s; nodes = under line ns; strays = [] }

abbrev pub stray : ℕ → Option Text → Statement → FoundStatement
stray line x s = record (simple line s []) { strays = record { line = line; name = x; cut_off = false } ∷ [] }

-- ---- parts of statements

abbrev pub any_expression : ReadsExpression → List Placed → Read Found
any_expression reads ts = reads false 0 ts

abbrev pub in_parentheses : ReadsExpression → List Placed → Read Found
in_parentheses reads ts = past_sign open_parenthesis ts (λ us. and_then (any_expression reads us) (λ e vs. past_sign close_parenthesis vs (got e)))

abbrev pub word_there : Token → List Placed → List Placed → Read (Option Text)
word_there (word x) rest all = got (Some (fold_case x)) rest
word_there k rest all = got None all

abbrev pub perhaps_word : List Placed → Read (Option Text)
perhaps_word [] = got None []
perhaps_word (p ∷ ts) = word_there p.token ts (p ∷ ts)

-- a condition and a block up to its end word
abbrev pub block_to : Keyword → ReadsBlock → List Placed → Read FoundBlock
block_to k blocks ts = and_then (blocks ts) (λ p us. past_keyword k us (got p))

-- ---- `if`

pub record FoundBranches : Type 0 where
  pub branches : Branches
  pub otherwise : Otherwise
  pub nodes : List Node
  pub strays : List Stray

abbrev pub with_branch : Found → FoundBlock → FoundBranches → FoundBranches
with_branch c p more =
    record { branches = on c.tree p.tree more.branches; otherwise = more.otherwise; nodes = c.nodes ++ (p.nodes ++ more.nodes); strays = p.strays ++ more.strays }

abbrev pub no_more_branches : FoundBranches
no_more_branches = record { branches = no_branches; otherwise = no_else; nodes = []; strays = [] }

abbrev pub else_block : FoundBlock → FoundBranches
else_block p = record { branches = no_branches; otherwise = else_do p.tree; nodes = p.nodes; strays = p.strays }

abbrev pub more_branches : ReadsBlock → (List Placed → Read FoundBranches) → List Placed → Read FoundBranches
more_branches blocks more ts =
    if_keyword elseif_word more
    (λ us. if_keyword else_word
    (λ vs. and_then (block_to endif_word blocks vs) (λ p ws. got (else_block p) ws))
    (λ vs. past_keyword endif_word vs (got no_more_branches))
    us)
    ts

abbrev pub and_branches : ReadsBlock → (List Placed → Read FoundBranches) → Found → FoundBlock → List Placed → Read FoundBranches
and_branches blocks more c p ts = and_then (more_branches blocks more ts) (λ b us. got (with_branch c p b) us)

abbrev pub one_branch : ReadsExpression → ReadsBlock → (List Placed → Read FoundBranches) → List Placed → Read FoundBranches
one_branch reads blocks more ts = and_then (in_parentheses reads ts) (λ c us. and_then (blocks us) (λ p vs. and_branches blocks more c p vs))

unfoldable pub branches : ℕ → ReadsExpression → ReadsBlock → List Placed → Read FoundBranches
branches zero reads blocks ts = stuck ts
branches (suc n) reads blocks ts = one_branch reads blocks (branches n reads blocks) ts

abbrev pub branch_of : ℕ → FoundBranches → FoundStatement
branch_of line b = record { tree = branch b.branches b.otherwise; nodes = under line b.nodes; strays = b.strays }

abbrev pub if_statement : ℕ → ReadsExpression → ReadsBlock → ℕ → List Placed → Read FoundStatement
if_statement n reads blocks line ts = and_then (branches n reads blocks ts) (λ b us. got (branch_of line b) us)

-- ---- loops

abbrev pub loop_of : ℕ → Option Text → Statement → List Node → FoundBlock → FoundStatement
loop_of line x s ns p = record { tree = s; nodes = under line (ns ++ p.nodes); strays = out_of_loop x p.strays }

abbrev pub over_range : ReadsExpression → ReadsBlock → ℕ → Text → List Placed → Read FoundStatement
over_range reads blocks line x ts =
    and_then (any_expression reads ts) (λ a us. past_sign double_dot us (λ vs. and_then (any_expression reads vs) (λ b ws.
    past_sign close_bracket ws (λ xs. and_then (block_to endfor_word blocks xs) (λ p ys.
    got (loop_of line (Some x) (for_range x a.tree b.tree p.tree) (a.nodes ++ b.nodes) p) ys)))))

abbrev pub over_list : ReadsExpression → ReadsBlock → ℕ → Text → List Placed → Read FoundStatement
over_list reads blocks line x ts =
    and_then (in_parentheses reads ts) (λ e us. and_then (block_to endfor_word blocks us) (λ p vs.
    got (loop_of line (Some x) (for_each x e.tree p.tree) e.nodes p) vs))

-- behind `for x in`, and behind `for x`
abbrev pub for_in : ReadsExpression → ReadsBlock → ℕ → Text → List Placed → Read FoundStatement
for_in reads blocks line x ts = if_sign open_bracket (over_range reads blocks line x) (over_list reads blocks line x) ts

abbrev pub for_named : ReadsExpression → ReadsBlock → ℕ → Text → List Placed → Read FoundStatement
for_named reads blocks line x ts = past_keyword in_word ts (for_in reads blocks line x)

abbrev pub for_statement : ReadsExpression → ReadsBlock → ℕ → List Placed → Read FoundStatement
for_statement reads blocks line ts = past_word ts (λ x at us. for_named reads blocks line (fold_case x) us)

-- behind `while` and its name
abbrev pub while_named : ReadsExpression → ReadsBlock → ℕ → Option Text → List Placed → Read FoundStatement
while_named reads blocks line x ts =
    and_then (in_parentheses reads ts) (λ c us. and_then (block_to endwhile_word blocks us) (λ p vs.
    got (loop_of line x (repeat x c.tree p.tree) c.nodes p) vs))

abbrev pub while_statement : ReadsExpression → ReadsBlock → ℕ → List Placed → Read FoundStatement
while_statement reads blocks line ts = and_then (perhaps_word ts) (while_named reads blocks line)

-- ---- `fork`

abbrev pub forked : ℕ → Option Text → Found → FoundBlock → FoundStatement
forked line x e p = record { tree = fork x e.tree p.tree; nodes = under line (e.nodes ++ p.nodes); strays = map cut p.strays }

-- behind `fork` and its name
abbrev pub fork_named : ReadsExpression → ReadsBlock → ℕ → Option Text → List Placed → Read FoundStatement
fork_named reads blocks line x ts =
    and_then (in_parentheses reads ts) (λ e us. and_then (block_to endfork_word blocks us) (λ p vs. got (forked line x e p) vs))

abbrev pub fork_statement : ReadsExpression → ReadsBlock → ℕ → List Placed → Read FoundStatement
fork_statement reads blocks line ts = and_then (perhaps_word ts) (fork_named reads blocks line)

-- ---- `try`

pub record FoundArms : Type 0 where
  pub tree : Arms
  pub nodes : List Node
  pub strays : List Stray

abbrev pub with_arm : Option Text → FoundCodes → FoundBlock → FoundArms → FoundArms
with_arm x c p more = record { tree = except x c.tree p.tree more.tree; nodes = c.nodes ++ (p.nodes ++ more.nodes); strays = p.strays ++ more.strays }

abbrev pub no_more_arms : FoundArms
no_more_arms = record { tree = no_arms; nodes = []; strays = [] }

abbrev pub more_arms : (List Placed → Read FoundArms) → List Placed → Read FoundArms
more_arms more ts = if_keyword except_word more (λ us. past_keyword endtry_word us (got no_more_arms)) ts

abbrev pub and_arms : (List Placed → Read FoundArms) → Option Text → FoundCodes → FoundBlock → List Placed → Read FoundArms
and_arms more x c p ts = and_then (more_arms more ts) (λ a us. got (with_arm x c p a) us)

-- behind `except` and its name
abbrev pub arm_named : ℕ → ReadsExpression → ReadsBlock → (List Placed → Read FoundArms) → Option Text → List Placed → Read FoundArms
arm_named n reads blocks more x ts =
    past_sign open_parenthesis ts (λ us. and_then (error_codes n reads false us) (λ c vs.
    past_sign close_parenthesis vs (λ ws. and_then (blocks ws) (λ p xs. and_arms more x c p xs))))

abbrev pub one_arm : ℕ → ReadsExpression → ReadsBlock → (List Placed → Read FoundArms) → List Placed → Read FoundArms
one_arm n reads blocks more ts = and_then (perhaps_word ts) (arm_named n reads blocks more)

unfoldable pub arms : ℕ → ReadsExpression → ReadsBlock → List Placed → Read FoundArms
arms zero reads blocks ts = stuck ts
arms (suc n) reads blocks ts = one_arm n reads blocks (arms n reads blocks) ts

abbrev pub finished_of : ℕ → FoundBlock → FoundBlock → FoundStatement
finished_of line p q = record { tree = finished p.tree q.tree; nodes = under line (p.nodes ++ q.nodes); strays = p.strays ++ q.strays }

abbrev pub finally_part : ReadsBlock → ℕ → FoundBlock → List Placed → Read FoundStatement
finally_part blocks line p ts = and_then (block_to endtry_word blocks ts) (λ q us. got (finished_of line p q) us)

abbrev pub guarded_of : ℕ → FoundBlock → FoundArms → FoundStatement
guarded_of line p a = record { tree = guarded p.tree a.tree; nodes = under line (p.nodes ++ a.nodes); strays = p.strays ++ a.strays }

abbrev pub handlers : ℕ → ReadsExpression → ReadsBlock → ℕ → FoundBlock → List Placed → Read FoundStatement
handlers n reads blocks line p ts = past_keyword except_word ts (λ us. and_then (arms n reads blocks us) (λ a vs. got (guarded_of line p a) vs))

abbrev pub try_statement : ℕ → ReadsExpression → ReadsBlock → ℕ → List Placed → Read FoundStatement
try_statement n reads blocks line ts =
    and_then (blocks ts) (λ p us. if_keyword finally_word (finally_part blocks line p) (handlers n reads blocks line p) us)

-- ---- simple statements

abbrev pub ended_by_semicolon : FoundStatement → List Placed → Read FoundStatement
ended_by_semicolon s ts = past_sign semicolon ts (got s)

abbrev pub leaving_statement : (Option Text → Statement) → ℕ → List Placed → Read FoundStatement
leaving_statement f line ts = and_then (perhaps_word ts) (λ x us. ended_by_semicolon (stray line x (f x)) us)

abbrev pub return_statement : ReadsExpression → ℕ → List Placed → Read FoundStatement
return_statement reads line ts =
    if_sign semicolon (got (simple line give_zero []))
    (λ us. and_then (any_expression reads us) (λ e vs. ended_by_semicolon (simple line (give e.tree) e.nodes) vs))
    ts

abbrev pub expression_statement : ReadsExpression → List Placed → Read FoundStatement
expression_statement reads ts = and_then (any_expression reads ts) (λ e us. ended_by_semicolon (simple (line_of ts) (evaluate e.tree) e.nodes) us)

-- ---- programs

abbrev pub and_block : FoundStatement → FoundBlock → FoundBlock
and_block s p = record { tree = seq s.tree p.tree; nodes = s.nodes ++ p.nodes; strays = s.strays ++ p.strays }

abbrev pub then_block : ReadsBlock → Read FoundStatement → Read FoundBlock
then_block blocks r = and_then r (λ s us. and_then (blocks us) (λ p vs. got (and_block s p) vs))

abbrev pub no_statements : FoundBlock
no_statements = record { tree = the_end; nodes = []; strays = [] }

abbrev pub by_keyword : ℕ → ReadsExpression → ReadsBlock → Keyword → ℕ → List Placed → List Placed → Read FoundBlock
by_keyword n reads blocks if_word line rest all = then_block blocks (if_statement n reads blocks line rest)
by_keyword n reads blocks for_word line rest all = then_block blocks (for_statement reads blocks line rest)
by_keyword n reads blocks while_word line rest all = then_block blocks (while_statement reads blocks line rest)
by_keyword n reads blocks fork_word line rest all = then_block blocks (fork_statement reads blocks line rest)
by_keyword n reads blocks try_word line rest all = then_block blocks (try_statement n reads blocks line rest)
by_keyword n reads blocks break_word line rest all = then_block blocks (leaving_statement leave_loop line rest)
by_keyword n reads blocks continue_word line rest all = then_block blocks (leaving_statement next_turn line rest)
by_keyword n reads blocks return_word line rest all = then_block blocks (return_statement reads line rest)
by_keyword n reads blocks k line rest all = got no_statements all

-- an empty statement leaves nothing; a token that begins no statement ends the program
abbrev pub by_token : ℕ → ReadsExpression → ReadsBlock → Token → ℕ → List Placed → List Placed → Read FoundBlock
by_token n reads blocks (keyword k) line rest all = by_keyword n reads blocks k line rest all
by_token n reads blocks (sign semicolon) line rest all = blocks rest
by_token n reads blocks (sign open_parenthesis) line rest all = then_block blocks (expression_statement reads all)
by_token n reads blocks (sign open_brace) line rest all = then_block blocks (expression_statement reads all)
by_token n reads blocks (sign dollar) line rest all = then_block blocks (expression_statement reads all)
by_token n reads blocks (sign backquote) line rest all = then_block blocks (expression_statement reads all)
by_token n reads blocks (sign minus_sign) line rest all = then_block blocks (expression_statement reads all)
by_token n reads blocks (sign not_sign) line rest all = then_block blocks (expression_statement reads all)
by_token n reads blocks (sign s) line rest all = got no_statements all
by_token n reads blocks (bad k) line rest all = got no_statements all
by_token n reads blocks k line rest all = then_block blocks (expression_statement reads all)

abbrev pub block_with : ℕ → ReadsBlock → List Placed → Read FoundBlock
block_with n blocks [] = got no_statements []
block_with n blocks (p ∷ ts) = by_token n (expression n) blocks p.token p.line ts (p ∷ ts)

unfoldable pub block : ℕ → List Placed → Read FoundBlock
block zero ts = stuck ts
block (suc n) ts = block_with n (block n) ts

-- ---- a whole text

pub record Fault : Type 0 where
  pub kind : FaultKind
  pub line : ℕ

pub data Parsed : Type 0 where
  program : Program → Parsed
  faulty : Fault → Parsed

abbrev pub at_fault : FaultKind → ℕ → Parsed
at_fault k line = faulty (record { kind = k; line = line })

-- a token of its own kind of fault, else one that fits nothing
abbrev pub kind_of : Token → FaultKind
kind_of (bad k) = k
kind_of t = token

abbrev pub last_line : List Placed → ℕ
last_line [] = 1
last_line (p ∷ []) = p.line
last_line (p ∷ q ∷ ts) = last_line (q ∷ ts)

-- the end of the text has the line of the last token
abbrev pub fault_at : List Placed → List Placed → Parsed
fault_at all [] = at_fault token (last_line all)
fault_at all (p ∷ ts) = at_fault (kind_of p.token) p.line

abbrev pub greatest_depth : ℕ
greatest_depth = 100

-- the first that is too deep
abbrev pub too_deep : List Node → Option ℕ
too_deep [] = None
too_deep (n ∷ ns) = if nat_lt greatest_depth n.depth then Some n.line else too_deep ns

abbrev pub tested_loops : FoundBlock → List Stray → Parsed
tested_loops p [] = program p.tree
tested_loops p (s ∷ ss) = at_fault loop_name s.line

abbrev pub tested : FoundBlock → Option ℕ → Parsed
tested p (Some line) = at_fault nesting line
tested p None = tested_loops p p.strays

abbrev pub parsed_by : List Placed → Read FoundBlock → Parsed
parsed_by all (stuck ts) = fault_at all ts
parsed_by all (got p []) = tested p (too_deep p.nodes)
parsed_by all (got p (q ∷ ts)) = fault_at all (q ∷ ts)

abbrev pub parsed_tokens : List Placed → Parsed
parsed_tokens ts = parsed_by ts (block (suc (suc (length ts))) ts)

-- the tree of a text, or its first fault
unfoldable pub parsed : Text → Parsed
parsed t = parsed_tokens (tokens_of t)

-- ---- as people read a fault

abbrev pub fault_name : FaultKind → Text
fault_name character = codes "Character"
fault_name unclosed = codes "Unclosed"
fault_name token = codes "Token"
fault_name nesting = codes "Nesting"
fault_name number = codes "Number"
fault_name loop_name = codes "Loop name"

abbrev pub fault_text : Fault → Text
fault_text f = codes "Line " ++ (decimal f.line ++ (codes ": " ++ fault_name f.kind))

-- lines to a text, each with its line end
abbrev pub joined_lines : List Text → Text
joined_lines [] = []
joined_lines (t ∷ ts) = t ++ (10 ∷ joined_lines ts)

abbrev pub parsed_lines : List Text → Parsed
parsed_lines ts = parsed (joined_lines ts)
