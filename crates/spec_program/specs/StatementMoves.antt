-- Moves over frames where statements are read: each token by itself, and what is read behind it.
use Rattle.std.specs.Prelude.{ℕ, suc, ◌<◌, ◌≡◌, Bool, true, false, List, [], ◌∷◌, length, Option, Some, None}
use Rattle.spec_value.specs.Datum.{Text, fold_case}
use Rattle.spec_program.specs.Tree.{Statement, leave_loop, next_turn, evaluate, give, give_zero}
use Rattle.spec_program.specs.Tokens as t
use Rattle.spec_program.specs.Tokens.{Sign, Keyword, Token, Placed}
use Rattle.spec_program.specs.Reading.{Read, got, stuck, and_then, is_sign, is_keyword}
use Rattle.spec_program.specs.ReadExpressions.{Found, FoundCodes, expression, error_codes}
use Rattle.spec_program.specs.ReadPrograms as by
use Rattle.spec_program.specs.ReadPrograms.{FoundBlock, FoundStatement, FoundBranches, FoundArms, branches, arms, block}
use Rattle.spec_program.specs.Frames as f
use Rattle.spec_program.specs.Frames.{a_statement, a_block, an_expression, some_branches_read, some_arms_read, Frames, Head, Body, push, resume, means}
use Rattle.spec_program.specs.Moves.{at, begins_with}

-- ---- what tokens begin with

abbrev pub is_word : Token → Bool
is_word (t.word x) = true
is_word k = false

abbrev pub begins_with_word : List Placed → Bool
begins_with_word [] = false
begins_with_word (p ∷ ts) = is_word p.token

abbrev pub begins_with_keyword : Keyword → List Placed → Bool
begins_with_keyword k [] = false
begins_with_keyword k (p ∷ ts) = is_keyword k p.token

-- with which an expression begins
abbrev pub begins_expression : Token → Bool
begins_expression (t.word x) = true
begins_expression (t.error_name e) = true
begins_expression (t.integer i) = true
begins_expression (t.object below i) = true
begins_expression (t.string x) = true
begins_expression (t.sign t.minus_sign) = true
begins_expression (t.sign t.not_sign) = true
begins_expression (t.sign t.open_parenthesis) = true
begins_expression (t.sign t.open_brace) = true
begins_expression (t.sign t.dollar) = true
begins_expression (t.sign t.backquote) = true
begins_expression k = false

-- and with which no statement does
abbrev pub ends_block : Token → Bool
ends_block (t.keyword t.if_word) = false
ends_block (t.keyword t.for_word) = false
ends_block (t.keyword t.while_word) = false
ends_block (t.keyword t.fork_word) = false
ends_block (t.keyword t.try_word) = false
ends_block (t.keyword t.break_word) = false
ends_block (t.keyword t.continue_word) = false
ends_block (t.keyword t.return_word) = false
ends_block (t.keyword k) = true
ends_block (t.sign t.semicolon) = false
ends_block (t.sign t.minus_sign) = false
ends_block (t.sign t.not_sign) = false
ends_block (t.sign t.open_parenthesis) = false
ends_block (t.sign t.open_brace) = false
ends_block (t.sign t.dollar) = false
ends_block (t.sign t.backquote) = false
ends_block (t.sign s) = true
ends_block (t.bad k) = true
ends_block k = false

-- ---- a block

pub record BlockMoves (n line : ℕ) (ts : List Placed) (fs : Frames a_block) : Type 0 where
  pub nothing : means n fs (block n (at line (t.sign t.semicolon) ∷ ts)) ≡ means n fs (block n ts)
  pub evaluated :
      (k : Token) → begins_expression k ≡ true
      → means n fs (block n (at line k ∷ ts)) ≡ means n (push (f.evaluated line) (push f.block_behind fs)) (expression n false 0 (at line k ∷ ts))
  pub branched :
      means n fs (block n (at line (t.keyword t.if_word) ∷ ts))
      ≡ means n (push (f.branches_of line) (push f.block_behind fs)) (branches n (expression n) (block n) ts)
  pub repeated_for :
      means n fs (block n (at line (t.keyword t.for_word) ∷ ts)) ≡ means n (push f.block_behind fs) (by.for_statement (expression n) (block n) line ts)
  pub repeated_while :
      means n fs (block n (at line (t.keyword t.while_word) ∷ ts)) ≡ means n (push f.block_behind fs) (by.while_statement (expression n) (block n) line ts)
  pub forked :
      means n fs (block n (at line (t.keyword t.fork_word) ∷ ts)) ≡ means n (push f.block_behind fs) (by.fork_statement (expression n) (block n) line ts)
  pub tried :
      means n fs (block n (at line (t.keyword t.try_word) ∷ ts)) ≡ means n (push (f.tried line) (push f.block_behind fs)) (block n ts)
  pub left :
      means n fs (block n (at line (t.keyword t.break_word) ∷ ts)) ≡ means n (push f.block_behind fs) (by.leaving_statement leave_loop line ts)
  pub next :
      means n fs (block n (at line (t.keyword t.continue_word) ∷ ts)) ≡ means n (push f.block_behind fs) (by.leaving_statement next_turn line ts)
  pub returned :
      means n fs (block n (at line (t.keyword t.return_word) ∷ ts)) ≡ means n (push f.block_behind fs) (by.return_statement (expression n) line ts)
  pub ended :
      (k : Token) → ends_block k ≡ true → means n fs (block n (at line k ∷ ts)) ≡ means n fs (got by.no_statements (at line k ∷ ts))

abbrev pub BlockMovesHold : Type 0
BlockMovesHold = (n line : ℕ) (ts : List Placed) (fs : Frames a_block) → suc (suc (length ts)) < n → BlockMoves n line ts fs

-- at the end of the tokens, and behind a statement and the block behind it
pub record BlockEnds (n : ℕ) (fs : Frames a_block) : Type 0 where
  pub nothing_left : 1 < n → means n fs (block n []) ≡ means n fs (got by.no_statements [])
  pub another :
      (s : FoundStatement) (ts : List Placed)
      → means n (push f.block_behind fs) (got s ts) ≡ means n (push (f.statement_before s) fs) (block n ts)
  pub joined :
      (s : FoundStatement) (p : FoundBlock) (ts : List Placed)
      → means n (push (f.statement_before s) fs) (got p ts) ≡ means n fs (got (by.and_block s p) ts)
  pub ended :
      (k : Keyword) (b : FoundBlock) (p : Placed) (ts : List Placed) → is_keyword k p.token ≡ true
      → means n (push (f.to_word k) fs) (got b (p ∷ ts)) ≡ means n fs (got b ts)
  pub not_ended :
      (k : Keyword) (b : FoundBlock) (ts : List Placed) → begins_with_keyword k ts ≡ false → means n (push (f.to_word k) fs) (got b ts) ≡ stuck ts

abbrev pub BlockEndsHold : Type 0
BlockEndsHold = (n : ℕ) (fs : Frames a_block) → BlockEnds n fs

-- ---- simple statements

pub record SimpleMoves (n line : ℕ) (fs : Frames a_statement) : Type 0 where
  pub evaluated :
      (e : Found) (ts : List Placed)
      → means n (push (f.evaluated line) fs) (got e ts) ≡ means n fs (by.ended_by_semicolon (by.simple line (evaluate e.tree) e.nodes) ts)
  pub returned :
      (e : Found) (ts : List Placed)
      → means n (push (f.returned line) fs) (got e ts) ≡ means n fs (by.ended_by_semicolon (by.simple line (give e.tree) e.nodes) ts)
  pub ended :
      (s : FoundStatement) (p : Placed) (ts : List Placed) → is_sign t.semicolon p.token ≡ true
      → means n fs (by.ended_by_semicolon s (p ∷ ts)) ≡ means n fs (got s ts)
  pub not_ended :
      (s : FoundStatement) (ts : List Placed) → begins_with t.semicolon ts ≡ false → means n fs (by.ended_by_semicolon s ts) ≡ stuck ts
  pub return_zero :
      (p : Placed) (ts : List Placed) → is_sign t.semicolon p.token ≡ true
      → means n fs (by.return_statement (expression n) line (p ∷ ts)) ≡ means n fs (got (by.simple line give_zero []) ts)
  pub return_value :
      (ts : List Placed) → begins_with t.semicolon ts ≡ false
      → means n fs (by.return_statement (expression n) line ts) ≡ means n (push (f.returned line) fs) (expression n false 0 ts)
  pub leaves_named :
      (g : Option Text → Statement) (l : ℕ) (x : Text) (ts : List Placed)
      → means n fs (by.leaving_statement g line (at l (t.word x) ∷ ts))
      ≡ means n fs (by.ended_by_semicolon (by.stray line (Some (fold_case x)) (g (Some (fold_case x)))) ts)
  pub leaves :
      (g : Option Text → Statement) (ts : List Placed) → begins_with_word ts ≡ false
      → means n fs (by.leaving_statement g line ts) ≡ means n fs (by.ended_by_semicolon (by.stray line None (g None)) ts)

abbrev pub SimpleMovesHold : Type 0
SimpleMovesHold = (n line : ℕ) (fs : Frames a_statement) → SimpleMoves n line fs

-- ---- loops and `fork`

-- the expression of a head in its parentheses, and then the body
abbrev pub head_read : ℕ → ℕ → Head → List Placed → Read FoundStatement
head_read n line h ts = and_then (by.in_parentheses (expression n) ts) (resume n (f.head_of line h))

pub record HeadMoves (n line : ℕ) (fs : Frames a_statement) : Type 0 where
  pub for_word :
      (l : ℕ) (x : Text) (ts : List Placed)
      → means n fs (by.for_statement (expression n) (block n) line (at l (t.word x) ∷ ts))
      ≡ means n fs (by.for_named (expression n) (block n) line (fold_case x) ts)
  pub for_no_word :
      (ts : List Placed) → begins_with_word ts ≡ false → means n fs (by.for_statement (expression n) (block n) line ts) ≡ stuck ts
  pub for_in :
      (x : Text) (p : Placed) (ts : List Placed) → is_keyword t.in_word p.token ≡ true
      → means n fs (by.for_named (expression n) (block n) line x (p ∷ ts)) ≡ means n fs (by.for_in (expression n) (block n) line x ts)
  pub for_not_in :
      (x : Text) (ts : List Placed) → begins_with_keyword t.in_word ts ≡ false → means n fs (by.for_named (expression n) (block n) line x ts) ≡ stuck ts
  pub for_range :
      (x : Text) (p : Placed) (ts : List Placed) → is_sign t.open_bracket p.token ≡ true
      → means n fs (by.for_in (expression n) (block n) line x (p ∷ ts)) ≡ means n (push (f.range_first line x) fs) (expression n false 0 ts)
  pub for_list :
      (x : Text) (ts : List Placed) → begins_with t.open_bracket ts ≡ false
      → means n fs (by.for_in (expression n) (block n) line x ts) ≡ means n fs (head_read n line (f.for_head x) ts)
  pub while_named :
      (l : ℕ) (x : Text) (ts : List Placed)
      → means n fs (by.while_statement (expression n) (block n) line (at l (t.word x) ∷ ts))
      ≡ means n fs (head_read n line (f.while_head (Some (fold_case x))) ts)
  pub while :
      (ts : List Placed) → begins_with_word ts ≡ false
      → means n fs (by.while_statement (expression n) (block n) line ts) ≡ means n fs (head_read n line (f.while_head None) ts)
  pub fork_named :
      (l : ℕ) (x : Text) (ts : List Placed)
      → means n fs (by.fork_statement (expression n) (block n) line (at l (t.word x) ∷ ts))
      ≡ means n fs (head_read n line (f.fork_head (Some (fold_case x))) ts)
  pub fork :
      (ts : List Placed) → begins_with_word ts ≡ false
      → means n fs (by.fork_statement (expression n) (block n) line ts) ≡ means n fs (head_read n line (f.fork_head None) ts)
  pub opened :
      (h : Head) (p : Placed) (ts : List Placed) → is_sign t.open_parenthesis p.token ≡ true
      → means n fs (head_read n line h (p ∷ ts)) ≡ means n (push f.in_head (push (f.head_of line h) fs)) (expression n false 0 ts)
  pub not_opened :
      (h : Head) (ts : List Placed) → begins_with t.open_parenthesis ts ≡ false → means n fs (head_read n line h ts) ≡ stuck ts
  pub body :
      (h : Head) (e : Found) (ts : List Placed)
      → means n (push (f.head_of line h) fs) (got e ts)
      ≡ means n (push (f.to_word (f.end_word (f.body_of h e))) (push (f.block_of_body line (f.body_of h e)) fs)) (block n ts)
  pub whole :
      (b : Body) (p : FoundBlock) (ts : List Placed)
      → means n (push (f.block_of_body line b) fs) (got p ts) ≡ means n fs (got (f.with_body line b p) ts)

abbrev pub HeadMovesHold : Type 0
HeadMovesHold = (n line : ℕ) (fs : Frames a_statement) → HeadMoves n line fs

-- the parenthesis that closes a head, and what stands in the brackets of a range
pub record HeadEnds (n : ℕ) (p : Placed) (ts : List Placed) : Type 0 where
  pub closed :
      (e : Found) (fs : Frames an_expression) → is_sign t.close_parenthesis p.token ≡ true
      → means n (push f.in_head fs) (got e (p ∷ ts)) ≡ means n fs (got e ts)
  pub dots :
      (line : ℕ) (x : Text) (a : Found) (fs : Frames a_statement) → is_sign t.double_dot p.token ≡ true
      → means n (push (f.range_first line x) fs) (got a (p ∷ ts)) ≡ means n (push (f.range_last line x a) fs) (expression n false 0 ts)
  pub bracket :
      (line : ℕ) (x : Text) (a b : Found) (fs : Frames a_statement) → is_sign t.close_bracket p.token ≡ true
      → means n (push (f.range_last line x a) fs) (got b (p ∷ ts))
      ≡ means n (push (f.to_word t.endfor_word) (push (f.block_of_body line (f.range_body x a b)) fs)) (block n ts)

abbrev pub HeadEndsHold : Type 0
HeadEndsHold = (n : ℕ) (p : Placed) (ts : List Placed) → HeadEnds n p ts

-- where another token stands, or none
pub record HeadFaults (n : ℕ) (ts : List Placed) : Type 0 where
  pub not_closed :
      (e : Found) (fs : Frames an_expression) → begins_with t.close_parenthesis ts ≡ false → means n (push f.in_head fs) (got e ts) ≡ stuck ts
  pub no_dots :
      (line : ℕ) (x : Text) (a : Found) (fs : Frames a_statement) → begins_with t.double_dot ts ≡ false
      → means n (push (f.range_first line x) fs) (got a ts) ≡ stuck ts
  pub no_bracket :
      (line : ℕ) (x : Text) (a b : Found) (fs : Frames a_statement) → begins_with t.close_bracket ts ≡ false
      → means n (push (f.range_last line x a) fs) (got b ts) ≡ stuck ts

abbrev pub HeadFaultsHold : Type 0
HeadFaultsHold = (n : ℕ) (ts : List Placed) → HeadFaults n ts

-- ---- `if`

pub record BranchMoves (n : ℕ) (fs : Frames some_branches_read) : Type 0 where
  pub opened :
      (p : Placed) (ts : List Placed) → suc (suc (length ts)) < n → is_sign t.open_parenthesis p.token ≡ true
      → means n fs (branches n (expression n) (block n) (p ∷ ts)) ≡ means n (push f.in_head (push f.condition fs)) (expression n false 0 ts)
  pub not_opened :
      (ts : List Placed) → suc (length ts) < n → begins_with t.open_parenthesis ts ≡ false
      → means n fs (branches n (expression n) (block n) ts) ≡ stuck ts
  pub block_follows :
      (c : Found) (ts : List Placed) → means n (push f.condition fs) (got c ts) ≡ means n (push (f.block_of_branch c) fs) (block n ts)
  pub another :
      (c : Found) (b : FoundBlock) (p : Placed) (ts : List Placed) → is_keyword t.elseif_word p.token ≡ true
      → means n (push (f.block_of_branch c) fs) (got b (p ∷ ts)) ≡ means n (push (f.branch_before c b) fs) (branches n (expression n) (block n) ts)
  pub otherwise :
      (c : Found) (b : FoundBlock) (p : Placed) (ts : List Placed) → is_keyword t.elseif_word p.token ≡ false → is_keyword t.else_word p.token ≡ true
      → means n (push (f.block_of_branch c) fs) (got b (p ∷ ts))
      ≡ means n (push (f.to_word t.endif_word) (push f.as_else (push (f.branch_before c b) fs))) (block n ts)
  pub last :
      (c : Found) (b : FoundBlock) (p : Placed) (ts : List Placed)
      → is_keyword t.elseif_word p.token ≡ false → is_keyword t.else_word p.token ≡ false → is_keyword t.endif_word p.token ≡ true
      → means n (push (f.block_of_branch c) fs) (got b (p ∷ ts)) ≡ means n fs (got (by.with_branch c b by.no_more_branches) ts)
  pub not_ended :
      (c : Found) (b : FoundBlock) (ts : List Placed)
      → begins_with_keyword t.elseif_word ts ≡ false → begins_with_keyword t.else_word ts ≡ false → begins_with_keyword t.endif_word ts ≡ false
      → means n (push (f.block_of_branch c) fs) (got b ts) ≡ stuck ts
  pub else_whole : (b : FoundBlock) (ts : List Placed) → means n (push f.as_else fs) (got b ts) ≡ means n fs (got (by.else_block b) ts)
  pub joined :
      (c : Found) (b : FoundBlock) (r : FoundBranches) (ts : List Placed)
      → means n (push (f.branch_before c b) fs) (got r ts) ≡ means n fs (got (by.with_branch c b r) ts)

abbrev pub BranchMovesHold : Type 0
BranchMovesHold = (n : ℕ) (fs : Frames some_branches_read) → BranchMoves n fs

-- ---- `try`

pub record ArmMoves (n : ℕ) (fs : Frames some_arms_read) : Type 0 where
  pub named :
      (l : ℕ) (x : Text) (ts : List Placed) → suc (suc (length ts)) < n
      → means n fs (arms n (expression n) (block n) (at l (t.word x) ∷ ts))
      ≡ means n fs (by.arm_named n (expression n) (block n) (arms n (expression n) (block n)) (Some (fold_case x)) ts)
  pub unnamed :
      (ts : List Placed) → suc (length ts) < n → begins_with_word ts ≡ false
      → means n fs (arms n (expression n) (block n) ts)
      ≡ means n fs (by.arm_named n (expression n) (block n) (arms n (expression n) (block n)) None ts)
  pub opened :
      (x : Option Text) (p : Placed) (ts : List Placed) → is_sign t.open_parenthesis p.token ≡ true
      → means n fs (by.arm_named n (expression n) (block n) (arms n (expression n) (block n)) x (p ∷ ts))
      ≡ means n (push (f.codes_of_arm x) fs) (error_codes n (expression n) false ts)
  pub not_opened :
      (x : Option Text) (ts : List Placed) → begins_with t.open_parenthesis ts ≡ false
      → means n fs (by.arm_named n (expression n) (block n) (arms n (expression n) (block n)) x ts) ≡ stuck ts
  pub closed :
      (x : Option Text) (c : FoundCodes) (p : Placed) (ts : List Placed) → is_sign t.close_parenthesis p.token ≡ true
      → means n (push (f.codes_of_arm x) fs) (got c (p ∷ ts)) ≡ means n (push (f.block_of_arm x c) fs) (block n ts)
  pub not_closed :
      (x : Option Text) (c : FoundCodes) (ts : List Placed) → begins_with t.close_parenthesis ts ≡ false
      → means n (push (f.codes_of_arm x) fs) (got c ts) ≡ stuck ts
  pub another :
      (x : Option Text) (c : FoundCodes) (b : FoundBlock) (p : Placed) (ts : List Placed) → is_keyword t.except_word p.token ≡ true
      → means n (push (f.block_of_arm x c) fs) (got b (p ∷ ts)) ≡ means n (push (f.arm_before x c b) fs) (arms n (expression n) (block n) ts)
  pub last :
      (x : Option Text) (c : FoundCodes) (b : FoundBlock) (p : Placed) (ts : List Placed)
      → is_keyword t.except_word p.token ≡ false → is_keyword t.endtry_word p.token ≡ true
      → means n (push (f.block_of_arm x c) fs) (got b (p ∷ ts)) ≡ means n fs (got (by.with_arm x c b by.no_more_arms) ts)
  pub not_ended :
      (x : Option Text) (c : FoundCodes) (b : FoundBlock) (ts : List Placed)
      → begins_with_keyword t.except_word ts ≡ false → begins_with_keyword t.endtry_word ts ≡ false
      → means n (push (f.block_of_arm x c) fs) (got b ts) ≡ stuck ts
  pub joined :
      (x : Option Text) (c : FoundCodes) (b : FoundBlock) (r : FoundArms) (ts : List Placed)
      → means n (push (f.arm_before x c b) fs) (got r ts) ≡ means n fs (got (by.with_arm x c b r) ts)

abbrev pub ArmMovesHold : Type 0
ArmMovesHold = (n : ℕ) (fs : Frames some_arms_read) → ArmMoves n fs

-- behind the block of a `try`, and what makes statements of these parts and of branches
pub record TryMoves (n line : ℕ) (b : FoundBlock) (fs : Frames a_statement) : Type 0 where
  pub finally :
      (p : Placed) (ts : List Placed) → is_keyword t.finally_word p.token ≡ true
      → means n (push (f.tried line) fs) (got b (p ∷ ts)) ≡ means n (push (f.to_word t.endtry_word) (push (f.finally_of line b) fs)) (block n ts)
  pub except :
      (p : Placed) (ts : List Placed) → is_keyword t.finally_word p.token ≡ false → is_keyword t.except_word p.token ≡ true
      → means n (push (f.tried line) fs) (got b (p ∷ ts)) ≡ means n (push (f.arms_of line b) fs) (arms n (expression n) (block n) ts)
  pub neither :
      (ts : List Placed) → begins_with_keyword t.finally_word ts ≡ false → begins_with_keyword t.except_word ts ≡ false
      → means n (push (f.tried line) fs) (got b ts) ≡ stuck ts
  pub finished :
      (q : FoundBlock) (ts : List Placed) → means n (push (f.finally_of line b) fs) (got q ts) ≡ means n fs (got (by.finished_of line b q) ts)
  pub guarded :
      (a : FoundArms) (ts : List Placed) → means n (push (f.arms_of line b) fs) (got a ts) ≡ means n fs (got (by.guarded_of line b a) ts)
  pub branched :
      (r : FoundBranches) (ts : List Placed) → means n (push (f.branches_of line) fs) (got r ts) ≡ means n fs (got (by.branch_of line r) ts)

abbrev pub TryMovesHold : Type 0
TryMovesHold = (n line : ℕ) (b : FoundBlock) (fs : Frames a_statement) → TryMoves n line b fs
