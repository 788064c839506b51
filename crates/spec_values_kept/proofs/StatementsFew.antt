-- Statements and programs that are read have no more nodes than twice their tokens.
use Rattle.std.proofs.Common.{◌≤◌, ◌+◌, ℕ, zero, suc, false, List, [], ◌∷◌, ◌++◌, Option, Some, None, arith}
use Rattle.spec_value.specs.Datum.{Text, fold_case}
use Rattle.spec_program.specs.Tree.{Statement, evaluate, give, give_zero, for_each, for_range, repeat, leave_loop, next_turn}
use Rattle.spec_program.specs.Tokens.{Token, Keyword, if_word, else_word, elseif_word, endif_word, for_word, in_word, endfor_word, while_word, endwhile_word, break_word, continue_word, return_word, fork_word, endfork_word, try_word, except_word, finally_word, endtry_word, word, keyword, sign, bad, Placed, semicolon, open_parenthesis, close_parenthesis, open_bracket, close_bracket, open_brace, double_dot, dollar, backquote, minus_sign, not_sign}
use Rattle.spec_program.specs.Reading.{Read, got, and_then, is_sign, is_keyword, if_keyword, past_sign, past_keyword, line_of}
use Rattle.spec_program.specs.ReadExpressions.{Found, ReadsExpression, error_codes, expression}
use Rattle.spec_program.specs.ReadPrograms.{FoundBlock, FoundStatement, ReadsBlock, simple, stray, any_expression, in_parentheses, word_there, perhaps_word, block_to, FoundBranches, with_branch, no_more_branches, else_block, more_branches, one_branch, branches, branch_of, if_statement, loop_of, over_range, over_list, for_statement, while_statement, forked, fork_statement, FoundArms, with_arm, no_more_arms, more_arms, one_arm, arms, finished_of, finally_part, guarded_of, handlers, try_statement, ended_by_semicolon, leaving_statement, return_statement, expression_statement, and_block, then_block, no_statements, by_keyword, by_token, block_with, block}
use Rattle.spec_values_kept.specs.Nodes.{expr_nodes, statement_nodes, program_nodes, branches_nodes, otherwise_nodes, arms_nodes}
use Rattle.spec_values_kept.proofs.ReadFew.{worth, Spends, found, none, after, wider, either_way, past, worded}
use Rattle.spec_values_kept.proofs.ExpressionsFew.{FoundFew, ReadsFew, CodesFew, codes_read, expressions_few}

abbrev pub BlockFew : ℕ → FoundBlock → Type 0
BlockFew k p = program_nodes p.tree ≤ k

abbrev StatementFew : ℕ → FoundStatement → Type 0
StatementFew k s = statement_nodes s.tree ≤ k

abbrev NameFew : ℕ → Option Text → Type 0
NameFew k x = Unit {0}

abbrev BranchesFew : ℕ → FoundBranches → Type 0
BranchesFew k f = branches_nodes f.branches + otherwise_nodes f.otherwise ≤ k

abbrev ArmsFew : ℕ → FoundArms → Type 0
ArmsFew k f = arms_nodes f.tree ≤ k

abbrev pub BlocksRead : ReadsBlock → Type 0
BlocksRead blocks = (ts : List Placed) → Spends BlockFew (worth ts) (blocks ts)

same : (n : ℕ) → n ≤ n
same n = omega arith

name_read : (m : ℕ) (ts : List Placed) → worth ts ≤ m → Spends NameFew m (perhaps_word ts)
name_read m [] l = found NameFew m 0 None [] (omega (arith, l)) tt
name_read m (p ∷ ts) l = go p.token
  where
    go : (t : Token) → Spends NameFew m (word_there t ts (p ∷ ts))
    go (word x) = found NameFew m 0 (Some (fold_case x)) ts (omega (arith, l)) tt
    go t = found NameFew m 0 None (p ∷ ts) (omega (arith, l)) tt

-- with expressions and blocks that are read so
module _ (n : ℕ) (reads : ReadsExpression) (each : ReadsFew reads) (blocks : ReadsBlock) (later : BlocksRead blocks) where
  -- its parentheses are two tokens
  abbrev Conditions : ℕ → Found → Type 0
  Conditions k e = expr_nodes e.tree + 4 ≤ k

  condition_few : (m : ℕ) (ts : List Placed) → worth ts ≤ m → Spends Conditions m (in_parentheses reads ts)
  condition_few m ts l =
      past Conditions m (is_sign open_parenthesis) (λ us. and_then (any_expression reads us) (λ e vs. past_sign close_parenthesis vs (got e))) ts (λ us a.
      after FoundFew Conditions (worth us) m (reads false 0 us) _ (each false 0 us) (λ i e vs c h.
      past Conditions m (is_sign close_parenthesis) (got e) vs (λ ws d. found Conditions m (i + 4) e ws (omega (arith, l, a, c, d)) (omega (arith, h)))))

  -- its last word is one
  abbrev Closed : ℕ → FoundBlock → Type 0
  Closed k p = program_nodes p.tree + 2 ≤ k

  block_few_to : (k : Keyword) (m : ℕ) (ts : List Placed) → worth ts ≤ m → Spends Closed m (block_to k blocks ts)
  block_few_to k m ts l =
      after BlockFew Closed (worth ts) m (blocks ts) _ (later ts) (λ i p us a h.
      past Closed m (is_keyword k) (got p) us (λ vs c. found Closed m (i + 2) p vs (omega (arith, l, a, c)) (omega (arith, h))))

  -- ---- `if`

  abbrev BranchesRead : (List Placed → Read FoundBranches) → Type 0
  BranchesRead more = (ts : List Placed) → Spends BranchesFew (worth ts) (more ts)

  more_branches_few : (more : List Placed → Read FoundBranches) → BranchesRead more → BranchesRead (more_branches blocks more)
  more_branches_few more rest ts =
      either_way BranchesFew (worth ts) (is_keyword elseif_word) more
      (λ us. if_keyword else_word
      (λ vs. and_then (block_to endif_word blocks vs) (λ p ws. got (else_block p) ws))
      (λ vs. past_keyword endif_word vs (got no_more_branches))
      us)
      ts
      (λ us a. wider BranchesFew (worth us) (worth ts) (more us) (omega (arith, a)) (rest us))
      (λ us a. either_way BranchesFew (worth ts) (is_keyword else_word)
      (λ vs. and_then (block_to endif_word blocks vs) (λ p ws. got (else_block p) ws))
      (λ vs. past_keyword endif_word vs (got no_more_branches))
      us
      (λ vs c. after Closed BranchesFew (worth vs) (worth ts) (block_to endif_word blocks vs) _ (block_few_to endif_word (worth vs) vs (same (worth vs))) (λ i p ws d h.
      found BranchesFew (worth ts) i (else_block p) ws (omega (arith, a, c, d)) (omega (arith, h))))
      (λ vs c. past BranchesFew (worth ts) (is_keyword endif_word) (got no_more_branches) vs (λ ws d.
      found BranchesFew (worth ts) 0 no_more_branches ws (omega (arith, a, c, d)) (omega arith))))

  one_branch_few : (more : List Placed → Read FoundBranches) → BranchesRead more → BranchesRead (one_branch reads blocks more)
  one_branch_few more rest ts =
      after Conditions BranchesFew (worth ts) (worth ts) (in_parentheses reads ts) _ (condition_few (worth ts) ts (same (worth ts))) (λ i c us a h.
      after BlockFew BranchesFew (worth us) (worth ts) (blocks us) _ (later us) (λ j p vs d g.
      after BranchesFew BranchesFew (worth vs) (worth ts) (more_branches blocks more vs) _ (more_branches_few more rest vs) (λ k b ws e f.
      found BranchesFew (worth ts) (i + (j + k)) (with_branch c p b) ws (omega (arith, a, d, e)) (omega (arith, h, g, f)))))

  branches_read : (i : ℕ) → BranchesRead (branches i reads blocks)
  unfolding branches
  branches_read zero ts = none BranchesFew (worth ts) ts
  branches_read (suc i) ts = go (branches_read i)
    where
      go : BranchesRead (branches i reads blocks) → Spends BranchesFew (worth ts) (branches (suc i) reads blocks ts)
      go rest = one_branch_few (branches i reads blocks) rest ts

  -- behind its first word
  abbrev StatementRead : (List Placed → Read FoundStatement) → Type 0
  StatementRead f = (m : ℕ) (ts : List Placed) → 2 + worth ts ≤ m → Spends StatementFew m (f ts)

  if_few : (line : ℕ) → StatementRead (if_statement n reads blocks line)
  if_few line m ts l =
      after BranchesFew StatementFew (worth ts) m (branches n reads blocks ts) _ (branches_read n ts) (λ i b us a h.
      found StatementFew m (suc i) (branch_of line b) us (omega (arith, l, a)) (omega (arith, h)))

  -- ---- loops

  range_loop : (line : ℕ) (x : Text) → StatementRead (over_range reads blocks line x)
  range_loop line x m ts l =
      after FoundFew StatementFew (worth ts) m (reads false 0 ts) _ (each false 0 ts) (λ i a us k f.
      past StatementFew m (is_sign double_dot)
      (λ vs. and_then (any_expression reads vs) (λ b ws. past_sign close_bracket ws (λ xs. and_then (block_to endfor_word blocks xs) (λ p ys.
      got (loop_of line (Some x) (for_range x a.tree b.tree p.tree) (a.nodes ++ b.nodes) p) ys))))
      us (λ vs c.
      after FoundFew StatementFew (worth vs) m (reads false 0 vs) _ (each false 0 vs) (λ j b ws d g. past StatementFew m (is_sign close_bracket) _ ws (λ xs r.
      after Closed StatementFew (worth xs) m (block_to endfor_word blocks xs) _ (block_few_to endfor_word (worth xs) xs (same (worth xs))) (λ q p ys o z.
      found StatementFew m (suc (suc (i + (j + q)))) (loop_of line (Some x) (for_range x a.tree b.tree p.tree) (a.nodes ++ b.nodes) p) ys (omega (arith, l, k, c, d, r, o)) (omega (arith, f, g, z)))))))

  list_loop : (line : ℕ) (x : Text) → StatementRead (over_list reads blocks line x)
  list_loop line x m ts l =
      after Conditions StatementFew (worth ts) m (in_parentheses reads ts) _ (condition_few (worth ts) ts (same (worth ts))) (λ i e us k f.
      after Closed StatementFew (worth us) m (block_to endfor_word blocks us) _ (block_few_to endfor_word (worth us) us (same (worth us))) (λ q p vs o z.
      found StatementFew m (i + q) (loop_of line (Some x) (for_each x e.tree p.tree) e.nodes p) vs (omega (arith, l, k, o)) (omega (arith, f, z))))

  for_few : (line : ℕ) → StatementRead (for_statement reads blocks line)
  for_few line m ts l =
      worded StatementFew m ts _ (λ x at us k. past StatementFew m (is_keyword in_word) _ us (λ vs a.
      either_way StatementFew m (is_sign open_bracket) (over_range reads blocks line (fold_case x)) (over_list reads blocks line (fold_case x)) vs
      (λ ws c. range_loop line (fold_case x) m ws (omega (arith, l, k, a, c))) (λ ws c. list_loop line (fold_case x) m ws (omega (arith, l, k, a, c)))))

  while_few : (line : ℕ) → StatementRead (while_statement reads blocks line)
  while_few line m ts l =
      after NameFew StatementFew (worth ts) m (perhaps_word ts) _ (name_read (worth ts) ts (same (worth ts))) (λ w x us a t.
      after Conditions StatementFew (worth us) m (in_parentheses reads us) _ (condition_few (worth us) us (same (worth us))) (λ i c vs k f.
      after Closed StatementFew (worth vs) m (block_to endwhile_word blocks vs) _ (block_few_to endwhile_word (worth vs) vs (same (worth vs))) (λ q p ws o z.
      found StatementFew m (i + q) (loop_of line x (repeat x c.tree p.tree) c.nodes p) ws (omega (arith, l, a, k, o)) (omega (arith, f, z)))))

  fork_few : (line : ℕ) → StatementRead (fork_statement reads blocks line)
  fork_few line m ts l =
      after NameFew StatementFew (worth ts) m (perhaps_word ts) _ (name_read (worth ts) ts (same (worth ts))) (λ w x us a t.
      after Conditions StatementFew (worth us) m (in_parentheses reads us) _ (condition_few (worth us) us (same (worth us))) (λ i e vs k f.
      after Closed StatementFew (worth vs) m (block_to endfork_word blocks vs) _ (block_few_to endfork_word (worth vs) vs (same (worth vs))) (λ q p ws o z.
      found StatementFew m (i + q) (forked line x e p) ws (omega (arith, l, a, k, o)) (omega (arith, f, z)))))

  -- ---- `try`

  abbrev ArmsRead : (List Placed → Read FoundArms) → Type 0
  ArmsRead more = (ts : List Placed) → Spends ArmsFew (worth ts) (more ts)

  more_arms_few : (more : List Placed → Read FoundArms) → ArmsRead more → ArmsRead (more_arms more)
  more_arms_few more rest ts =
      either_way ArmsFew (worth ts) (is_keyword except_word) more (λ us. past_keyword endtry_word us (got no_more_arms)) ts
      (λ us a. wider ArmsFew (worth us) (worth ts) (more us) (omega (arith, a)) (rest us))
      (λ us a. past ArmsFew (worth ts) (is_keyword endtry_word) (got no_more_arms) us (λ vs c. found ArmsFew (worth ts) 0 no_more_arms vs (omega (arith, a, c)) (same 0)))

  one_arm_few : (i : ℕ) (more : List Placed → Read FoundArms) → ArmsRead more → ArmsRead (one_arm i reads blocks more)
  one_arm_few i more rest ts =
      after NameFew ArmsFew (worth ts) (worth ts) (perhaps_word ts) _ (name_read (worth ts) ts (same (worth ts))) (λ w x us a t.
      past ArmsFew (worth ts) (is_sign open_parenthesis)
      (λ vs. and_then (error_codes i reads false vs) (λ c ws.
      past_sign close_parenthesis ws (λ xs. and_then (blocks xs) (λ p ys. and_then (more_arms more ys) (λ d zs. got (with_arm x c p d) zs)))))
      us (λ vs b.
      after CodesFew ArmsFew (worth vs) (worth ts) (error_codes i reads false vs) _ (codes_read reads each false i (worth vs) vs (same (worth vs))) (λ j c ws k q.
      past ArmsFew (worth ts) (is_sign close_parenthesis) _ ws (λ xs r.
      after BlockFew ArmsFew (worth xs) (worth ts) (blocks xs) _ (later xs) (λ e p ys l o.
      after ArmsFew ArmsFew (worth ys) (worth ts) (more_arms more ys) _ (more_arms_few more rest ys) (λ f d zs g z.
      found ArmsFew (worth ts) (suc (j + (e + f))) (with_arm x c p d) zs (omega (arith, a, b, k, r, l, g)) (omega (arith, q, o, z))))))))

  arms_read : (i : ℕ) → ArmsRead (arms i reads blocks)
  unfolding arms
  arms_read zero ts = none ArmsFew (worth ts) ts
  arms_read (suc i) ts = go (arms_read i)
    where
      go : ArmsRead (arms i reads blocks) → Spends ArmsFew (worth ts) (arms (suc i) reads blocks ts)
      go rest = one_arm_few i (arms i reads blocks) rest ts

  try_few : (line : ℕ) → StatementRead (try_statement n reads blocks line)
  try_few line m ts l =
      after BlockFew StatementFew (worth ts) m (blocks ts) _ (later ts) (λ i p us k h.
      either_way StatementFew m (is_keyword finally_word) (finally_part blocks line p) (handlers n reads blocks line p) us
      (λ vs a. after Closed StatementFew (worth vs) m (block_to endtry_word blocks vs) _ (block_few_to endtry_word (worth vs) vs (same (worth vs))) (λ j q ws c g.
      found StatementFew m (suc (suc (i + j))) (finished_of line p q) ws (omega (arith, l, k, a, c)) (omega (arith, h, g))))
      (λ vs a. past StatementFew m (is_keyword except_word) _ vs (λ ws c.
      after ArmsFew StatementFew (worth ws) m (arms n reads blocks ws) _ (arms_read n ws) (λ j d xs e g.
      found StatementFew m (suc (i + j)) (guarded_of line p d) xs (omega (arith, l, k, a, c, e)) (omega (arith, h, g))))))

  -- ---- simple statements

  ended_few : (m i : ℕ) (s : FoundStatement) (ts : List Placed) → i + worth ts ≤ m → StatementFew i s → Spends StatementFew m (ended_by_semicolon s ts)
  ended_few m i s ts l h = past StatementFew m (is_sign semicolon) (got s) ts (λ us a. found StatementFew m i s us (omega (arith, l, a)) h)

  leaving_few : (f : Option Text → Statement) → ((x : Option Text) → statement_nodes (f x) ≤ 1) → (line : ℕ) → StatementRead (leaving_statement f line)
  leaving_few f one line m ts l =
      after NameFew StatementFew (worth ts) m (perhaps_word ts) _ (name_read (worth ts) ts (same (worth ts))) (λ w x us a t.
      ended_few m 1 (stray line x (f x)) us (omega (arith, l, a)) (one x))

  return_few : (line : ℕ) → StatementRead (return_statement reads line)
  return_few line m ts l =
      either_way StatementFew m (is_sign semicolon) (got (simple line give_zero []))
      (λ us. and_then (any_expression reads us) (λ e vs. ended_by_semicolon (simple line (give e.tree) e.nodes) vs))
      ts
      (λ us a. found StatementFew m 1 (simple line give_zero []) us (omega (arith, l, a)) (same 1))
      (λ us a. after FoundFew StatementFew (worth us) m (reads false 0 us) _ (each false 0 us) (λ i e vs k f.
      ended_few m (suc i) (simple line (give e.tree) e.nodes) vs (omega (arith, l, a, k)) (omega (arith, f))))

  -- a semicolon ends it
  expression_few : (ts : List Placed) → Spends StatementFew (worth ts) (expression_statement reads ts)
  expression_few ts =
      after FoundFew StatementFew (worth ts) (worth ts) (reads false 0 ts) _ (each false 0 ts) (λ i e us k f.
      past StatementFew (worth ts) (is_sign semicolon) (got (simple (line_of ts) (evaluate e.tree) e.nodes)) us (λ vs a.
      found StatementFew (worth ts) (suc i) (simple (line_of ts) (evaluate e.tree) e.nodes) vs (omega (arith, k, a)) (omega (arith, f))))

  -- ---- programs

  then_few : (m : ℕ) (r : Read FoundStatement) → Spends StatementFew m r → Spends BlockFew m (then_block blocks r)
  then_few m r h =
      after StatementFew BlockFew m m r _ h (λ i s us k g. after BlockFew BlockFew (worth us) m (blocks us) _ (later us) (λ j p vs l f.
      found BlockFew m (i + j) (and_block s p) vs (omega (arith, k, l)) (omega (arith, g, f))))

  ends_here : (ts : List Placed) → Spends BlockFew (worth ts) (got no_statements ts)
  ends_here ts = found BlockFew (worth ts) 0 no_statements ts (omega arith) (same 0)

  keyword_few : (k : Keyword) (line m : ℕ) (rest all : List Placed) → 2 + worth rest ≤ m → worth all ≤ m → Spends BlockFew m (by_keyword n reads blocks k line rest all)
  keyword_few if_word line m rest all l a = then_few m _ (if_few line m rest l)
  keyword_few for_word line m rest all l a = then_few m _ (for_few line m rest l)
  keyword_few while_word line m rest all l a = then_few m _ (while_few line m rest l)
  keyword_few fork_word line m rest all l a = then_few m _ (fork_few line m rest l)
  keyword_few try_word line m rest all l a = then_few m _ (try_few line m rest l)
  keyword_few break_word line m rest all l a = then_few m _ (leaving_few leave_loop (λ x. same 1) line m rest l)
  keyword_few continue_word line m rest all l a = then_few m _ (leaving_few next_turn (λ x. same 1) line m rest l)
  keyword_few return_word line m rest all l a = then_few m _ (return_few line m rest l)
  keyword_few k line m rest all l a = wider BlockFew (worth all) m (got no_statements all) a (ends_here all)

  token_few : (t : Token) (line : ℕ) (rest all : List Placed) → 2 + worth rest ≤ worth all → Spends BlockFew (worth all) (by_token n reads blocks t line rest all)
  token_few (keyword k) line rest all l = keyword_few k line (worth all) rest all l (same (worth all))
  token_few (sign semicolon) line rest all l = wider BlockFew (worth rest) (worth all) (blocks rest) (omega (arith, l)) (later rest)
  token_few (sign open_parenthesis) line rest all l = then_few (worth all) _ (expression_few all)
  token_few (sign open_brace) line rest all l = then_few (worth all) _ (expression_few all)
  token_few (sign dollar) line rest all l = then_few (worth all) _ (expression_few all)
  token_few (sign backquote) line rest all l = then_few (worth all) _ (expression_few all)
  token_few (sign minus_sign) line rest all l = then_few (worth all) _ (expression_few all)
  token_few (sign not_sign) line rest all l = then_few (worth all) _ (expression_few all)
  token_few (sign s) line rest all l = ends_here all
  token_few (bad k) line rest all l = ends_here all
  token_few t line rest all l = then_few (worth all) _ (expression_few all)

pub blocks_few : (n : ℕ) → BlocksRead (block n)
unfolding block
blocks_few zero ts = none BlockFew (worth ts) ts
blocks_few (suc n) ts = go (blocks_few n) ts
  where
    go : BlocksRead (block n) → (us : List Placed) → Spends BlockFew (worth us) (block_with n (block n) us)
    go later [] = found BlockFew 0 0 no_statements [] (omega arith) (omega arith)
    go later (p ∷ us) = token_few n (expression n) (expressions_few n) (block n) later p.token p.line us (p ∷ us) (omega arith)
