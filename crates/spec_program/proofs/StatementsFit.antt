-- Statements and programs that are read have names, expressions and loops as programs have them.
use Rattle.std.proofs.Common.{◌≡◌, ℕ, zero, suc, Bool, true, false, not, ◌&&◌, ◌||◌, List, [], ◌∷◌, ◌++◌, map, Option, Some, None, IsTrue, arith, refl}
use Rattle.std.specs.Prelude.{max, cond}
use Rattle.std.specs.List.{list_all}
use Rattle.spec_value.specs.Datum.{Text, fold_case}
use Rattle.spec_value.proofs.Entries.{first_holds, second_holds}
use Rattle.spec_program.specs.Tree.{evaluate, give, give_zero, for_each, for_range, repeat, leave_loop, next_turn, no_arms}
use Rattle.spec_program.specs.Tokens.{Keyword, Token, word, keyword, sign, bad, Placed, if_word, else_word, elseif_word, endif_word, for_word, in_word, endfor_word, while_word, endwhile_word, break_word, continue_word, return_word, fork_word, endfork_word, try_word, except_word, finally_word, endtry_word, open_parenthesis, close_parenthesis, open_bracket, close_bracket, open_brace, semicolon, double_dot, not_sign, minus_sign, dollar, backquote}
use Rattle.spec_program.specs.Reading.{Read, got, and_then, is_sign, is_keyword, if_keyword, past_sign, past_keyword, line_of}
use Rattle.spec_program.specs.ReadExpressions.{Found, ReadsExpression, expression, FoundCodes, error_codes}
use Rattle.spec_program.specs.ReadPrograms.{Stray, same_name, names_none, goes_out, out_of_loop, cut, FoundBlock, FoundStatement, ReadsBlock, simple, stray, any_expression, in_parentheses, word_there, perhaps_word, block_to, FoundBranches, with_branch, no_more_branches, else_block, more_branches, one_branch, branches, if_statement, loop_of, over_range, over_list, for_statement, while_statement, fork_statement, FoundArms, with_arm, more_arms, one_arm, arms, finally_part, handlers, try_statement, ended_by_semicolon, leaving_statement, return_statement, expression_statement, and_block, then_block, no_statements, by_keyword, by_token, block_with, block}
use Rattle.spec_program.specs.Trees.{is_name, may_name, is_around, has_branch, has_arm, statement_fits, program_fits, branches_fit, otherwise_fits, arms_fit, expr_height, statement_height, program_height, branches_height, otherwise_height, arms_height}
use Rattle.spec_program.proofs.LowTrees.{Low, nothing, side, beneath, leaf, at_most}
use Rattle.spec_program.proofs.ReadFits.{TokenFits, TokensFit, Gives, and_also, found, none, implied, after, either_way, past, worded}
use Rattle.spec_program.proofs.ExpressionsFit.{FoundFits, ReadsFit, CodesFit, codes_read, expressions_fit}

-- ---- what is left of `break` and `continue`

-- a loop around takes it
abbrev pub taken : List (Option Text) → Stray → Bool
taken loops s = not s.cut_off && is_around loops s.name

abbrev pub Taken : List (Option Text) → List Stray → Type 0
Taken loops ss = IsTrue (list_all (taken loops) ss)

taken_left : (loops : List (Option Text)) (ss ts : List Stray) → Taken loops (ss ++ ts) → Taken loops ss
taken_left loops [] ts h = refl
taken_left loops (s ∷ ss) ts h = and_also (first_holds (taken loops s) _ h) (taken_left loops ss ts (second_holds (taken loops s) _ h))

taken_right : (loops : List (Option Text)) (ss ts : List Stray) → Taken loops (ss ++ ts) → Taken loops ts
taken_right loops [] ts h = h
taken_right loops (s ∷ ss) ts h = taken_right loops ss ts (second_holds (taken loops s) _ h)

-- what goes out of a loop is taken further out, and the rest by the loop
taken_inside : (own : Option Text) (loops : List (Option Text)) (ss : List Stray) → Taken loops (out_of_loop own ss) → Taken (own ∷ loops) ss
taken_inside own loops [] h = refl
taken_inside own loops (s ∷ ss) h = go (taken_inside own loops ss) (goes_out own s) refl h
  where
    wider : (c m r : Bool) → IsTrue (not c && r) → IsTrue (not c && (m || r))
    wider true m r k = k
    wider false true r k = refl
    wider false false r k = k

    stays : (c m r : Bool) → (c || not m) ≡ false → IsTrue (not c && (m || r))
    stays true m r k = cc
    stays false true r k = refl
    stays false false r k = cc

    go : (Taken loops (out_of_loop own ss) → Taken (own ∷ loops) ss) → (b : Bool) → goes_out own s ≡ b
        → IsTrue (list_all (taken loops) (cond b (s ∷ out_of_loop own ss) (out_of_loop own ss))) → Taken (own ∷ loops) (s ∷ ss)
    go rest true e k =
        and_also (wider s.cut_off (names_none s.name || same_name s.name own) (is_around loops s.name) (first_holds (taken loops s) _ k))
        (rest (second_holds (taken loops s) _ k))
    go rest false e k = and_also (stays s.cut_off (names_none s.name || same_name s.name own) (is_around loops s.name) e) (rest k)

-- out of a fork's body none is taken
taken_nowhere : (loops : List (Option Text)) (ss : List Stray) → Taken loops (map cut ss) → Taken [] ss
taken_nowhere loops [] h = refl
taken_nowhere loops (s ∷ ss) h = absurd (cc h)

-- ---- what is found, in loops that take what is left

abbrev pub BlockFits : FoundBlock → Type 0
BlockFits p = ((loops : List (Option Text)) → Taken loops p.strays → IsTrue (program_fits loops p.tree)) × Low (program_height p.tree) p.nodes

abbrev pub StatementFits : FoundStatement → Type 0
StatementFits s = ((loops : List (Option Text)) → Taken loops s.strays → IsTrue (statement_fits loops s.tree)) × Low (statement_height s.tree) s.nodes

abbrev NameFits : Option Text → Type 0
NameFits x = IsTrue (may_name x)

abbrev BranchesFit : FoundBranches → Type 0
BranchesFit f =
    ((loops : List (Option Text)) → Taken loops f.strays → IsTrue (branches_fit loops f.branches) × IsTrue (otherwise_fits loops f.otherwise))
    × Low (max (branches_height f.branches) (otherwise_height f.otherwise)) f.nodes

abbrev SomeBranches : FoundBranches → Type 0
SomeBranches f = IsTrue (has_branch f.branches) × BranchesFit f

abbrev ArmsFit : FoundArms → Type 0
ArmsFit f = ((loops : List (Option Text)) → Taken loops f.strays → IsTrue (arms_fit loops f.tree)) × Low (arms_height f.tree) f.nodes

abbrev SomeArms : FoundArms → Type 0
SomeArms f = IsTrue (has_arm f.tree) × ArmsFit f

abbrev pub BlocksRead : ReadsBlock → Type 0
BlocksRead blocks = (ts : List Placed) → TokensFit ts → Gives BlockFits (blocks ts)

name_read : (ts : List Placed) → TokensFit ts → Gives NameFits (perhaps_word ts)
name_read [] h = found NameFits None [] refl tt
name_read (p ∷ ts) h = go p.token h.0
  where
    go : (t : Token) → TokenFits t → Gives NameFits (word_there t ts (p ∷ ts))
    go (word x) m = found NameFits (Some (fold_case x)) ts m.0 h.1
    go t m = found NameFits None (p ∷ ts) refl h

-- with expressions and blocks that are read as they should be
module _ (n : ℕ) (reads : ReadsExpression) (each : ReadsFit reads) (blocks : ReadsBlock) (later : BlocksRead blocks) where
  condition_fits : (ts : List Placed) → TokensFit ts → Gives (FoundFits false) (in_parentheses reads ts)
  condition_fits ts h =
      past (FoundFits false) _ (λ us. and_then (any_expression reads us) (λ e vs. past_sign close_parenthesis vs (got e))) ts h (λ us g.
      after (FoundFits false) (FoundFits false) (reads false 0 us) _ (each false 0 us g) (λ e vs k f.
      past (FoundFits false) _ (got e) vs f (λ ws m. found (FoundFits false) e ws k m)))

  block_fits_to : (k : Keyword) (ts : List Placed) → TokensFit ts → Gives BlockFits (block_to k blocks ts)
  block_fits_to k ts h =
      after BlockFits BlockFits (blocks ts) _ (later ts h) (λ p us m g. past BlockFits (is_keyword k) (got p) us g (λ vs f. found BlockFits p vs m f))

  -- ---- `if`

  abbrev BranchesRead : (List Placed → Read FoundBranches) → Type 0
  BranchesRead more = (ts : List Placed) → TokensFit ts → Gives SomeBranches (more ts)

  more_branches_fit : (more : List Placed → Read FoundBranches) → BranchesRead more
      → (ts : List Placed) → TokensFit ts → Gives BranchesFit (more_branches blocks more ts)
  more_branches_fit more rest ts h =
      either_way BranchesFit (is_keyword elseif_word) more
      (λ us. if_keyword else_word
      (λ vs. and_then (block_to endif_word blocks vs) (λ p ws. got (else_block p) ws))
      (λ vs. past_keyword endif_word vs (got no_more_branches))
      us)
      ts h
      (λ us g. implied SomeBranches BranchesFit (more us) (λ f m. m.1) (rest us g))
      (λ us g. either_way BranchesFit (is_keyword else_word)
      (λ vs. and_then (block_to endif_word blocks vs) (λ p ws. got (else_block p) ws))
      (λ vs. past_keyword endif_word vs (got no_more_branches))
      us g
      (λ vs f. after BlockFits BranchesFit (block_to endif_word blocks vs) _ (block_fits_to endif_word vs f) (λ p ws k m.
      found BranchesFit (else_block p) ws ((λ loops t. (refl, k.0 loops t)), at_most (max 0 (program_height p.tree)) (omega arith) k.1) m))
      (λ vs f. past BranchesFit _ (got no_more_branches) vs f (λ ws m. found BranchesFit no_more_branches ws ((λ loops t. (refl, refl)), at_most (max 0 0) (omega arith) nothing) m)))

  branch_fits : (c : Found) (p : FoundBlock) (b : FoundBranches) → FoundFits false c → BlockFits p → BranchesFit b → SomeBranches (with_branch c p b)
  branch_fits c p b h k m = (
    refl,
    (
      (λ loops t.
          (and_also h.0 (and_also (k.0 loops (taken_left loops p.strays b.strays t)) (m.0 loops (taken_right loops p.strays b.strays t)).0), (m.0 loops (taken_right loops p.strays b.strays t)).1)),
      at_most (max (max (expr_height c.tree) (max (program_height p.tree) (branches_height b.branches))) (otherwise_height b.otherwise)) (omega arith)
          (side h.1 (side k.1 m.1)),
    ),
  )

  one_branch_fits : (more : List Placed → Read FoundBranches) → BranchesRead more → BranchesRead (one_branch reads blocks more)
  one_branch_fits more rest ts h =
      after (FoundFits false) SomeBranches (in_parentheses reads ts) _ (condition_fits ts h) (λ c us k g.
      after BlockFits SomeBranches (blocks us) _ (later us g) (λ p vs l f.
      after BranchesFit SomeBranches (more_branches blocks more vs) _ (more_branches_fit more rest vs f) (λ b ws m q.
      found SomeBranches (with_branch c p b) ws (branch_fits c p b k l m) q)))

  branches_read : (i : ℕ) → BranchesRead (branches i reads blocks)
  unfolding branches
  branches_read zero ts h = none SomeBranches ts
  branches_read (suc i) ts h = go (branches_read i)
    where
      go : BranchesRead (branches i reads blocks) → Gives SomeBranches (branches (suc i) reads blocks ts)
      go rest = one_branch_fits (branches i reads blocks) rest ts h

  abbrev StatementRead : (List Placed → Read FoundStatement) → Type 0
  StatementRead f = (ts : List Placed) → TokensFit ts → Gives StatementFits (f ts)

  if_fits : (line : ℕ) → StatementRead (if_statement n reads blocks line)
  if_fits line ts h =
      after SomeBranches StatementFits (branches n reads blocks ts) _ (branches_read n ts h) (λ b us m g.
      found StatementFits _ us ((λ loops t. and_also m.0 (and_also (m.1.0 loops t).0 (m.1.0 loops t).1)), beneath m.1.1) g)

  -- ---- loops

  range_loop : (line : ℕ) (x : Text) → IsTrue (is_name x) → StatementRead (over_range reads blocks line x)
  range_loop line x h ts g =
      after (FoundFits false) StatementFits (reads false 0 ts) _ (each false 0 ts g) (λ a us k f.
      past StatementFits (is_sign double_dot)
      (λ vs. and_then (any_expression reads vs) (λ b ws. past_sign close_bracket ws (λ xs. and_then (block_to endfor_word blocks xs) (λ p ys.
      got (loop_of line (Some x) (for_range x a.tree b.tree p.tree) (a.nodes ++ b.nodes) p) ys))))
      us f (λ vs m.
      after (FoundFits false) StatementFits (reads false 0 vs) _ (each false 0 vs m) (λ b ws l q. past StatementFits _ _ ws q (λ xs r.
      after BlockFits StatementFits (block_to endfor_word blocks xs) _ (block_fits_to endfor_word xs r) (λ p ys o z.
      found StatementFits (loop_of line (Some x) (for_range x a.tree b.tree p.tree) (a.nodes ++ b.nodes) p) ys (
        (λ loops t. and_also h (and_also (and_also k.0 l.0) (o.0 (Some x ∷ loops) (taken_inside (Some x) loops p.strays t)))),
        beneath (at_most (max (expr_height a.tree) (max (expr_height b.tree) (program_height p.tree))) (omega arith) (side (side k.1 l.1) o.1)),
      ) z)))))

  list_loop : (line : ℕ) (x : Text) → IsTrue (is_name x) → StatementRead (over_list reads blocks line x)
  list_loop line x h ts g =
      after (FoundFits false) StatementFits (in_parentheses reads ts) _ (condition_fits ts g) (λ e us k f.
      after BlockFits StatementFits (block_to endfor_word blocks us) _ (block_fits_to endfor_word us f) (λ p vs o z.
      found StatementFits (loop_of line (Some x) (for_each x e.tree p.tree) e.nodes p) vs
      ((λ loops t. and_also h (and_also k.0 (o.0 (Some x ∷ loops) (taken_inside (Some x) loops p.strays t)))), beneath (side k.1 o.1)) z))

  for_fits : (line : ℕ) → StatementRead (for_statement reads blocks line)
  for_fits line ts h =
      worded StatementFits ts _ h (λ x at us k g. past StatementFits (is_keyword in_word) _ us g (λ vs f.
      either_way StatementFits (is_sign open_bracket) (over_range reads blocks line (fold_case x)) (over_list reads blocks line (fold_case x)) vs f
      (range_loop line (fold_case x) k.0) (list_loop line (fold_case x) k.0)))

  while_fits : (line : ℕ) → StatementRead (while_statement reads blocks line)
  while_fits line ts h =
      after NameFits StatementFits (perhaps_word ts) _ (name_read ts h) (λ x us m g.
      after (FoundFits false) StatementFits (in_parentheses reads us) _ (condition_fits us g) (λ c vs k f.
      after BlockFits StatementFits (block_to endwhile_word blocks vs) _ (block_fits_to endwhile_word vs f) (λ p ws o z.
      found StatementFits (loop_of line x (repeat x c.tree p.tree) c.nodes p) ws
      ((λ loops t. and_also m (and_also k.0 (o.0 (x ∷ loops) (taken_inside x loops p.strays t)))), beneath (side k.1 o.1)) z)))

  fork_fits : (line : ℕ) → StatementRead (fork_statement reads blocks line)
  fork_fits line ts h =
      after NameFits StatementFits (perhaps_word ts) _ (name_read ts h) (λ x us m g.
      after (FoundFits false) StatementFits (in_parentheses reads us) _ (condition_fits us g) (λ e vs k f.
      after BlockFits StatementFits (block_to endfork_word blocks vs) _ (block_fits_to endfork_word vs f) (λ p ws o z.
      found StatementFits _ ws ((λ loops t. and_also m (and_also k.0 (o.0 [] (taken_nowhere loops p.strays t)))), beneath (side k.1 o.1)) z)))

  -- ---- `try`

  abbrev ArmsRead : (List Placed → Read FoundArms) → Type 0
  ArmsRead more = (ts : List Placed) → TokensFit ts → Gives SomeArms (more ts)

  more_arms_fit : (more : List Placed → Read FoundArms) → ArmsRead more → (ts : List Placed) → TokensFit ts → Gives ArmsFit (more_arms more ts)
  more_arms_fit more rest ts h =
      either_way ArmsFit (is_keyword except_word) more
      (λ us. past_keyword endtry_word us (got (record { tree = no_arms; nodes = []; strays = [] })))
      ts h
      (λ us g. implied SomeArms ArmsFit (more us) (λ f m. m.1) (rest us g))
      (λ us g. past ArmsFit (is_keyword endtry_word) (got (record { tree = no_arms; nodes = []; strays = [] })) us g (λ vs f.
      found ArmsFit _ vs ((λ loops t. refl), nothing) f))

  arm_fits : (x : Option Text) (c : FoundCodes) (p : FoundBlock) (a : FoundArms) → NameFits x → CodesFit false c → BlockFits p → ArmsFit a
      → SomeArms (with_arm x c p a)
  arm_fits x c p a h k l m = (
    refl,
    (
      (λ loops t. and_also (and_also h k.0) (and_also (l.0 loops (taken_left loops p.strays a.strays t)) (m.0 loops (taken_right loops p.strays a.strays t)))),
      side k.1 (side l.1 m.1),
    ),
  )

  one_arm_fits : (i : ℕ) (more : List Placed → Read FoundArms) → ArmsRead more → ArmsRead (one_arm i reads blocks more)
  one_arm_fits i more rest ts h =
      after NameFits SomeArms (perhaps_word ts) _ (name_read ts h) (λ x us j g.
      past SomeArms (is_sign open_parenthesis)
      (λ vs. and_then (error_codes i reads false vs) (λ c ws.
      past_sign close_parenthesis ws (λ xs. and_then (blocks xs) (λ p ys. and_then (more_arms more ys) (λ a zs. got (with_arm x c p a) zs)))))
      us g (λ vs f.
      after (CodesFit false) SomeArms (error_codes i reads false vs) _ (codes_read reads each false i vs f) (λ c ws k q. past SomeArms _ _ ws q (λ xs r.
      after BlockFits SomeArms (blocks xs) _ (later xs r) (λ p ys l o.
      after ArmsFit SomeArms (more_arms more ys) _ (more_arms_fit more rest ys o) (λ a zs m z. found SomeArms (with_arm x c p a) zs (arm_fits x c p a j k l m) z))))))

  arms_read : (i : ℕ) → ArmsRead (arms i reads blocks)
  unfolding arms
  arms_read zero ts h = none SomeArms ts
  arms_read (suc i) ts h = go (arms_read i)
    where
      go : ArmsRead (arms i reads blocks) → Gives SomeArms (arms (suc i) reads blocks ts)
      go rest = one_arm_fits i (arms i reads blocks) rest ts h

  try_fits : (line : ℕ) → StatementRead (try_statement n reads blocks line)
  try_fits line ts h =
      after BlockFits StatementFits (blocks ts) _ (later ts h) (λ p us k g.
      either_way StatementFits (is_keyword finally_word) (finally_part blocks line p) (handlers n reads blocks line p) us g
      (λ vs f. after BlockFits StatementFits (block_to endtry_word blocks vs) _ (block_fits_to endtry_word vs f) (λ q ws l z.
      found StatementFits _ ws ((λ loops t. and_also (k.0 loops (taken_left loops p.strays q.strays t)) (l.0 loops (taken_right loops p.strays q.strays t))), beneath (side k.1 l.1)) z))
      (λ vs f. past StatementFits (is_keyword except_word) _ vs f (λ ws m.
      after SomeArms StatementFits (arms n reads blocks ws) _ (arms_read n ws m) (λ a xs l z.
      found StatementFits _ xs (
        (λ loops t. and_also l.0 (and_also (k.0 loops (taken_left loops p.strays a.strays t)) (l.1.0 loops (taken_right loops p.strays a.strays t)))),
        beneath (side k.1 l.1.1),
      ) z))))

  -- ---- simple statements

  ended_fits : (s : FoundStatement) → StatementFits s → StatementRead (ended_by_semicolon s)
  ended_fits s k ts h = past StatementFits (is_sign semicolon) (got s) ts h (λ us g. found StatementFits s us k g)

  around : (a b : Bool) → IsTrue (a && true) → IsTrue a
  around true b h = refl
  around false b h = h

  leave_fits : (line : ℕ) → StatementRead (leaving_statement leave_loop line)
  leave_fits line ts h =
      after NameFits StatementFits (perhaps_word ts) _ (name_read ts h) (λ x us m g.
      ended_fits (stray line x (leave_loop x)) ((λ loops t. and_also m (around (is_around loops x) true t)), leaf) us g)

  next_fits : (line : ℕ) → StatementRead (leaving_statement next_turn line)
  next_fits line ts h =
      after NameFits StatementFits (perhaps_word ts) _ (name_read ts h) (λ x us m g.
      ended_fits (stray line x (next_turn x)) ((λ loops t. and_also m (around (is_around loops x) true t)), leaf) us g)

  return_fits : (line : ℕ) → StatementRead (return_statement reads line)
  return_fits line ts h =
      either_way StatementFits (is_sign semicolon) (got (simple line give_zero []))
      (λ us. and_then (any_expression reads us) (λ e vs. ended_by_semicolon (simple line (give e.tree) e.nodes) vs))
      ts h
      (λ us g. found StatementFits (simple line give_zero []) us ((λ loops t. refl), leaf) g)
      (λ us g. after (FoundFits false) StatementFits (reads false 0 us) _ (each false 0 us g) (λ e vs k f.
      ended_fits (simple line (give e.tree) e.nodes) ((λ loops t. k.0), beneath k.1) vs f))

  expression_fits : StatementRead (expression_statement reads)
  expression_fits ts h =
      after (FoundFits false) StatementFits (reads false 0 ts) _ (each false 0 ts h) (λ e us k g.
      ended_fits (simple (line_of ts) (evaluate e.tree) e.nodes) ((λ loops t. k.0), beneath k.1) us g)

  -- ---- programs

  then_fits : (r : Read FoundStatement) → Gives StatementFits r → Gives BlockFits (then_block blocks r)
  then_fits r h =
      after StatementFits BlockFits r _ h (λ s us k g. after BlockFits BlockFits (blocks us) _ (later us g) (λ p vs l f.
      found BlockFits (and_block s p) vs ((λ loops t. and_also (k.0 loops (taken_left loops s.strays p.strays t)) (l.0 loops (taken_right loops s.strays p.strays t))), side k.1 l.1) f))

  ends_here : (ts : List Placed) → TokensFit ts → Gives BlockFits (got no_statements ts)
  ends_here ts h = found BlockFits no_statements ts ((λ loops t. refl), nothing) h

  keyword_fits : (k : Keyword) (line : ℕ) (rest all : List Placed) → TokensFit rest → TokensFit all → Gives BlockFits (by_keyword n reads blocks k line rest all)
  keyword_fits if_word line rest all h g = then_fits _ (if_fits line rest h)
  keyword_fits for_word line rest all h g = then_fits _ (for_fits line rest h)
  keyword_fits while_word line rest all h g = then_fits _ (while_fits line rest h)
  keyword_fits fork_word line rest all h g = then_fits _ (fork_fits line rest h)
  keyword_fits try_word line rest all h g = then_fits _ (try_fits line rest h)
  keyword_fits break_word line rest all h g = then_fits _ (leave_fits line rest h)
  keyword_fits continue_word line rest all h g = then_fits _ (next_fits line rest h)
  keyword_fits return_word line rest all h g = then_fits _ (return_fits line rest h)
  keyword_fits k line rest all h g = ends_here all g

  token_fits : (t : Token) (line : ℕ) (rest all : List Placed) → TokensFit rest → TokensFit all → Gives BlockFits (by_token n reads blocks t line rest all)
  token_fits (keyword k) line rest all h g = keyword_fits k line rest all h g
  token_fits (sign semicolon) line rest all h g = later rest h
  token_fits (sign open_parenthesis) line rest all h g = then_fits _ (expression_fits all g)
  token_fits (sign open_brace) line rest all h g = then_fits _ (expression_fits all g)
  token_fits (sign dollar) line rest all h g = then_fits _ (expression_fits all g)
  token_fits (sign backquote) line rest all h g = then_fits _ (expression_fits all g)
  token_fits (sign minus_sign) line rest all h g = then_fits _ (expression_fits all g)
  token_fits (sign not_sign) line rest all h g = then_fits _ (expression_fits all g)
  token_fits (sign s) line rest all h g = ends_here all g
  token_fits (bad k) line rest all h g = ends_here all g
  token_fits t line rest all h g = then_fits _ (expression_fits all g)

pub blocks_fit : (n : ℕ) → BlocksRead (block n)
unfolding block
blocks_fit zero ts h = none BlockFits ts
blocks_fit (suc n) ts h = go (blocks_fit n) ts h
  where
    go : BlocksRead (block n) → (us : List Placed) → TokensFit us → Gives BlockFits (block_with n (block n) us)
    go later [] g = found BlockFits no_statements [] ((λ loops t. refl), nothing) tt
    go later (p ∷ us) g = token_fits n (expression n) (expressions_fit n) (block n) later p.token p.line us (p ∷ us) g.1 g
