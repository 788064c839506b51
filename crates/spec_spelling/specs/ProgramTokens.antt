-- The tokens of the canonical spelling of a program.
use Rattle.std.specs.Prelude.{List, [], ◌∷◌, ◌++◌, Option, Some, None}
use Rattle.spec_value.specs.Datum.{Text}
use Rattle.spec_program.specs.Tree.{Statement, evaluate, give, give_zero, branch, for_each, for_range, repeat, fork, guarded, finished, leave_loop, next_turn, Program, the_end, seq, Branches, no_branches, on, Otherwise, no_else, else_do, Arms, no_arms, except}
use Rattle.spec_program.specs.Tokens as t
use Rattle.spec_program.specs.Tokens.{Keyword, Token}
use Rattle.spec_program.specs.CanonicalTokens.{between, in_parentheses, expression_tokens, codes_tokens}

abbrev pub with_semicolon : List Token → List Token
with_semicolon ks = ks ++ t.sign t.semicolon ∷ []

-- up to an end word
abbrev pub up_to : List Token → Keyword → List Token
up_to ks k = ks ++ t.keyword k ∷ []

abbrev pub name_before : Option Text → List Token
name_before None = []
name_before (Some x) = t.word x ∷ []

-- a head word, perhaps a name, and what stands in parentheses
abbrev pub head : Keyword → Option Text → List Token → List Token
head k x ks = t.keyword k ∷ (name_before x ++ in_parentheses ks)

abbrev mutual
  pub statement_tokens : Statement → List Token
  statement_tokens (evaluate e) = with_semicolon (expression_tokens e)
  statement_tokens (give e) = t.keyword t.return_word ∷ with_semicolon (expression_tokens e)
  statement_tokens give_zero = t.keyword t.return_word ∷ t.sign t.semicolon ∷ []
  statement_tokens (branch bs q) = branches_tokens t.if_word bs ++ up_to (otherwise_tokens q) t.endif_word
  statement_tokens (for_each x e p) =
      (t.keyword t.for_word ∷ t.word x ∷ t.keyword t.in_word ∷ in_parentheses (expression_tokens e)) ++ up_to (program_tokens p) t.endfor_word
  statement_tokens (for_range x a b p) =
      (t.keyword t.for_word ∷ t.word x ∷ t.keyword t.in_word ∷ between t.open_bracket (expression_tokens a ++ (t.sign t.double_dot ∷ expression_tokens b)) t.close_bracket)
      ++ up_to (program_tokens p) t.endfor_word
  statement_tokens (repeat x c p) = head t.while_word x (expression_tokens c) ++ up_to (program_tokens p) t.endwhile_word
  statement_tokens (fork x e p) = head t.fork_word x (expression_tokens e) ++ up_to (program_tokens p) t.endfork_word
  statement_tokens (guarded p arms) = t.keyword t.try_word ∷ (program_tokens p ++ up_to (arms_tokens arms) t.endtry_word)
  statement_tokens (finished p q) = t.keyword t.try_word ∷ (program_tokens p ++ (t.keyword t.finally_word ∷ up_to (program_tokens q) t.endtry_word))
  statement_tokens (leave_loop x) = t.keyword t.break_word ∷ with_semicolon (name_before x)
  statement_tokens (next_turn x) = t.keyword t.continue_word ∷ with_semicolon (name_before x)

  pub program_tokens : Program → List Token
  program_tokens the_end = []
  program_tokens (seq s more) = statement_tokens s ++ program_tokens more

  -- the first of them with `if`, the others with `elseif`
  pub branches_tokens : Keyword → Branches → List Token
  branches_tokens word no_branches = []
  branches_tokens word (on c p more) = head word None (expression_tokens c) ++ (program_tokens p ++ branches_tokens t.elseif_word more)

  pub otherwise_tokens : Otherwise → List Token
  otherwise_tokens no_else = []
  otherwise_tokens (else_do p) = t.keyword t.else_word ∷ program_tokens p

  pub arms_tokens : Arms → List Token
  arms_tokens no_arms = []
  arms_tokens (except x c p more) = head t.except_word x (codes_tokens c) ++ (program_tokens p ++ arms_tokens more)
