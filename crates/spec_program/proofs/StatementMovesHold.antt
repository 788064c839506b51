-- Where statements are read: each move over frames keeps what they mean.
use Rattle.std.proofs.Common.{◌≡◌, ℕ, suc, ◌<◌, true, false, List, [], ◌∷◌, length, Option, None, refl, ap, ◌∙◌, arith}
use Rattle.spec_value.specs.Datum.{Text, fold_case}
use Rattle.spec_program.specs.Tree.{leave_loop, next_turn, give_zero}
use Rattle.spec_program.specs.Tokens as t
use Rattle.spec_program.specs.Tokens.{Sign, Keyword, Token, Placed}
use Rattle.spec_program.specs.Reading.{Read, got, stuck, and_then, chosen, if_keyword, past_keyword, is_sign, is_keyword, word_or_stuck}
use Rattle.spec_program.specs.ReadExpressions.{FoundCodes, ReadsExpression, expression, error_codes}
use Rattle.spec_program.specs.ReadPrograms as by
use Rattle.spec_program.specs.ReadPrograms.{FoundBlock, FoundStatement, FoundBranches, FoundArms, ReadsBlock, branches, arms, block}
use Rattle.spec_program.specs.Frames as f
use Rattle.spec_program.specs.Frames.{a_statement, a_block, an_expression, some_branches_read, some_arms_read, Frames, Head, Body, push, resume, means}
use Rattle.spec_program.specs.Moves.{at, begins_with}
use Rattle.spec_program.specs.StatementMoves.{is_word, begins_with_word, begins_with_keyword, begins_expression, ends_block, BlockMovesHold, BlockEndsHold, SimpleMovesHold, head_read, HeadMovesHold, HeadEndsHold, HeadFaultsHold, BranchMovesHold, ArmMovesHold, TryMovesHold}
use Rattle.spec_program.proofs.MovesHold.{block_again, branches_again, arms_again, pushed, sign_there, sign_absent}

pub keyword_there : {X : Type 0} (w : Keyword) (g h : List Placed → Read X) (p : Placed) (ts : List Placed)
    → is_keyword w p.token ≡ true → if_keyword w g h (p ∷ ts) ≡ g ts
keyword_there w g h p ts e = ap (λ c. chosen c g h ts (p ∷ ts)) e

pub keyword_absent : {X : Type 0} (w : Keyword) (g h : List Placed → Read X) (ts : List Placed)
    → begins_with_keyword w ts ≡ false → if_keyword w g h ts ≡ h ts
keyword_absent w g h [] e = refl
keyword_absent w g h (p ∷ ts) e = ap (λ c. chosen c g h ts (p ∷ ts)) e

-- ---- a block

expression_first : (n : ℕ) (reads : ReadsExpression) (blocks : ReadsBlock) (k : Token) (line : ℕ) (rest all : List Placed)
    → begins_expression k ≡ true → by.by_token n reads blocks k line rest all ≡ by.then_block blocks (by.expression_statement reads all)
expression_first n reads blocks (t.word x) line rest all e = refl
expression_first n reads blocks (t.error_name x) line rest all e = refl
expression_first n reads blocks (t.integer i) line rest all e = refl
expression_first n reads blocks (t.object below i) line rest all e = refl
expression_first n reads blocks (t.string x) line rest all e = refl
expression_first n reads blocks (t.sign t.minus_sign) line rest all e = refl
expression_first n reads blocks (t.sign t.not_sign) line rest all e = refl
expression_first n reads blocks (t.sign t.open_parenthesis) line rest all e = refl
expression_first n reads blocks (t.sign t.open_brace) line rest all e = refl
expression_first n reads blocks (t.sign t.dollar) line rest all e = refl
expression_first n reads blocks (t.sign t.backquote) line rest all e = refl
expression_first n reads blocks _ line rest all e = cc

none_first : (n : ℕ) (reads : ReadsExpression) (blocks : ReadsBlock) (k : Token) (line : ℕ) (rest all : List Placed)
    → ends_block k ≡ true → by.by_token n reads blocks k line rest all ≡ got by.no_statements all
none_first n reads blocks (t.keyword k) line rest all e = by_keyword k e
  where
    by_keyword : (k : Keyword) → ends_block (t.keyword k) ≡ true → by.by_keyword n reads blocks k line rest all ≡ got by.no_statements all
    by_keyword t.if_word e = cc
    by_keyword t.for_word e = cc
    by_keyword t.while_word e = cc
    by_keyword t.fork_word e = cc
    by_keyword t.try_word e = cc
    by_keyword t.break_word e = cc
    by_keyword t.continue_word e = cc
    by_keyword t.return_word e = cc
    by_keyword _ e = refl
none_first n reads blocks (t.sign s) line rest all e = by_sign s e
  where
    by_sign : (s : Sign) → ends_block (t.sign s) ≡ true → by.by_token n reads blocks (t.sign s) line rest all ≡ got by.no_statements all
    by_sign t.semicolon e = cc
    by_sign t.minus_sign e = cc
    by_sign t.not_sign e = cc
    by_sign t.open_parenthesis e = cc
    by_sign t.open_brace e = cc
    by_sign t.dollar e = cc
    by_sign t.backquote e = cc
    by_sign _ e = refl
none_first n reads blocks (t.bad k) line rest all e = refl
none_first n reads blocks _ line rest all e = cc

pub block_moves : BlockMovesHold
block_moves n line ts fs h =
    record {
      nothing = again (t.sign t.semicolon);
      evaluated = λ k e.
          again k ∙ ap (λ r. means n fs r) (expression_first n (expression n) (block n) k line ts (at line k ∷ ts) e)
          ∙ pushed n f.block_behind fs (by.expression_statement (expression n) (at line k ∷ ts))
          ∙ pushed n (f.evaluated line) (push f.block_behind fs) (expression n false 0 (at line k ∷ ts));
      branched =
          again (t.keyword t.if_word) ∙ pushed n f.block_behind fs (by.if_statement n (expression n) (block n) line ts)
          ∙ pushed n (f.branches_of line) (push f.block_behind fs) (branches n (expression n) (block n) ts);
      repeated_for = again (t.keyword t.for_word) ∙ pushed n f.block_behind fs (by.for_statement (expression n) (block n) line ts);
      repeated_while = again (t.keyword t.while_word) ∙ pushed n f.block_behind fs (by.while_statement (expression n) (block n) line ts);
      forked = again (t.keyword t.fork_word) ∙ pushed n f.block_behind fs (by.fork_statement (expression n) (block n) line ts);
      tried =
          again (t.keyword t.try_word) ∙ pushed n f.block_behind fs (by.try_statement n (expression n) (block n) line ts)
          ∙ pushed n (f.tried line) (push f.block_behind fs) (block n ts);
      left = again (t.keyword t.break_word) ∙ pushed n f.block_behind fs (by.leaving_statement leave_loop line ts);
      next = again (t.keyword t.continue_word) ∙ pushed n f.block_behind fs (by.leaving_statement next_turn line ts);
      returned = again (t.keyword t.return_word) ∙ pushed n f.block_behind fs (by.return_statement (expression n) line ts);
      ended = λ k e. again k ∙ ap (λ r. means n fs r) (none_first n (expression n) (block n) k line ts (at line k ∷ ts) e);
    }
  where
    again : (k : Token) → means n fs (block n (at line k ∷ ts)) ≡ means n fs (by.by_token n (expression n) (block n) k line ts (at line k ∷ ts))
    again k = ap (λ r. means n fs r) (block_again n (at line k ∷ ts) h)

pub block_ends : BlockEndsHold
block_ends n fs =
    record {
      nothing_left = λ h. ap (λ r. means n fs r) (block_again n [] h);
      another = λ s ts. pushed n (f.statement_before s) fs (block n ts);
      joined = λ s p ts. refl;
      ended = λ k b p ts e. ap (λ r. means n fs r) (keyword_there k (got b) stuck p ts e);
      not_ended = λ k b ts e. ap (λ r. means n fs r) (keyword_absent k (got b) stuck ts e);
    }

-- ---- names that may be there

no_word : (k : Token) (rest all : List Placed) → is_word k ≡ false → by.word_there k rest all ≡ got None all
no_word (t.word x) rest all e = cc
no_word _ rest all e = refl

unnamed : (ts : List Placed) → begins_with_word ts ≡ false → by.perhaps_word ts ≡ got None ts
unnamed [] e = refl
unnamed (p ∷ ts) e = no_word p.token ts (p ∷ ts) e

unnamed_then : {X : Type 0} (g : Option Text → List Placed → Read X) (ts : List Placed)
    → begins_with_word ts ≡ false → and_then (by.perhaps_word ts) g ≡ g None ts
unnamed_then g ts e = ap (λ r. and_then r g) (unnamed ts e)

pub not_named : {X : Type 0} (k : Token) (l : ℕ) (g : Text → ℕ → List Placed → Read X) (rest all : List Placed)
    → is_word k ≡ false → word_or_stuck k l g rest all ≡ stuck all
not_named (t.word x) l g rest all e = cc
not_named _ l g rest all e = refl

-- ---- simple statements

pub simple_moves : SimpleMovesHold
simple_moves n line fs =
    record {
      evaluated = λ e ts. refl;
      returned = λ e ts. refl;
      ended = λ s p ts e. ap (λ r. means n fs r) (sign_there t.semicolon (got s) stuck p ts e);
      not_ended = λ s ts e. ap (λ r. means n fs r) (sign_absent t.semicolon (got s) stuck ts e);
      return_zero = λ p ts e. ap (λ r. means n fs r) (sign_there t.semicolon zero value p ts e);
      return_value = λ ts e. ap (λ r. means n fs r) (sign_absent t.semicolon zero value ts e) ∙ pushed n (f.returned line) fs (expression n false 0 ts);
      leaves_named = λ g l x ts. refl;
      leaves = λ g ts e. ap (λ r. means n fs r) (unnamed_then (λ x us. by.ended_by_semicolon (by.stray line x (g x)) us) ts e);
    }
  where
    zero : List Placed → Read FoundStatement
    zero us = got (by.simple line give_zero []) us

    value : List Placed → Read FoundStatement
    value us = and_then (expression n false 0 us) (resume n (f.returned line))

-- ---- loops and `fork`

opened_head : (n : ℕ) (p : Placed) (ts : List Placed) → is_sign t.open_parenthesis p.token ≡ true
    → by.in_parentheses (expression n) (p ∷ ts) ≡ and_then (expression n false 0 ts) (resume n f.in_head)
opened_head n p ts e = sign_there t.open_parenthesis (λ us. and_then (expression n false 0 us) (resume n f.in_head)) stuck p ts e

not_opened_head : (n : ℕ) (ts : List Placed) → begins_with t.open_parenthesis ts ≡ false → by.in_parentheses (expression n) ts ≡ stuck ts
not_opened_head n ts e = sign_absent t.open_parenthesis (λ us. and_then (expression n false 0 us) (resume n f.in_head)) stuck ts e

pub head_moves : HeadMovesHold
head_moves n line fs =
    record {
      for_word = λ l x ts. refl;
      for_no_word = λ ts e. ap (λ r. means n fs r) (no_for ts e);
      for_in = λ x p ts e. ap (λ r. means n fs r) (keyword_there t.in_word (by.for_in (expression n) (block n) line x) stuck p ts e);
      for_not_in = λ x ts e. ap (λ r. means n fs r) (keyword_absent t.in_word (by.for_in (expression n) (block n) line x) stuck ts e);
      for_range = λ x p ts e.
          ap (λ r. means n fs r) (sign_there t.open_bracket (ranged x) (listed x) p ts e) ∙ pushed n (f.range_first line x) fs (expression n false 0 ts);
      for_list = λ x ts e. ap (λ r. means n fs r) (sign_absent t.open_bracket (ranged x) (listed x) ts e);
      while_named = λ l x ts. refl;
      while = λ ts e. ap (λ r. means n fs r) (unnamed_then (λ x us. head_read n line (f.while_head x) us) ts e);
      fork_named = λ l x ts. refl;
      fork = λ ts e. ap (λ r. means n fs r) (unnamed_then (λ x us. head_read n line (f.fork_head x) us) ts e);
      opened = λ h p ts e.
          ap (λ r. means n fs (and_then r (resume n (f.head_of line h)))) (opened_head n p ts e)
          ∙ pushed n (f.head_of line h) fs (and_then (expression n false 0 ts) (resume n f.in_head))
          ∙ pushed n f.in_head (push (f.head_of line h) fs) (expression n false 0 ts);
      not_opened = λ h ts e. ap (λ r. means n fs (and_then r (resume n (f.head_of line h)))) (not_opened_head n ts e);
      body = λ h e ts.
          pushed n (f.block_of_body line (f.body_of h e)) fs (by.block_to (f.end_word (f.body_of h e)) (block n) ts)
          ∙ pushed n (f.to_word (f.end_word (f.body_of h e))) (push (f.block_of_body line (f.body_of h e)) fs) (block n ts);
      whole = λ b p ts. refl;
    }
  where
    ranged : Text → List Placed → Read FoundStatement
    ranged x us = and_then (expression n false 0 us) (resume n (f.range_first line x))

    listed : Text → List Placed → Read FoundStatement
    listed x us = head_read n line (f.for_head x) us

    no_for : (ts : List Placed) → begins_with_word ts ≡ false → by.for_statement (expression n) (block n) line ts ≡ stuck ts
    no_for [] e = refl
    no_for (p ∷ ts) e = not_named p.token p.line (λ x l us. by.for_named (expression n) (block n) line (fold_case x) us) ts (p ∷ ts) e

pub head_ends : HeadEndsHold
head_ends n p ts =
    record {
      closed = λ e fs d. ap (λ r. means n fs r) (sign_there t.close_parenthesis (got e) stuck p ts d);
      dots = λ line x a fs d.
          ap (λ r. means n fs r) (sign_there t.double_dot (λ us. and_then (expression n false 0 us) (resume n (f.range_last line x a))) stuck p ts d)
          ∙ pushed n (f.range_last line x a) fs (expression n false 0 ts);
      bracket = λ line x a b fs d.
          ap (λ r. means n fs r) (sign_there t.close_bracket (f.body_read n line (f.range_body x a b)) stuck p ts d)
          ∙ pushed n (f.block_of_body line (f.range_body x a b)) fs (by.block_to t.endfor_word (block n) ts)
          ∙ pushed n (f.to_word t.endfor_word) (push (f.block_of_body line (f.range_body x a b)) fs) (block n ts);
    }

pub head_faults : HeadFaultsHold
head_faults n ts =
    record {
      not_closed = λ e fs d. ap (λ r. means n fs r) (sign_absent t.close_parenthesis (got e) stuck ts d);
      no_dots = λ line x a fs d.
          ap (λ r. means n fs r) (sign_absent t.double_dot (λ us. and_then (expression n false 0 us) (resume n (f.range_last line x a))) stuck ts d);
      no_bracket = λ line x a b fs d. ap (λ r. means n fs r) (sign_absent t.close_bracket (f.body_read n line (f.range_body x a b)) stuck ts d);
    }

-- ---- `if`

fewer_by_one : (n : ℕ) (ts : List Placed) → suc (suc (length ts)) < n → suc (length ts) < n
fewer_by_one n ts h = omega (arith, h)

pub branch_moves : BranchMovesHold
branch_moves n fs =
    record {
      opened = λ p ts h e.
          ap (λ r. means n fs r) (branches_again n (p ∷ ts) h ∙ ap (λ r. and_then r (resume n f.condition)) (opened_head n p ts e))
          ∙ pushed n f.condition fs (and_then (expression n false 0 ts) (resume n f.in_head))
          ∙ pushed n f.in_head (push f.condition fs) (expression n false 0 ts);
      not_opened = λ ts h e.
          ap (λ r. means n fs r) (branches_again n ts h ∙ ap (λ r. and_then r (resume n f.condition)) (not_opened_head n ts e));
      block_follows = λ c ts. pushed n (f.block_of_branch c) fs (block n ts);
      another = λ c b p ts e.
          ap (λ r. means n fs (and_then r (resume n (f.branch_before c b)))) (keyword_there t.elseif_word more perhaps_else p ts e)
          ∙ pushed n (f.branch_before c b) fs (branches n (expression n) (block n) ts);
      otherwise = λ c b p ts d e.
          ap (λ r. means n fs (and_then r (resume n (f.branch_before c b))))
          (keyword_absent t.elseif_word more perhaps_else (p ∷ ts) d ∙ keyword_there t.else_word else_read ended p ts e)
          ∙ pushed n (f.branch_before c b) fs (else_read ts)
          ∙ pushed n f.as_else (push (f.branch_before c b) fs) (by.block_to t.endif_word (block n) ts)
          ∙ pushed n (f.to_word t.endif_word) (push f.as_else (push (f.branch_before c b) fs)) (block n ts);
      last = λ c b p ts d e i.
          ap (λ r. means n fs (and_then r (resume n (f.branch_before c b))))
          (keyword_absent t.elseif_word more perhaps_else (p ∷ ts) d ∙ keyword_absent t.else_word else_read ended (p ∷ ts) e
          ∙ keyword_there t.endif_word (got by.no_more_branches) stuck p ts i);
      not_ended = λ c b ts d e i.
          ap (λ r. means n fs (and_then r (resume n (f.branch_before c b))))
          (keyword_absent t.elseif_word more perhaps_else ts d ∙ keyword_absent t.else_word else_read ended ts e
          ∙ keyword_absent t.endif_word (got by.no_more_branches) stuck ts i);
      else_whole = λ b ts. refl;
      joined = λ c b r ts. refl;
    }
  where
    more : List Placed → Read FoundBranches
    more us = branches n (expression n) (block n) us

    else_read : List Placed → Read FoundBranches
    else_read us = and_then (by.block_to t.endif_word (block n) us) (resume n f.as_else)

    ended : List Placed → Read FoundBranches
    ended us = past_keyword t.endif_word us (got by.no_more_branches)

    perhaps_else : List Placed → Read FoundBranches
    perhaps_else us = if_keyword t.else_word else_read ended us

-- ---- `try`

pub arm_moves : ArmMovesHold
arm_moves n fs =
    record {
      named = λ l x ts h. ap (λ r. means n fs r) (arms_again n (at l (t.word x) ∷ ts) h);
      unnamed = λ ts h e. ap (λ r. means n fs r) (arms_again n ts h ∙ unnamed_then (by.arm_named n (expression n) (block n) more) ts e);
      opened = λ x p ts e.
          ap (λ r. means n fs r) (sign_there t.open_parenthesis (codes_read x) stuck p ts e)
          ∙ pushed n (f.codes_of_arm x) fs (error_codes n (expression n) false ts);
      not_opened = λ x ts e. ap (λ r. means n fs r) (sign_absent t.open_parenthesis (codes_read x) stuck ts e);
      closed = λ x c p ts e.
          ap (λ r. means n fs r) (sign_there t.close_parenthesis (block_read x c) stuck p ts e) ∙ pushed n (f.block_of_arm x c) fs (block n ts);
      not_closed = λ x c ts e. ap (λ r. means n fs r) (sign_absent t.close_parenthesis (block_read x c) stuck ts e);
      another = λ x c b p ts e.
          ap (λ r. means n fs (and_then r (resume n (f.arm_before x c b)))) (keyword_there t.except_word more ended p ts e)
          ∙ pushed n (f.arm_before x c b) fs (arms n (expression n) (block n) ts);
      last = λ x c b p ts d e.
          ap (λ r. means n fs (and_then r (resume n (f.arm_before x c b))))
          (keyword_absent t.except_word more ended (p ∷ ts) d ∙ keyword_there t.endtry_word (got by.no_more_arms) stuck p ts e);
      not_ended = λ x c b ts d e.
          ap (λ r. means n fs (and_then r (resume n (f.arm_before x c b))))
          (keyword_absent t.except_word more ended ts d ∙ keyword_absent t.endtry_word (got by.no_more_arms) stuck ts e);
      joined = λ x c b r ts. refl;
    }
  where
    more : List Placed → Read FoundArms
    more us = arms n (expression n) (block n) us

    ended : List Placed → Read FoundArms
    ended us = past_keyword t.endtry_word us (got by.no_more_arms)

    codes_read : Option Text → List Placed → Read FoundArms
    codes_read x us = and_then (error_codes n (expression n) false us) (resume n (f.codes_of_arm x))

    block_read : Option Text → FoundCodes → List Placed → Read FoundArms
    block_read x c us = and_then (block n us) (resume n (f.block_of_arm x c))

pub try_moves : TryMovesHold
try_moves n line b fs =
    record {
      finally = λ p ts e.
          ap (λ r. means n fs r) (keyword_there t.finally_word finally_read handled p ts e)
          ∙ pushed n (f.finally_of line b) fs (by.block_to t.endtry_word (block n) ts)
          ∙ pushed n (f.to_word t.endtry_word) (push (f.finally_of line b) fs) (block n ts);
      except = λ p ts d e.
          ap (λ r. means n fs r) (keyword_absent t.finally_word finally_read handled (p ∷ ts) d ∙ keyword_there t.except_word arms_read stuck p ts e)
          ∙ pushed n (f.arms_of line b) fs (arms n (expression n) (block n) ts);
      neither = λ ts d e.
          ap (λ r. means n fs r) (keyword_absent t.finally_word finally_read handled ts d ∙ keyword_absent t.except_word arms_read stuck ts e);
      finished = λ q ts. refl;
      guarded = λ a ts. refl;
      branched = λ r ts. refl;
    }
  where
    finally_read : List Placed → Read FoundStatement
    finally_read us = by.finally_part (block n) line b us

    handled : List Placed → Read FoundStatement
    handled us = by.handlers n (expression n) (block n) line b us

    arms_read : List Placed → Read FoundStatement
    arms_read us = and_then (arms n (expression n) (block n) us) (resume n (f.arms_of line b))
