-- Readers with a number that is enough go on with the same number, and each move over frames keeps what they mean.
use Rattle.std.proofs.Common.{◌≡◌, ℕ, suc, ◌<◌, Bool, true, false, List, [], ◌∷◌, length, refl, sym, ap, ◌∙◌, arith}
use Rattle.std.specs.Prelude.{nat_le}
use Rattle.spec_value.specs.Datum as value
use Rattle.spec_value.specs.Operators.{negation, not_true}
use Rattle.spec_program.specs.Tokens as t
use Rattle.spec_program.specs.Tokens.{Sign, Placed}
use Rattle.spec_program.specs.Tree.{binary, both, either}
use Rattle.spec_program.specs.Spelling.{operator_level, right_level}
use Rattle.spec_program.specs.Reading.{Read, got, stuck, and_then, chosen, if_sign, is_sign}
use Rattle.spec_program.specs.ReadExpressions as by
use Rattle.spec_program.specs.ReadExpressions.{Found, FoundArguments, Joint, some_arguments, steps, items_from, operators, expression}
use Rattle.spec_program.specs.ReadPrograms.{branches, arms, block}
use Rattle.spec_program.specs.Remaining.{Both}
use Rattle.spec_program.specs.Frames as f
use Rattle.spec_program.specs.Frames.{Kind, an_expression, an_operand, some_arguments_read, Of, Frame, Frames, push, resume, means}
use Rattle.spec_program.specs.Moves.{ExpressionAgain, ArgumentsAgain, StepsAgain, ItemsAgain, OperatorsAgain, BlockAgain, BranchesAgain, ArmsAgain, PushIsThen, begins_with, ExpressionMove, is_tight, OperandMovesHold, ArgumentMovesHold, OperatorMovesHold, OperatorsEnd}
use Rattle.spec_program.proofs.AlikeExpressions.{enough_for_expression, enough_for_arguments, enough_for_steps, enough_for_items, enough_for_operators}
use Rattle.spec_program.proofs.AlikePrograms.{enough_for_block, enough_for_branches, enough_for_arms}

-- ---- each reader by itself

one_more : (n : ℕ) (ts : List Placed) → length ts < n → length ts < suc n
one_more n ts h = omega (arith, h)

one_over : (n : ℕ) (ts : List Placed) → length ts < n → Both (suc n) n ts
one_over n ts h = record { own = one_more n ts h; within = h }

just : (n : ℕ) (ts : List Placed) → length ts < n → Both n n ts
just n ts h = record { own = h; within = h }

pub expression_again : ExpressionAgain
unfolding expression
expression_again n b k ts h = enough_for_expression n (suc n) b k ts h (one_more n ts h)

pub arguments_again : ArgumentsAgain
unfolding some_arguments
arguments_again n b ts h = enough_for_arguments n (suc n) n n b ts (just n ts h) (one_over n ts h)

pub steps_again : StepsAgain
unfolding steps
steps_again n b o ts h = enough_for_steps n (suc n) n n b o ts (just n ts h) (one_over n ts h)

pub items_again : ItemsAgain
unfolding items_from
items_again n b a ts h = enough_for_items n (suc n) n n b a ts (just n ts h) (one_over n ts h)

pub operators_again : OperatorsAgain
unfolding operators
operators_again n b k a ts h = enough_for_operators n (suc n) n n b k a ts (just n ts h) (one_over n ts h)

fewer_by_one : (n : ℕ) (ts : List Placed) → suc (length ts) < n → length ts < n
fewer_by_one n ts h = omega (arith, h)

pub block_again : BlockAgain
unfolding block
block_again n ts h = enough_for_block n (suc n) ts h (omega (arith, h))

pub branches_again : BranchesAgain
unfolding branches
branches_again n ts h =
    let l = fewer_by_one n ts h in enough_for_branches n (suc n) n n n n ts (just n ts l) (one_over n ts l) h h

pub arms_again : ArmsAgain
unfolding arms
arms_again n ts h =
    let l = fewer_by_one n ts h in enough_for_arms n (suc n) n n n n ts (just n ts l) (one_over n ts l) h h

-- ---- frames

pub push_is_then : PushIsThen
push_is_then a c n f fs (got v ts) = refl
push_is_then a c n f fs (stuck ts) = refl

pub pushed : {a c : Kind} (n : ℕ) (f : Frame a c) (fs : Frames c) (r : Read (Of a)) → means n fs (and_then r (resume n f)) ≡ means n (push f fs) r
pushed {a} {c} n f fs r = sym (push_is_then a c n f fs r)

pub sign_there : {X : Type 0} (s : Sign) (f g : List Placed → Read X) (p : Placed) (ts : List Placed) → is_sign s p.token ≡ true → if_sign s f g (p ∷ ts) ≡ f ts
sign_there s f g p ts e = ap (λ c. chosen c f g ts (p ∷ ts)) e

pub sign_absent : {X : Type 0} (s : Sign) (f g : List Placed → Read X) (ts : List Placed) → begins_with s ts ≡ false → if_sign s f g ts ≡ g ts
sign_absent s f g [] e = refl
sign_absent s f g (p ∷ ts) e = ap (λ c. chosen c f g ts (p ∷ ts)) e

pub expression_move : ExpressionMove
expression_move n b k ts fs h = ap (λ r. means n fs r) (expression_again n b k ts h) ∙ pushed n (f.value_behind b k) fs (by.operand n (expression n) b k ts)

-- ---- the moves

pub operand_moves : OperandMovesHold
operand_moves n b k line ts fs =
    record {
      minus = pushed n (f.behind_sign negation line) fs (expression n b 7 ts);
      not_sign = pushed n (f.behind_sign not_true line) fs (expression n b 7 ts);
      parenthesis = in_order (expression n b 0 ts);
      backquote = caught_order (expression n b 0 ts);
      brace = pushed n (f.steps_behind b) fs (by.in_braces n (expression n) b k line ts);
      dollar = pushed n (f.steps_behind b) fs (by.dollar_first n (expression n) b line ts);
      name = λ x. pushed n (f.steps_behind b) fs (by.word_first n (expression n) b x line ts);
      number = λ i. pushed n (f.steps_behind b) fs (by.literal_at line (value.integer (by.integer_value i)) ts);
      string = λ x. pushed n (f.steps_behind b) fs (by.literal_at line (value.text x) ts);
      object = λ below i. pushed n (f.steps_behind b) fs (by.literal_at line (value.object (by.object_value below i)) ts);
      error_name = λ e. pushed n (f.steps_behind b) fs (by.literal_at line (value.error e) ts);
    }
  where
    in_order : (r : Read Found)
        → means n fs (by.with_steps n (expression n) b (and_then (and_then r (resume n (f.in_parentheses line))) (resume n f.as_operand)))
        ≡ means n (push (f.in_parentheses line) (push f.as_operand (push (f.steps_behind b) fs))) r
    in_order r =
        pushed n (f.steps_behind b) fs (and_then (and_then r (resume n (f.in_parentheses line))) (resume n f.as_operand))
        ∙ pushed n f.as_operand (push (f.steps_behind b) fs) (and_then r (resume n (f.in_parentheses line)))
        ∙ pushed n (f.in_parentheses line) (push f.as_operand (push (f.steps_behind b) fs)) r

    caught_order : (r : Read Found)
        → means n fs (by.with_steps n (expression n) b (and_then r (resume n (f.caught_in b line)))) ≡ means n (push (f.caught_in b line) (push (f.steps_behind b) fs)) r
    caught_order r =
        pushed n (f.steps_behind b) fs (and_then r (resume n (f.caught_in b line))) ∙ pushed n (f.caught_in b line) (push (f.steps_behind b) fs) r

pub argument_moves : ArgumentMovesHold
argument_moves n b fs =
    record {
      none = λ s p ts e. ap (λ r. means n fs r) (sign_there s (got by.none_found) (to s) p ts e);
      some = λ s ts e. ap (λ r. means n fs r) (sign_absent s (got by.none_found) (to s) ts e) ∙ pushed n (f.to_sign s) fs (some_arguments n (expression n) b ts);
      plain = λ ts h e.
          ap (λ r. means n fs r) (arguments_again n b ts h ∙ sign_absent t.at_sign (one true) (one false) ts e)
          ∙ pushed n (f.behind_argument b false) fs (expression n b 0 ts);
      spliced = λ p ts h e.
          ap (λ r. means n fs r) (arguments_again n b (p ∷ ts) h ∙ sign_there t.at_sign (one true) (one false) p ts e)
          ∙ pushed n (f.behind_argument b true) fs (expression n b 0 ts);
      another = λ c e p ts h.
          ap (λ r. means n fs (and_then r (λ es us. got (by.with_argument c e es) us))) (sign_there t.comma (some_arguments n (expression n) b) (got by.none_found) p ts h)
          ∙ pushed n (f.argument_before c e) fs (some_arguments n (expression n) b ts);
      last = λ c e ts h.
          ap (λ r. means n fs (and_then r (λ es us. got (by.with_argument c e es) us))) (sign_absent t.comma (some_arguments n (expression n) b) (got by.none_found) ts h);
      joined = λ c e es ts. refl;
      closed = λ s es p ts e. ap (λ r. means n fs r) (sign_there s (got es) stuck p ts e);
      unclosed = λ s es ts e. ap (λ r. means n fs r) (sign_absent s (got es) stuck ts e);
    }
  where
    to : Sign → List Placed → Read FoundArguments
    to s us = and_then (some_arguments n (expression n) b us) (λ es vs. if_sign s (got es) stuck vs)

    one : Bool → List Placed → Read FoundArguments
    one spliced = by.one_argument (expression n) b (some_arguments n (expression n) b) spliced

pub loose : (n : ℕ) (b : Bool) (k : ℕ) (a : Found) (j : Joint) (p : Placed) (ts : List Placed) → is_tight k j ≡ false
    → by.join_by (expression n) b (operators n (expression n) b k) k a j ts (p ∷ ts) ≡ got a (p ∷ ts)
loose n b k a (by.operator o) p ts e =
    ap (λ c. by.if_tight c (by.joined (expression n) b (operators n (expression n) b k) a (right_level o) (binary o)) (got a) ts (p ∷ ts)) e
loose n b k a by.and_joint p ts e = ap (λ c. by.if_tight c (by.joined (expression n) b (operators n (expression n) b k) a 3 both) (got a) ts (p ∷ ts)) e
loose n b k a by.or_joint p ts e = ap (λ c. by.if_tight c (by.joined (expression n) b (operators n (expression n) b k) a 3 either) (got a) ts (p ∷ ts)) e
loose n b k a by.question_joint p ts e = ap (λ c. by.if_tight c (by.chosen_between (expression n) b (operators n (expression n) b k) a) (got a) ts (p ∷ ts)) e
loose n b k a by.no_joint p ts e = refl

pub operator_moves : OperatorMovesHold
operator_moves n b k a p ts fs h =
    record {
      operator = λ o e l.
          ap (λ r. means n fs r) (by_joint (by.operator o) e ∙ if_tight (nat_le k (operator_level o)) (by.joined (expression n) b more a (right_level o) (binary o)) l)
          ∙ pushed n (f.right_of b k a (f.by_operator o)) fs (expression n b (right_level o) ts);
      both = λ e l.
          ap (λ r. means n fs r) (by_joint by.and_joint e ∙ if_tight (nat_le k 2) (by.joined (expression n) b more a 3 both) l)
          ∙ pushed n (f.right_of b k a f.by_both) fs (expression n b 3 ts);
      either = λ e l.
          ap (λ r. means n fs r) (by_joint by.or_joint e ∙ if_tight (nat_le k 2) (by.joined (expression n) b more a 3 either) l)
          ∙ pushed n (f.right_of b k a f.by_either) fs (expression n b 3 ts);
      question = λ e l.
          ap (λ r. means n fs r) (by_joint by.question_joint e ∙ if_tight (nat_le k 1) (by.chosen_between (expression n) b more a) l)
          ∙ pushed n (f.chosen_first b k a) fs (expression n b 0 ts);
      looser = λ e. ap (λ r. means n fs r) (operators_again n b k a (p ∷ ts) h ∙ loose n b k a (by.joint p.token) p ts e);
    }
  where
    more : Found → List Placed → Read Found
    more c us = operators n (expression n) b k c us

    by_joint : (j : Joint) → by.joint p.token ≡ j → operators n (expression n) b k a (p ∷ ts) ≡ by.join_by (expression n) b (operators n (expression n) b k) k a j ts (p ∷ ts)
    by_joint j e = operators_again n b k a (p ∷ ts) h ∙ ap (λ i. by.join_by (expression n) b (operators n (expression n) b k) k a i ts (p ∷ ts)) e

    if_tight : (c : Bool) (there : List Placed → Read Found) → c ≡ true → by.if_tight c there (got a) ts (p ∷ ts) ≡ there ts
    if_tight c there e = ap (λ d. by.if_tight d there (got a) ts (p ∷ ts)) e

pub operators_end : OperatorsEnd
operators_end n b k a fs h = ap (λ r. means n fs r) (operators_again n b k a [] h)
