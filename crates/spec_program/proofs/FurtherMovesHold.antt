-- Properties, verbs, indexes, calls, assignments and conditional expressions: each move over frames keeps what they mean.
use Rattle.std.proofs.Common.{◌≡◌, ℕ, zero, suc, ◌<◌, Bool, true, false, List, [], ◌∷◌, length, Option, Some, None, refl, ap, ◌∙◌, arith}
use Rattle.spec_value.specs.Datum.{Text, fold_case}
use Rattle.spec_program.specs.Tokens as t
use Rattle.spec_program.specs.Tokens.{Sign, Placed}
use Rattle.spec_program.specs.Tree.{variable, to_variable, Target}
use Rattle.spec_program.specs.Reading.{Read, got, stuck, and_then, past_sign}
use Rattle.spec_program.specs.ReadExpressions as by
use Rattle.spec_program.specs.ReadExpressions.{Found, Operand, Braces, steps, operators, expression}
use Rattle.spec_program.specs.Frames as f
use Rattle.spec_program.specs.Frames.{an_expression, an_operand, Frames, push, resume, means}
use Rattle.spec_program.specs.Moves.{at, begins_with}
use Rattle.spec_program.specs.FurtherMoves.{VariableMove, BarMove, StepMovesHold, StepEndsHold, ValueMovesHold}
use Rattle.spec_program.proofs.MovesHold.{steps_again, pushed, sign_there, sign_absent}

pub step_moves : StepMovesHold
step_moves n b o ts fs h e =
    record {
      property_word = λ l m x. ap (λ r. means n fs r) (begun (at l (t.sign t.dot)) (at m (t.word x) ∷ ts) h);
      property_parenthesis = λ l m.
          ap (λ r. means n fs r) (begun (at l (t.sign t.dot)) (at m (t.sign t.open_parenthesis) ∷ ts) h)
          ∙ pushed n (f.property_name b o) fs (and_then (expression n b 0 ts) (resume n (f.in_parentheses m)))
          ∙ pushed n (f.in_parentheses m) (push (f.property_name b o) fs) (expression n b 0 ts);
      verb_word = λ l m x. ap (λ r. means n fs r) (begun (at l (t.sign t.colon)) (at m (t.word x) ∷ ts) h);
      verb_parenthesis = λ l m.
          ap (λ r. means n fs r) (begun (at l (t.sign t.colon)) (at m (t.sign t.open_parenthesis) ∷ ts) h)
          ∙ pushed n (f.verb_name b o) fs (and_then (expression n b 0 ts) (resume n (f.in_parentheses m)))
          ∙ pushed n (f.in_parentheses m) (push (f.verb_name b o) fs) (expression n b 0 ts);
      bracket = λ l. ap (λ r. means n fs r) (begun (at l (t.sign t.open_bracket)) ts (omega (arith, h))) ∙ pushed n (f.index_in b o) fs (expression n true 0 ts);
    }
  where
    begun : (p : Placed) (us : List Placed) → suc (length us) < n
        → steps n (expression n) b o (p ∷ us) ≡ by.step_after n (expression n) b (steps n (expression n) b) o p.token us (p ∷ us)
    begun p us l = steps_again n b o (p ∷ us) l ∙ ap (λ c. by.steps_unless c n (expression n) b (steps n (expression n) b) o (p ∷ us)) e

pub step_ends : StepEndsHold
step_ends n b o p ts fs =
    record {
      verb_arguments = λ v e.
          ap (λ r. means n fs (and_then r (steps n (expression n) b)))
          (sign_there t.open_parenthesis (λ us. and_then (by.arguments_to t.close_parenthesis n (expression n) b us) (resume n (f.verb_arguments o.found v))) stuck p ts e)
          ∙ pushed n (f.steps_behind b) fs (and_then (by.arguments_to t.close_parenthesis n (expression n) b ts) (resume n (f.verb_arguments o.found v)))
          ∙ pushed n (f.verb_arguments o.found v) (push (f.steps_behind b) fs) (by.arguments_to t.close_parenthesis n (expression n) b ts);
      range = λ i e. ap (λ r. means n fs r) (sign_there t.double_dot (ranged i) (closed i) p ts e) ∙ pushed n (f.range_in b o i) fs (expression n true 0 ts);
      index_closed = λ i d e.
          ap (λ r. means n fs r)
          (sign_absent t.double_dot (ranged i) (closed i) (p ∷ ts) d ∙ sign_there t.close_bracket (λ ws. steps n (expression n) b (by.index_of o i) ws) stuck p ts e);
      range_closed = λ i j e. ap (λ r. means n fs r) (sign_there t.close_bracket (λ xs. steps n (expression n) b (by.range_of o i j) xs) stuck p ts e);
      called = λ x line e.
          ap (λ r. means n fs r)
          (sign_there t.open_parenthesis (λ us. and_then (by.arguments_to t.close_parenthesis n (expression n) b us) (resume n (f.call_of x line))) (got (named x line)) p ts e)
          ∙ pushed n (f.call_of x line) fs (by.arguments_to t.close_parenthesis n (expression n) b ts);
    }
  where
    ranged : Found → List Placed → Read Operand
    ranged i vs = and_then (expression n true 0 vs) (resume n (f.range_in b o i))

    closed : Found → List Placed → Read Operand
    closed i vs = past_sign t.close_bracket vs (λ ws. steps n (expression n) b (by.index_of o i) ws)

    named : Text → ℕ → Operand
    named x line = by.assignable (by.found_at line (variable (fold_case x)) []) (to_variable (fold_case x))

pub variable_move : VariableMove
variable_move n b x line ts fs e =
    ap (λ r. means n fs r)
    (sign_absent t.open_parenthesis (λ us. and_then (by.arguments_to t.close_parenthesis n (expression n) b us) (resume n (f.call_of x line)))
    (got (by.assignable (by.found_at line (variable (fold_case x)) []) (to_variable (fold_case x)))) ts e)

-- where no `=` follows, or none may stand
any_level : (k : ℕ) (there more : List Placed → Read Found) (ts : List Placed) → begins_with t.assign ts ≡ false → by.if_any_level k there more ts ≡ more ts
any_level zero there more ts e = sign_absent t.assign there more ts e
any_level (suc k) there more ts e = refl

pub no_assignment : (n : ℕ) (b : Bool) (k : ℕ) (a : Found) (y : Option Target) (more : List Placed → Read Found) (ts : List Placed)
    → begins_with t.assign ts ≡ false → by.target_or_value (expression n) b k a y more ts ≡ more ts
no_assignment n b k a None more ts e = refl
no_assignment n b k a (Some y) more ts e = any_level k (by.assigned (expression n) b a y) more ts e

pub not_assigned : (n : ℕ) (b : Bool) (k : ℕ) (o : Operand) (x : Braces) (more : List Placed → Read Found) (ts : List Placed)
    → by.is_surely_scatter x ≡ false → begins_with t.assign ts ≡ false → by.braces_or_value (expression n) b k o x more ts ≡ more ts
not_assigned n b k o by.no_braces more ts d e = no_assignment n b k o.found o.target more ts e
not_assigned n b k o (by.perhaps_scatter items ns) more ts d e = any_level k (by.scattered (expression n) b o.found.line items ns) more ts e
not_assigned n b k o (by.surely_scatter items ns) more ts d e = cc

within : (n : ℕ) (b : Bool) (k : ℕ) (o : Operand) (x : Braces) (y : Option Target) (more : List Placed → Read Found) (ts : List Placed)
    → by.is_surely_scatter x ≡ false → o.target ≡ y → by.braces_or_value (expression n) b (suc k) o x more ts ≡ more ts
within n b k o by.no_braces None more ts d e = ap (λ z. by.target_or_value (expression n) b (suc k) o.found z more ts) e
within n b k o by.no_braces (Some y) more ts d e = ap (λ z. by.target_or_value (expression n) b (suc k) o.found z more ts) e
within n b k o (by.perhaps_scatter items ns) y more ts d e = refl
within n b k o (by.surely_scatter items ns) y more ts d e = cc

pub value_moves : ValueMovesHold
value_moves n b o fs =
    record {
      assigned = λ x p ts d g e.
          ap (λ r. means n fs r)
          (ap (λ z. by.braces_or_value (expression n) b zero o z (more zero) (p ∷ ts)) d
          ∙ ap (λ z. by.target_or_value (expression n) b zero o.found z (more zero) (p ∷ ts)) g
          ∙ sign_there t.assign (by.assigned (expression n) b o.found x) (more zero) p ts e)
          ∙ pushed n (f.assigned_to o.found x) fs (expression n b 0 ts);
      scattered = λ items ns p ts d e.
          ap (λ r. means n fs r)
          (ap (λ z. by.braces_or_value (expression n) b zero o z (more zero) (p ∷ ts)) d
          ∙ sign_there t.assign (by.scattered (expression n) b o.found.line items ns) (more zero) p ts e)
          ∙ pushed n (f.scattered_to o.found.line items ns) fs (expression n b 0 ts);
      surely_scattered = λ items ns p ts d e.
          ap (λ r. means n fs r)
          (ap (λ z. by.braces_or_value (expression n) b zero o z (more zero) (p ∷ ts)) d
          ∙ sign_there t.assign (by.scattered (expression n) b o.found.line items ns) stuck p ts e)
          ∙ pushed n (f.scattered_to o.found.line items ns) fs (expression n b 0 ts);
      no_target = λ k ts d g.
          ap (λ r. means n fs r)
          (ap (λ z. by.braces_or_value (expression n) b k o z (more k) ts) d ∙ ap (λ z. by.target_or_value (expression n) b k o.found z (more k) ts) g);
      value = λ k ts d e. ap (λ r. means n fs r) (not_assigned n b k o o.braces (more k) ts d e);
      inner = λ k ts d. ap (λ r. means n fs r) (within n b k o o.braces o.target (more (suc k)) ts d refl);
    }
  where
    more : ℕ → List Placed → Read Found
    more k = operators n (expression n) b k o.found

pub bar_move : BarMove
bar_move n b k c x p ts fs e =
    ap (λ r. means n fs r) (sign_there t.bar (λ vs. and_then (expression n b 1 vs) (resume n (f.chosen_second b k c x))) stuck p ts e)
    ∙ pushed n (f.chosen_second b k c x) fs (expression n b 1 ts)
