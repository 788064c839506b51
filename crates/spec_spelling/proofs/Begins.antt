-- With which token an expression begins, and which it does not.
use Rattle.std.proofs.Common.{◌≡◌, ℕ, Bool, true, false, List, [], ◌∷◌, ◌++◌, refl, ap, ◌∙◌}
use Rattle.spec_program.specs.Tokens as t
use Rattle.spec_program.specs.Tokens.{Sign, Token, Placed}
use Rattle.spec_program.specs.Tree.{Expr}
use Rattle.spec_program.specs.Reading.{Read, got, stuck, and_then, is_sign, is_keyword}
use Rattle.spec_program.specs.ReadExpressions.{expression}
use Rattle.spec_program.specs.Moves.{begins_with}
use Rattle.spec_program.specs.StatementMoves.{begins_expression, begins_with_keyword}
use Rattle.spec_program.specs.CanonicalTokens.{Laid, none, next}
use Rattle.spec_program.proofs.MovesHold.{expression_again}
use Rattle.spec_program.proofs.OtherMovesHold.{no_operand}
use Rattle.spec_program.proofs.Laid.{Enough, plain, Got, value_behind}

-- one after the other
pub laid_on : {ks js : List Token} {ts vs us : List Placed} → Laid ks ts vs → Laid js vs us → Laid (ks ++ js) ts us
laid_on none m = m
laid_on (next line l) m = next line (laid_on l m)

refuses : (n : ℕ) (b : Bool) (k : ℕ) (p : Placed) (ts : List Placed) → begins_expression p.token ≡ false → Enough n (p ∷ ts)
    → expression n b k (p ∷ ts) ≡ stuck (p ∷ ts)
refuses n b k p ts e i =
    expression_again n b k (p ∷ ts) (plain (p ∷ ts) i) ∙ ap (λ x. and_then x (value_behind n b k)) (no_operand n (expression n) b k p.token p.line ts (p ∷ ts) e)

nothing_read : (n : ℕ) (b : Bool) (k : ℕ) → Enough n [] → expression n b k [] ≡ stuck []
nothing_read n b k i = expression_again n b k [] (plain [] i)

not_both : {X : Type 0} {x : X} {r : Read X} {us ts : List Placed} → r ≡ got x us → r ≡ stuck ts → ⊥
not_both e d = cc

pub data Begins : List Placed → Type 0 where
  begins : (p : Placed) (ts : List Placed) → begins_expression p.token ≡ true → Begins (p ∷ ts)

pub starts : {n : ℕ} {b : Bool} {k : ℕ} {e : Expr} {us : List Placed} (ts : List Placed) → Got n b k e ts us → Enough n ts → Begins ts
starts {n} {b} {k} [] r i = absurd (not_both r.reads (nothing_read n b k i))
starts {n} {b} {k} {us = us} (p ∷ ts) r i = go (begins_expression p.token) refl
  where
    go : (c : Bool) → begins_expression p.token ≡ c → Begins (p ∷ ts)
    go true d = begins p ts d
    go false d = absurd (not_both r.reads (refuses n b k p ts d i))

-- ---- signs with which none does

no_question : (k : Token) → begins_expression k ≡ true → is_sign t.question k ≡ false
no_question (t.sign s) e = by_sign s e
  where
    by_sign : (s : Sign) → begins_expression (t.sign s) ≡ true → is_sign t.question (t.sign s) ≡ false
    by_sign t.question e = cc
    by_sign _ e = refl
no_question _ e = refl

no_at : (k : Token) → begins_expression k ≡ true → is_sign t.at_sign k ≡ false
no_at (t.sign s) e = by_sign s e
  where
    by_sign : (s : Sign) → begins_expression (t.sign s) ≡ true → is_sign t.at_sign (t.sign s) ≡ false
    by_sign t.at_sign e = cc
    by_sign _ e = refl
no_at _ e = refl

no_brace : (k : Token) → begins_expression k ≡ true → is_sign t.close_brace k ≡ false
no_brace (t.sign s) e = by_sign s e
  where
    by_sign : (s : Sign) → begins_expression (t.sign s) ≡ true → is_sign t.close_brace (t.sign s) ≡ false
    by_sign t.close_brace e = cc
    by_sign _ e = refl
no_brace _ e = refl

no_semicolon : (k : Token) → begins_expression k ≡ true → is_sign t.semicolon k ≡ false
no_semicolon (t.sign s) e = by_sign s e
  where
    by_sign : (s : Sign) → begins_expression (t.sign s) ≡ true → is_sign t.semicolon (t.sign s) ≡ false
    by_sign t.semicolon e = cc
    by_sign _ e = refl
no_semicolon _ e = refl

no_any : (k : Token) → begins_expression k ≡ true → is_keyword t.any_word k ≡ false
no_any (t.keyword w) e = cc
no_any _ e = refl

pub not_question : {ts : List Placed} → Begins ts → begins_with t.question ts ≡ false
not_question (begins p ts e) = no_question p.token e

pub not_at : {ts : List Placed} → Begins ts → begins_with t.at_sign ts ≡ false
not_at (begins p ts e) = no_at p.token e

pub not_brace : {ts : List Placed} → Begins ts → begins_with t.close_brace ts ≡ false
not_brace (begins p ts e) = no_brace p.token e

pub not_semicolon : {ts : List Placed} → Begins ts → begins_with t.semicolon ts ≡ false
not_semicolon (begins p ts e) = no_semicolon p.token e

pub not_any : {ts : List Placed} → Begins ts → begins_with_keyword t.any_word ts ≡ false
not_any (begins p ts e) = no_any p.token e
