-- Tokens of canonical spellings where they stand, and what stands behind them.
use Rattle.std.proofs.Common.{◌≡◌, ◌≤◌, ◌<◌, ℕ, suc, Bool, true, false, List, [], ◌∷◌, ◌++◌, length, refl, ap, ◌∙◌, arith}
use Rattle.spec_program.specs.Tree.{Expr}
use Rattle.spec_program.specs.Tokens as t
use Rattle.spec_program.specs.Tokens.{Sign, Token, Placed}
use Rattle.spec_program.specs.Reading.{Read, got, and_then, Node}
use Rattle.spec_program.specs.ReadExpressions as by
use Rattle.spec_program.specs.ReadExpressions.{Found, Operand, Braces, Joint, steps, operators, expression, operand}
use Rattle.spec_program.specs.Moves.{at, begins_with}
use Rattle.spec_program.specs.StatementMoves.{begins_with_word}
use Rattle.spec_program.specs.OtherMoves.{is_step}
use Rattle.spec_program.specs.Trees.{expr_height}
use Rattle.spec_program.specs.Tree.{Target}
use Rattle.spec_program.specs.CanonicalTokens.{Laid, none, next, is_loose, Loose, Stops}
use Rattle.std.specs.Prelude.{Option}
use Rattle.spec_program.proofs.LowTrees.{Within}
use Rattle.spec_program.proofs.MovesHold.{expression_again, steps_again, operators_again, loose}
use Rattle.spec_program.proofs.FurtherMovesHold.{not_assigned}
use Rattle.spec_program.proofs.OtherMovesHold.{stops, stops_at_end}

pub data Cut (ks js : List Token) (ts us : List Placed) : Type 0 where
  cut : (vs : List Placed) → Laid ks ts vs → Laid js vs us → Cut ks js ts us

cut_next : {k : Token} {ks js : List Token} {ts us : List Placed} (line : ℕ) → Cut ks js ts us → Cut (k ∷ ks) js (at line k ∷ ts) us
cut_next line (cut vs l m) = cut vs (next line l) m

pub split : (ks js : List Token) {ts us : List Placed} → Laid (ks ++ js) ts us → Cut ks js ts us
split [] js {ts} l = cut ts none l
split (k ∷ ks) js (next line l) = cut_next line (split ks js l)

-- ---- a number that is enough

abbrev pub Enough : ℕ → List Placed → Type 0
Enough n ts = suc (length ts) < n

fewer : {ks : List Token} {ts us : List Placed} → Laid ks ts us → length us ≤ length ts
fewer (none {us = us}) = let x : length us ≤ length us = omega arith in x
fewer (next {ts = ts} {us = us} line l) = let h = fewer l in let x : length us ≤ suc (length ts) = omega (arith, h) in x

pub later : {n : ℕ} {ks : List Token} {ts us : List Placed} → Laid ks ts us → Enough n ts → Enough n us
later l h = let x = fewer l in omega (arith, x, h)

pub tail : {n : ℕ} (p : Placed) (ts : List Placed) → Enough n (p ∷ ts) → Enough n ts
tail p ts h = omega (arith, h)

pub plain : {n : ℕ} (ts : List Placed) → Enough n ts → length ts < n
plain ts h = omega (arith, h)

-- ---- what may stand behind: neither a parenthesis nor a word

abbrev pub is_free : Token → Bool
is_free (t.word x) = false
is_free (t.sign t.open_parenthesis) = false
is_free k = true

abbrev pub Free : List Placed → Type 0
Free [] = Unit {0}
Free (p ∷ ts) = is_free p.token ≡ true

free_token : (k : Token) → is_loose k ≡ true → is_free k ≡ true
free_token (t.word x) e = cc
free_token (t.sign s) e = by_sign s e
  where
    by_sign : (s : Sign) → is_loose (t.sign s) ≡ true → is_free (t.sign s) ≡ true
    by_sign t.open_parenthesis e = cc
    by_sign _ e = refl
free_token _ e = refl

pub free : (us : List Placed) → Loose us → Free us
free [] h = tt
free (p ∷ us) h = free_token p.token h

no_parenthesis_token : (k : Token) → is_free k ≡ true → begins_with t.open_parenthesis (at 0 k ∷ []) ≡ false
no_parenthesis_token (t.sign s) e = by_sign s e
  where
    by_sign : (s : Sign) → is_free (t.sign s) ≡ true → begins_with t.open_parenthesis (at 0 (t.sign s) ∷ []) ≡ false
    by_sign t.open_parenthesis e = cc
    by_sign _ e = refl
no_parenthesis_token _ e = refl

pub no_parenthesis : (us : List Placed) → Free us → begins_with t.open_parenthesis us ≡ false
no_parenthesis [] h = refl
no_parenthesis (p ∷ us) h = no_parenthesis_token p.token h

no_word_token : (k : Token) → is_free k ≡ true → begins_with_word (at 0 k ∷ []) ≡ false
no_word_token (t.word x) e = cc
no_word_token _ e = refl

pub no_word : (us : List Placed) → Free us → begins_with_word us ≡ false
no_word [] h = refl
no_word (p ∷ us) h = no_word_token p.token h

no_step_token : (k : Token) → is_loose k ≡ true → is_step k ≡ false
no_step_token (t.sign s) e = by_sign s e
  where
    by_sign : (s : Sign) → is_loose (t.sign s) ≡ true → is_step (t.sign s) ≡ false
    by_sign t.dot e = cc
    by_sign t.colon e = cc
    by_sign t.open_bracket e = cc
    by_sign _ e = refl
no_step_token _ e = refl

no_assign_token : (k : Token) → is_loose k ≡ true → begins_with t.assign (at 0 k ∷ []) ≡ false
no_assign_token (t.sign s) e = by_sign s e
  where
    by_sign : (s : Sign) → is_loose (t.sign s) ≡ true → begins_with t.assign (at 0 (t.sign s) ∷ []) ≡ false
    by_sign t.assign e = cc
    by_sign _ e = refl
no_assign_token _ e = refl

no_assign : (us : List Placed) → Loose us → begins_with t.assign us ≡ false
no_assign [] h = refl
no_assign (p ∷ us) h = no_assign_token p.token h

-- ---- what is read

abbrev pub of : Expr → ℕ → List Node → Found
of e line ns = record { tree = e; line = line; nodes = ns }

-- an operand, and its steps are read next
pub record Post (n : ℕ) (b : Bool) (k : ℕ) (e : Expr) (ts us : List Placed) : Type 0 where
  pub line : ℕ
  pub nodes : List Node
  pub target : Option Target
  pub ranged : Bool
  pub braces : Braces
  pub low : Within (expr_height e) nodes
  pub sure : by.is_surely_scatter braces ≡ false
  pub reads :
      operand n (expression n) b k ts
      ≡ steps n (expression n) b (record { found = of e line nodes; target = target; ranged = ranged; braces = braces }) us

-- an expression, and the operators behind it are read next
pub record Begun (n : ℕ) (b : Bool) (k : ℕ) (e : Expr) (ts us : List Placed) : Type 0 where
  pub line : ℕ
  pub nodes : List Node
  pub low : Within (expr_height e) nodes
  pub reads : expression n b k ts ≡ operators n (expression n) b k (of e line nodes) us

pub record Got (n : ℕ) (b : Bool) (k : ℕ) (e : Expr) (ts us : List Placed) : Type 0 where
  pub line : ℕ
  pub nodes : List Node
  pub low : Within (expr_height e) nodes
  pub reads : expression n b k ts ≡ got (of e line nodes) us

pub stop : (n : ℕ) (b : Bool) (k : ℕ) (a : Found) (us : List Placed) → Enough n us → Stops k us → operators n (expression n) b k a us ≡ got a us
stop n b k a [] h s = operators_again n b k a [] (plain [] h)
stop n b k a (p ∷ us) h s = operators_again n b k a (p ∷ us) (plain (p ∷ us) h) ∙ loose n b k a (by.joint p.token) p us s

pub ended : {n : ℕ} {b : Bool} {k : ℕ} {e : Expr} {ts us : List Placed} → Begun n b k e ts us → Enough n us → Stops k us → Got n b k e ts us
ended {n} {b} {k} {e} {ts} {us} r h s =
    record { line = r.line; nodes = r.nodes; low = r.low; reads = r.reads ∙ stop n b k (of e r.line r.nodes) us h s }

no_steps : (n : ℕ) (b : Bool) (o : Operand) (us : List Placed) → Enough n us → Loose us → steps n (expression n) b o us ≡ got o us
no_steps n b o [] h l = steps_again n b o [] (plain [] h) ∙ stops_at_end n (by.is_surely_scatter o.braces) b o
no_steps n b o (p ∷ us) h l =
    steps_again n b o (p ∷ us) (plain (p ∷ us) h) ∙ stops n (by.is_surely_scatter o.braces) b o p us (no_step_token p.token l)

abbrev pub value_behind : (n : ℕ) (b : Bool) (k : ℕ) (o : Operand) (us : List Placed) → Read Found
value_behind n b k o us = by.braces_or_value (expression n) b k o o.braces (operators n (expression n) b k o.found) us

-- with nothing behind it that an operand takes
pub operand_begins : {n : ℕ} {b : Bool} {k : ℕ} {e : Expr} {ts us : List Placed}
    → Post n b k e ts us → Enough n ts → Enough n us → Loose us → Begun n b k e ts us
operand_begins {n} {b} {k} {e} {ts} {us} r h i l =
    record {
      line = r.line;
      nodes = r.nodes;
      low = r.low;
      reads =
          expression_again n b k ts (plain ts h)
          ∙ ap (λ x. and_then x (value_behind n b k)) (r.reads ∙ no_steps n b o us i l)
          ∙ not_assigned n b k o o.braces (operators n (expression n) b k o.found) us r.sure (no_assign us l);
    }
  where
    o : Operand
    o = record { found = of e r.line r.nodes; target = r.target; ranged = r.ranged; braces = r.braces }
