-- Canonical tokens of statements are read as the trees that they are of.
use Rattle.std.proofs.Common.{arith, ◌≡◌, ℕ, Bool, true, false, not, ◌&&◌, ◌||◌, List, [], ◌∷◌, ◌++◌, map, Option, Some, None, IsTrue, refl, sym, ap, subst, ◌∙◌}
use Rattle.std.specs.Prelude.{max, cond}
use Rattle.std.specs.List.{list_all}
use Rattle.spec_value.proofs.Entries.{first_holds, second_holds}
use Rattle.spec_value.specs.Datum.{Text}
use Rattle.spec_program.specs.Tree.{Expr, Statement, evaluate, give, give_zero, for_each, for_range, repeat, fork, leave_loop, next_turn, Program, the_end, seq}
use Rattle.spec_program.specs.Tokens as t
use Rattle.spec_program.specs.Tokens.{Sign, Keyword, Token, Placed}
use Rattle.spec_program.specs.Reading.{Read, got, stuck, and_then, past_sign, past_keyword, is_keyword, Node, under}
use Rattle.spec_program.specs.ReadExpressions.{Found, ReadsExpression, expression}
use Rattle.spec_program.specs.ReadPrograms as by
use Rattle.spec_program.specs.ReadPrograms.{Stray, FoundBlock, FoundStatement, FoundBranches, FoundArms, ReadsBlock, names_none, same_name, goes_out, out_of_loop, block}
use Rattle.spec_program.specs.Moves.{at}
use Rattle.spec_program.specs.StatementMoves.{begins_expression, ends_block}
use Rattle.spec_program.specs.Trees.{is_name, may_name, is_around, expr_fits, statement_fits, program_fits, expr_height, statement_height, program_height}
use Rattle.spec_program.specs.CanonicalTokens.{Laid, none, next, between, in_parentheses, expression_tokens, Loose, Stops}
use Rattle.spec_program.proofs.LowTrees.{Within}
use Rattle.spec_program.proofs.ReadFits.{and_also}
use Rattle.spec_program.proofs.StatementsFit.{taken, Taken}
use Rattle.spec_program.proofs.MovesHold.{block_again, sign_absent}
use Rattle.spec_program.proofs.StatementMovesHold.{keyword_there}
use Rattle.spec_program.proofs.Laid.{Cut, cut, split, Enough, later, tail, of, Got}
use Rattle.spec_program.proofs.OperatorsBack.{one_higher, of_two, wider, whole_back}
use Rattle.spec_program.proofs.OperandsBack.{name_is_lower}
use Rattle.spec_spelling.specs.ProgramTokens.{with_semicolon, up_to, name_before, head, statement_tokens, program_tokens}
use Rattle.spec_spelling.proofs.Begins.{Begins, begins, starts, not_semicolon}
use Rattle.spec_spelling.proofs.ExpressionsBack.{back}

-- ---- `break` and `continue` that the loops around take

pub taken_both : (loops : List (Option Text)) (ss rs : List Stray) → Taken loops ss → Taken loops rs → Taken loops (ss ++ rs)
taken_both loops [] rs h k = k
taken_both loops (s ∷ ss) rs h k = and_also (first_holds (taken loops s) _ h) (taken_both loops ss rs (second_holds (taken loops s) _ h) k)

-- what goes out of a loop is taken by those around it
taken_outside : (own : Option Text) (loops : List (Option Text)) (ss : List Stray) → Taken (own ∷ loops) ss → Taken loops (out_of_loop own ss)
taken_outside own loops [] h = refl
taken_outside own loops (s ∷ ss) h = go (taken_outside own loops ss (second_holds (taken (own ∷ loops) s) _ h)) (goes_out own s) refl
  where
    out : (c m r : Bool) → (c || not m) ≡ true → IsTrue (not c && (m || r)) → IsTrue (not c && r)
    out true m r e k = cc
    out false true r e k = cc
    out false false r e k = k

    go : Taken loops (out_of_loop own ss) → (b : Bool) → goes_out own s ≡ b
        → IsTrue (list_all (taken loops) (cond b (s ∷ out_of_loop own ss) (out_of_loop own ss)))
    go rest true e =
        and_also (out s.cut_off (names_none s.name || same_name s.name own) (is_around loops s.name) e (first_holds (taken (own ∷ loops) s) _ h)) rest
    go rest false e = rest

-- none is taken where there is no loop
none_taken : (ss : List Stray) → Taken [] ss → ss ≡ []
none_taken [] h = refl
none_taken (s ∷ ss) h = absurd (never (not s.cut_off) (first_holds (taken [] s) _ h))
  where
    never : (c : Bool) → IsTrue (c && false) → ⊥
    never true k = cc
    never false k = cc

cut_taken : (loops : List (Option Text)) (ss : List Stray) → Taken [] ss → Taken loops (map by.cut ss)
cut_taken loops ss h = subst (λ rs. Taken loops (map by.cut rs)) (sym (none_taken ss h)) refl

pub no_strays : (ss : List Stray) → Taken [] ss → ss ≡ []
no_strays ss h = none_taken ss h

-- ---- what is read

pub record BlockGot (n : ℕ) (loops : List (Option Text)) (p : Program) (ts us : List Placed) : Type 0 where
  pub nodes : List Node
  pub strays : List Stray
  pub low : Within (program_height p) nodes
  pub kept : Taken loops strays
  pub reads : block n ts ≡ got (record { tree = p; nodes = nodes; strays = strays }) us

pub record StatementGot (n : ℕ) (loops : List (Option Text)) (s : Statement) (ts us : List Placed) : Type 0 where
  pub nodes : List Node
  pub strays : List Stray
  pub low : Within (statement_height s) nodes
  pub kept : Taken loops strays
  pub reads : block n ts ≡ by.then_block (block n) (got (record { tree = s; nodes = nodes; strays = strays }) us)

-- no statement begins there
abbrev pub Ended : List Placed → Type 0
Ended [] = Unit {0}
Ended (p ∷ ts) = ends_block p.token ≡ true

pub record ProgramBack (p : Program) : Type 0 where
  pub block_back :
      (n : ℕ) (loops : List (Option Text)) (ts us : List Placed) → IsTrue (program_fits loops p)
      → Laid (program_tokens p) ts us → Enough n ts → Ended us → BlockGot n loops p ts us

pub record StatementBack (s : Statement) : Type 0 where
  pub statement_back :
      (n : ℕ) (loops : List (Option Text)) (ts us : List Placed) → IsTrue (statement_fits loops s)
      → Laid (statement_tokens s) ts us → Enough n ts → StatementGot n loops s ts us

-- ---- programs

none_first : (n : ℕ) (reads : ReadsExpression) (blocks : ReadsBlock) (k : Token) (line : ℕ) (rest all : List Placed)
    → ends_block k ≡ true → by.by_token n reads blocks k line rest all ≡ got by.no_statements all
none_first n reads blocks (t.keyword k) line rest all e = by_keyword k e
  where
    by_keyword : (k : Keyword) → ends_block (t.keyword k) ≡ true → by.by_keyword n reads blocks k line rest all ≡ got by.no_statements all
    by_keyword t.if_word e = cc
    by_keyword t.for_word e = cc
    by_keyword t.while_word e = cc
    by_keyword t.fork_word e = cc
    by_keyword t.try_word e = cc
    by_keyword t.break_word e = cc
    by_keyword t.continue_word e = cc
    by_keyword t.return_word e = cc
    by_keyword _ e = refl
none_first n reads blocks (t.sign s) line rest all e = by_sign s e
  where
    by_sign : (s : Sign) → ends_block (t.sign s) ≡ true → by.by_token n reads blocks (t.sign s) line rest all ≡ got by.no_statements all
    by_sign t.semicolon e = cc
    by_sign t.minus_sign e = cc
    by_sign t.not_sign e = cc
    by_sign t.open_parenthesis e = cc
    by_sign t.open_brace e = cc
    by_sign t.dollar e = cc
    by_sign t.backquote e = cc
    by_sign _ e = refl
none_first n reads blocks (t.bad k) line rest all e = refl
none_first n reads blocks _ line rest all e = cc

nothing_first : (n : ℕ) (ts : List Placed) → Enough n ts → Ended ts → block n ts ≡ got by.no_statements ts
nothing_first n [] i e = block_again n [] i
nothing_first n (p ∷ ts) i e = block_again n (p ∷ ts) i ∙ none_first n (expression n) (block n) p.token p.line ts (p ∷ ts) e

pub end_back : ProgramBack the_end
end_back = record { block_back = go }
  where
    go : (n : ℕ) (loops : List (Option Text)) (ts us : List Placed) → IsTrue (program_fits loops the_end)
        → Laid (program_tokens the_end) ts us → Enough n ts → Ended us → BlockGot n loops the_end ts us
    go n loops ts us h none i e = record { nodes = []; strays = []; low = refl; kept = refl; reads = nothing_first n ts i e }

seq_read : {n : ℕ} {loops : List (Option Text)} {s : Statement} {p : Program} {ts vs us : List Placed}
    → StatementGot n loops s ts vs → BlockGot n loops p vs us → BlockGot n loops (seq s p) ts us
seq_read {n} {loops} {s} {p} {ts} {vs} {us} g q =
    record {
      nodes = g.nodes ++ q.nodes;
      strays = g.strays ++ q.strays;
      low = of_two (statement_height s) (program_height p) g.nodes q.nodes g.low q.low;
      kept = taken_both loops g.strays q.strays g.kept q.kept;
      reads = g.reads ∙ ap (λ r. and_then r (λ p us. got (by.and_block (record { tree = s; nodes = g.nodes; strays = g.strays }) p) us)) q.reads;
    }

pub seq_back : (s : Statement) (p : Program) → StatementBack s → ProgramBack p → ProgramBack (seq s p)
seq_back s p rs rp = record { block_back = go }
  where
    parts : (n : ℕ) (loops : List (Option Text)) (ts us : List Placed) → IsTrue (statement_fits loops s && program_fits loops p)
        → Cut (statement_tokens s) (program_tokens p) ts us → Enough n ts → Ended us → BlockGot n loops (seq s p) ts us
    parts n loops ts us h (cut vs l m) i e =
        seq_read
        (rs.statement_back n loops ts vs (first_holds (statement_fits loops s) (program_fits loops p) h) l i)
        (rp.block_back n loops vs us (second_holds (statement_fits loops s) (program_fits loops p) h) m (later l i) e)

    go : (n : ℕ) (loops : List (Option Text)) (ts us : List Placed) → IsTrue (statement_fits loops s && program_fits loops p)
        → Laid (statement_tokens s ++ program_tokens p) ts us → Enough n ts → Ended us → BlockGot n loops (seq s p) ts us
    go n loops ts us h l i e = parts n loops ts us h (split (statement_tokens s) (program_tokens p) l) i e

-- ---- parts of statements

pub expression_got : (e : Expr) (n : ℕ) (ts us : List Placed) → IsTrue (expr_fits false e) → Laid (expression_tokens e) ts us → Enough n ts → Loose us → Stops 0 us
    → Got n false 0 e ts us
expression_got e n ts us h l i lo st = whole_back (back e) n false ts us h l i lo st

pub record HeadGot (n : ℕ) (e : Expr) (ts us : List Placed) : Type 0 where
  pub line : ℕ
  pub nodes : List Node
  pub low : Within (expr_height e) nodes
  pub reads : by.in_parentheses (expression n) ts ≡ got (of e line nodes) us

head_closed : {n : ℕ} {e : Expr} {ts us : List Placed} (line m : ℕ) → Got n false 0 e ts (at m (t.sign t.close_parenthesis) ∷ us)
    → HeadGot n e (at line (t.sign t.open_parenthesis) ∷ ts) us
head_closed line m g =
    record { line = g.line; nodes = g.nodes; low = g.low; reads = ap (λ r. and_then r (λ e vs. past_sign t.close_parenthesis vs (got e))) g.reads }

pub head_read : (e : Expr) (n : ℕ) (ts us : List Placed) → IsTrue (expr_fits false e) → Laid (in_parentheses (expression_tokens e)) ts us → Enough n ts → HeadGot n e ts us
head_read e n ts us h (next {ts = vs} line l) i = go (split (expression_tokens e) (t.sign t.close_parenthesis ∷ []) l)
  where
    go : Cut (expression_tokens e) (t.sign t.close_parenthesis ∷ []) vs us → HeadGot n e (at line (t.sign t.open_parenthesis) ∷ vs) us
    go (cut _ x (next m none)) =
        head_closed line m (expression_got e n vs (at m (t.sign t.close_parenthesis) ∷ us) h x (tail (at line (t.sign t.open_parenthesis)) vs i) refl refl)

pub name_read : (x : Option Text) (ts us : List Placed) → IsTrue (may_name x) → Laid (name_before x) ts us → by.perhaps_word us ≡ got None us
    → by.perhaps_word ts ≡ got x us
name_read None ts us h none e = e
name_read (Some x) ts us h (next line none) e = ap (λ y. got (Some y) us) (name_is_lower x h)

-- a block up to its end word
pub record BodyGot (n : ℕ) (loops : List (Option Text)) (k : Keyword) (p : Program) (ts us : List Placed) : Type 0 where
  pub nodes : List Node
  pub strays : List Stray
  pub low : Within (program_height p) nodes
  pub kept : Taken loops strays
  pub reads : by.block_to k (block n) ts ≡ got (record { tree = p; nodes = nodes; strays = strays }) us

pub body_read : (k : Keyword) → ends_block (t.keyword k) ≡ true → is_keyword k (t.keyword k) ≡ true → (p : Program) → ProgramBack p → (n : ℕ) (loops : List (Option Text))
    (ts us : List Placed) → IsTrue (program_fits loops p) → Laid (up_to (program_tokens p) k) ts us → Enough n ts → BodyGot n loops k p ts us
body_read k e d p r n loops ts us h l i = go (split (program_tokens p) (t.keyword k ∷ []) l)
  where
    closed : (m : ℕ) → BlockGot n loops p ts (at m (t.keyword k) ∷ us) → BodyGot n loops k p ts us
    closed m g =
        record {
          nodes = g.nodes;
          strays = g.strays;
          low = g.low;
          kept = g.kept;
          reads =
              ap (λ r. and_then r (λ p us. past_keyword k us (got p))) g.reads
              ∙ keyword_there k (got (record { tree = p; nodes = g.nodes; strays = g.strays })) stuck (at m (t.keyword k)) us d;
        }

    go : Cut (program_tokens p) (t.keyword k ∷ []) ts us → BodyGot n loops k p ts us
    go (cut _ x (next m none)) = closed m (r.block_back n loops ts (at m (t.keyword k) ∷ us) h x i e)

-- ---- simple statements

expression_first : (n : ℕ) (reads : ReadsExpression) (blocks : ReadsBlock) (k : Token) (line : ℕ) (rest all : List Placed)
    → begins_expression k ≡ true → by.by_token n reads blocks k line rest all ≡ by.then_block blocks (by.expression_statement reads all)
expression_first n reads blocks (t.word x) line rest all e = refl
expression_first n reads blocks (t.error_name x) line rest all e = refl
expression_first n reads blocks (t.integer i) line rest all e = refl
expression_first n reads blocks (t.object below i) line rest all e = refl
expression_first n reads blocks (t.string x) line rest all e = refl
expression_first n reads blocks (t.sign t.minus_sign) line rest all e = refl
expression_first n reads blocks (t.sign t.not_sign) line rest all e = refl
expression_first n reads blocks (t.sign t.open_parenthesis) line rest all e = refl
expression_first n reads blocks (t.sign t.open_brace) line rest all e = refl
expression_first n reads blocks (t.sign t.dollar) line rest all e = refl
expression_first n reads blocks (t.sign t.backquote) line rest all e = refl
expression_first n reads blocks _ line rest all e = cc

evaluate_read : {n : ℕ} {loops : List (Option Text)} {e : Expr} {us : List Placed} (ts : List Placed) (m : ℕ) → Got n false 0 e ts (at m (t.sign t.semicolon) ∷ us)
    → Begins ts → Enough n ts → StatementGot n loops (evaluate e) ts us
evaluate_read {n} {loops} {e} {us} _ m g (begins p ts d) i =
    record {
      nodes = under p.line g.nodes;
      strays = [];
      low = one_higher (expr_height e) p.line g.nodes g.low;
      kept = refl;
      reads =
          block_again n (p ∷ ts) i ∙ expression_first n (expression n) (block n) p.token p.line ts (p ∷ ts) d
          ∙ ap (λ r. by.then_block (block n) (and_then r (λ e us. by.ended_by_semicolon (by.simple p.line (evaluate e.tree) e.nodes) us))) g.reads;
    }

pub evaluate_back : (e : Expr) → StatementBack (evaluate e)
evaluate_back e = record { statement_back = go }
  where
    parts : (n : ℕ) (loops : List (Option Text)) (ts us : List Placed) → IsTrue (expr_fits false e)
        → Cut (expression_tokens e) (t.sign t.semicolon ∷ []) ts us → Enough n ts → StatementGot n loops (evaluate e) ts us
    parts n loops ts us h (cut _ l (next m none)) i =
        let g = expression_got e n ts (at m (t.sign t.semicolon) ∷ us) h l i refl refl in evaluate_read ts m g (starts ts g i) i

    go : (n : ℕ) (loops : List (Option Text)) (ts us : List Placed) → IsTrue (expr_fits false e)
        → Laid (with_semicolon (expression_tokens e)) ts us → Enough n ts → StatementGot n loops (evaluate e) ts us
    go n loops ts us h l i = parts n loops ts us h (split (expression_tokens e) (t.sign t.semicolon ∷ []) l) i

give_read : {n : ℕ} {loops : List (Option Text)} {e : Expr} {ts us : List Placed} (line m : ℕ) → Got n false 0 e ts (at m (t.sign t.semicolon) ∷ us)
    → Begins ts → Enough n (at line (t.keyword t.return_word) ∷ ts) → StatementGot n loops (give e) (at line (t.keyword t.return_word) ∷ ts) us
give_read {n} {loops} {e} {ts} {us} line m g s i =
    record {
      nodes = under line g.nodes;
      strays = [];
      low = one_higher (expr_height e) line g.nodes g.low;
      kept = refl;
      reads =
          block_again n (at line (t.keyword t.return_word) ∷ ts) i
          ∙ ap (by.then_block (block n))
          (sign_absent t.semicolon (got (by.simple line give_zero [])) value ts (not_semicolon s)
          ∙ ap (λ r. and_then r (λ e vs. by.ended_by_semicolon (by.simple line (give e.tree) e.nodes) vs)) g.reads);
    }
  where
    value : List Placed → Read FoundStatement
    value us = and_then (expression n false 0 us) (λ e vs. by.ended_by_semicolon (by.simple line (give e.tree) e.nodes) vs)

pub give_back : (e : Expr) → StatementBack (give e)
give_back e = record { statement_back = go }
  where
    parts : (n : ℕ) (loops : List (Option Text)) (line : ℕ) (ts us : List Placed) → IsTrue (expr_fits false e)
        → Cut (expression_tokens e) (t.sign t.semicolon ∷ []) ts us → Enough n (at line (t.keyword t.return_word) ∷ ts)
        → StatementGot n loops (give e) (at line (t.keyword t.return_word) ∷ ts) us
    parts n loops line ts us h (cut _ l (next m none)) i =
        let j = tail (at line (t.keyword t.return_word)) ts i in
        let g = expression_got e n ts (at m (t.sign t.semicolon) ∷ us) h l j refl refl in give_read line m g (starts ts g j) i

    go : (n : ℕ) (loops : List (Option Text)) (ts us : List Placed) → IsTrue (expr_fits false e)
        → Laid (t.keyword t.return_word ∷ with_semicolon (expression_tokens e)) ts us → Enough n ts → StatementGot n loops (give e) ts us
    go n loops ts us h (next {ts = vs} line l) i = parts n loops line vs us h (split (expression_tokens e) (t.sign t.semicolon ∷ []) l) i

pub give_zero_back : StatementBack give_zero
give_zero_back = record { statement_back = go }
  where
    go : (n : ℕ) (loops : List (Option Text)) (ts us : List Placed) → IsTrue (statement_fits loops give_zero)
        → Laid (t.keyword t.return_word ∷ t.sign t.semicolon ∷ []) ts us → Enough n ts → StatementGot n loops give_zero ts us
    go n loops ts us h (next line (next m none)) i =
        record {
          nodes = under line [];
          strays = [];
          low = refl;
          kept = refl;
          reads = block_again n (at line (t.keyword t.return_word) ∷ at m (t.sign t.semicolon) ∷ us) i;
        }

one_taken : (loops : List (Option Text)) (x : Option Text) (line : ℕ) → IsTrue (is_around loops x)
    → Taken loops (record { line = line; name = x; cut_off = false } ∷ [])
one_taken loops x line h = and_also {b = true} h refl

leave_read : (f : Option Text → Statement) (x : Option Text) (line : ℕ) (ts us : List Placed) → IsTrue (may_name x) → Laid (with_semicolon (name_before x)) ts us
    → by.leaving_statement f line ts ≡ got (by.stray line x (f x)) us
leave_read f x line ts us h l = go (split (name_before x) (t.sign t.semicolon ∷ []) l)
  where
    go : Cut (name_before x) (t.sign t.semicolon ∷ []) ts us → by.leaving_statement f line ts ≡ got (by.stray line x (f x)) us
    go (cut _ k (next m none)) =
        ap (λ r. and_then r (λ x us. by.ended_by_semicolon (by.stray line x (f x)) us)) (name_read x ts (at m (t.sign t.semicolon) ∷ us) h k refl)

pub leave_back : (x : Option Text) → StatementBack (leave_loop x)
leave_back x = record { statement_back = go }
  where
    go : (n : ℕ) (loops : List (Option Text)) (ts us : List Placed) → IsTrue (may_name x && is_around loops x)
        → Laid (t.keyword t.break_word ∷ with_semicolon (name_before x)) ts us → Enough n ts → StatementGot n loops (leave_loop x) ts us
    go n loops ts us h (next {ts = vs} line l) i =
        record {
          nodes = under line [];
          strays = record { line = line; name = x; cut_off = false } ∷ [];
          low = refl;
          kept = one_taken loops x line (second_holds (may_name x) (is_around loops x) h);
          reads =
              block_again n (at line (t.keyword t.break_word) ∷ vs) i
              ∙ ap (by.then_block (block n)) (leave_read leave_loop x line vs us (first_holds (may_name x) (is_around loops x) h) l);
        }

pub next_back : (x : Option Text) → StatementBack (next_turn x)
next_back x = record { statement_back = go }
  where
    go : (n : ℕ) (loops : List (Option Text)) (ts us : List Placed) → IsTrue (may_name x && is_around loops x)
        → Laid (t.keyword t.continue_word ∷ with_semicolon (name_before x)) ts us → Enough n ts → StatementGot n loops (next_turn x) ts us
    go n loops ts us h (next {ts = vs} line l) i =
        record {
          nodes = under line [];
          strays = record { line = line; name = x; cut_off = false } ∷ [];
          low = refl;
          kept = one_taken loops x line (second_holds (may_name x) (is_around loops x) h);
          reads =
              block_again n (at line (t.keyword t.continue_word) ∷ vs) i
              ∙ ap (by.then_block (block n)) (leave_read next_turn x line vs us (first_holds (may_name x) (is_around loops x) h) l);
        }

-- ---- loops and forks

-- perhaps a name, and an expression in parentheses
pub record NamedHead (n : ℕ) (x : Option Text) (e : Expr) (ts us : List Placed) : Type 0 where
  pub middle : List Placed
  pub named : by.perhaps_word ts ≡ got x middle
  pub behind : HeadGot n e middle us

pub named_head : (x : Option Text) (e : Expr) (n : ℕ) (ts us : List Placed) → IsTrue (may_name x) → IsTrue (expr_fits false e)
    → Laid (name_before x ++ in_parentheses (expression_tokens e)) ts us → Enough n ts → NamedHead n x e ts us
named_head x e n ts us hx he l i = go (split (name_before x) (in_parentheses (expression_tokens e)) l)
  where
    go : Cut (name_before x) (in_parentheses (expression_tokens e)) ts us → NamedHead n x e ts us
    go (cut _ k (next {ts = vs} q m)) =
        record {
          middle = at q (t.sign t.open_parenthesis) ∷ vs;
          named = name_read x ts (at q (t.sign t.open_parenthesis) ∷ vs) hx k refl;
          behind = head_read e n (at q (t.sign t.open_parenthesis) ∷ vs) us he (next q m) (later k i);
        }

for_each_read : {n : ℕ} {loops : List (Option Text)} {x : Text} {e : Expr} {p : Program} {ts vs us : List Placed} (line m w q : ℕ) → IsTrue (is_name x)
    → HeadGot n e (at q (t.sign t.open_parenthesis) ∷ ts) vs → BodyGot n (Some x ∷ loops) t.endfor_word p vs us
    → Enough n (at line (t.keyword t.for_word) ∷ at m (t.word x) ∷ at w (t.keyword t.in_word) ∷ at q (t.sign t.open_parenthesis) ∷ ts)
    → StatementGot n loops (for_each x e p) (at line (t.keyword t.for_word) ∷ at m (t.word x) ∷ at w (t.keyword t.in_word) ∷ at q (t.sign t.open_parenthesis) ∷ ts) us
for_each_read {n} {loops} {x} {e} {p} {ts} {vs} {us} line m w q h g b i =
    record {
      nodes = under line (g.nodes ++ b.nodes);
      strays = out_of_loop (Some x) b.strays;
      low = one_higher (max (expr_height e) (program_height p)) line (g.nodes ++ b.nodes) (of_two (expr_height e) (program_height p) g.nodes b.nodes g.low b.low);
      kept = taken_outside (Some x) loops b.strays b.kept;
      reads =
          block_again n (at line (t.keyword t.for_word) ∷ at m (t.word x) ∷ at w (t.keyword t.in_word) ∷ at q (t.sign t.open_parenthesis) ∷ ts) i
          ∙ ap (by.then_block (block n))
          (ap (λ y. by.over_list (expression n) (block n) line y (at q (t.sign t.open_parenthesis) ∷ ts)) (name_is_lower x h)
          ∙ ap (λ r. and_then r body) g.reads ∙ ap (λ r. and_then r (whole (of e g.line g.nodes))) b.reads);
    }
  where
    whole : Found → FoundBlock → List Placed → Read FoundStatement
    whole e p vs = got (by.loop_of line (Some x) (for_each x e.tree p.tree) e.nodes p) vs

    body : Found → List Placed → Read FoundStatement
    body e us = and_then (by.block_to t.endfor_word (block n) us) (whole e)

pub for_each_back : (x : Text) (e : Expr) (p : Program) → ProgramBack p → StatementBack (for_each x e p)
for_each_back x e p r = record { statement_back = go }
  where
    parts : (n : ℕ) (loops : List (Option Text)) (ts us : List Placed) → IsTrue (is_name x && (expr_fits false e && program_fits (Some x ∷ loops) p))
        → Cut (t.keyword t.for_word ∷ t.word x ∷ t.keyword t.in_word ∷ in_parentheses (expression_tokens e)) (up_to (program_tokens p) t.endfor_word) ts us → Enough n ts
        → StatementGot n loops (for_each x e p) ts us
    parts n loops ts us h (cut vs (next line (next m (next w (next {ts = zs} q l)))) b) i =
        let hep = second_holds (is_name x) (expr_fits false e && program_fits (Some x ∷ loops) p) h in
        let i1 = tail (at line (t.keyword t.for_word)) (at m (t.word x) ∷ at w (t.keyword t.in_word) ∷ at q (t.sign t.open_parenthesis) ∷ zs) i in
        let i2 = tail (at m (t.word x)) (at w (t.keyword t.in_word) ∷ at q (t.sign t.open_parenthesis) ∷ zs) i1 in
        let i3 = tail (at w (t.keyword t.in_word)) (at q (t.sign t.open_parenthesis) ∷ zs) i2 in
        let k : Laid (in_parentheses (expression_tokens e)) (at q (t.sign t.open_parenthesis) ∷ zs) vs = next q l in
        for_each_read line m w q (first_holds (is_name x) (expr_fits false e && program_fits (Some x ∷ loops) p) h)
        (head_read e n (at q (t.sign t.open_parenthesis) ∷ zs) vs (first_holds (expr_fits false e) (program_fits (Some x ∷ loops) p) hep) k i3)
        (body_read t.endfor_word refl refl p r n (Some x ∷ loops) vs us (second_holds (expr_fits false e) (program_fits (Some x ∷ loops) p) hep) b (later k i3))
        i

    go : (n : ℕ) (loops : List (Option Text)) (ts us : List Placed) → IsTrue (is_name x && (expr_fits false e && program_fits (Some x ∷ loops) p))
        → Laid ((t.keyword t.for_word ∷ t.word x ∷ t.keyword t.in_word ∷ in_parentheses (expression_tokens e)) ++ up_to (program_tokens p) t.endfor_word) ts us → Enough n ts
        → StatementGot n loops (for_each x e p) ts us
    go n loops ts us h l i =
        parts n loops ts us h
        (split (t.keyword t.for_word ∷ t.word x ∷ t.keyword t.in_word ∷ in_parentheses (expression_tokens e)) (up_to (program_tokens p) t.endfor_word) l) i

for_range_read : {n : ℕ} {loops : List (Option Text)} {x : Text} {a c : Expr} {p : Program} {ts vs ws us : List Placed} (line m w q y z : ℕ) → IsTrue (is_name x)
    → Got n false 0 a ts (at y (t.sign t.double_dot) ∷ vs) → Got n false 0 c vs (at z (t.sign t.close_bracket) ∷ ws) → BodyGot n (Some x ∷ loops) t.endfor_word p ws us
    → Enough n (at line (t.keyword t.for_word) ∷ at m (t.word x) ∷ at w (t.keyword t.in_word) ∷ at q (t.sign t.open_bracket) ∷ ts)
    → StatementGot n loops (for_range x a c p) (at line (t.keyword t.for_word) ∷ at m (t.word x) ∷ at w (t.keyword t.in_word) ∷ at q (t.sign t.open_bracket) ∷ ts) us
for_range_read {n} {loops} {x} {a} {c} {p} {ts} {vs} {ws} {us} line m w q y z h g d b i =
    record {
      nodes = under line ((g.nodes ++ d.nodes) ++ b.nodes);
      strays = out_of_loop (Some x) b.strays;
      low =
          one_higher (max (expr_height a) (max (expr_height c) (program_height p))) line ((g.nodes ++ d.nodes) ++ b.nodes)
          (wider (max (max (expr_height a) (expr_height c)) (program_height p)) (max (expr_height a) (max (expr_height c) (program_height p))) ((g.nodes ++ d.nodes) ++ b.nodes)
          (omega arith)
          (of_two (max (expr_height a) (expr_height c)) (program_height p) (g.nodes ++ d.nodes) b.nodes
          (of_two (expr_height a) (expr_height c) g.nodes d.nodes g.low d.low) b.low));
      kept = taken_outside (Some x) loops b.strays b.kept;
      reads =
          block_again n (at line (t.keyword t.for_word) ∷ at m (t.word x) ∷ at w (t.keyword t.in_word) ∷ at q (t.sign t.open_bracket) ∷ ts) i
          ∙ ap (by.then_block (block n))
          (ap (λ y. by.over_range (expression n) (block n) line y ts) (name_is_lower x h)
          ∙ ap (λ r. and_then r first) g.reads ∙ ap (λ r. and_then r (second (of a g.line g.nodes))) d.reads
          ∙ ap (λ r. and_then r (whole (of a g.line g.nodes) (of c d.line d.nodes))) b.reads);
    }
  where
    whole : Found → Found → FoundBlock → List Placed → Read FoundStatement
    whole a b p ys = got (by.loop_of line (Some x) (for_range x a.tree b.tree p.tree) (a.nodes ++ b.nodes) p) ys

    second : Found → Found → List Placed → Read FoundStatement
    second a b ws = past_sign t.close_bracket ws (λ xs. and_then (by.block_to t.endfor_word (block n) xs) (whole a b))

    first : Found → List Placed → Read FoundStatement
    first a us = past_sign t.double_dot us (λ vs. and_then (expression n false 0 vs) (second a))

pub for_range_back : (x : Text) (a c : Expr) (p : Program) → ProgramBack p → StatementBack (for_range x a c p)
for_range_back x a c p r = record { statement_back = go }
  where
    second : (n : ℕ) (loops : List (Option Text)) (zs ws us : List Placed) (line m w q z : ℕ)
        → IsTrue (is_name x && ((expr_fits false a && expr_fits false c) && program_fits (Some x ∷ loops) p))
        → Cut (expression_tokens a) (t.sign t.double_dot ∷ expression_tokens c) zs (at z (t.sign t.close_bracket) ∷ ws) → Laid (up_to (program_tokens p) t.endfor_word) ws us
        → Enough n (at line (t.keyword t.for_word) ∷ at m (t.word x) ∷ at w (t.keyword t.in_word) ∷ at q (t.sign t.open_bracket) ∷ zs)
        → StatementGot n loops (for_range x a c p) (at line (t.keyword t.for_word) ∷ at m (t.word x) ∷ at w (t.keyword t.in_word) ∷ at q (t.sign t.open_bracket) ∷ zs) us
    second n loops zs ws us line m w q z h (cut _ la (next {ts = vs} y lc)) b i =
        let hr = second_holds (is_name x) ((expr_fits false a && expr_fits false c) && program_fits (Some x ∷ loops) p) h in
        let hac = first_holds (expr_fits false a && expr_fits false c) (program_fits (Some x ∷ loops) p) hr in
        let i1 = tail (at line (t.keyword t.for_word)) (at m (t.word x) ∷ at w (t.keyword t.in_word) ∷ at q (t.sign t.open_bracket) ∷ zs) i in
        let i2 = tail (at m (t.word x)) (at w (t.keyword t.in_word) ∷ at q (t.sign t.open_bracket) ∷ zs) i1 in
        let i3 = tail (at w (t.keyword t.in_word)) (at q (t.sign t.open_bracket) ∷ zs) i2 in
        let i4 = tail (at q (t.sign t.open_bracket)) zs i3 in
        let i5 = tail (at y (t.sign t.double_dot)) vs (later la i4) in
        let i6 = tail (at z (t.sign t.close_bracket)) ws (later lc i5) in
        for_range_read line m w q y z (first_holds (is_name x) ((expr_fits false a && expr_fits false c) && program_fits (Some x ∷ loops) p) h)
        (expression_got a n zs (at y (t.sign t.double_dot) ∷ vs) (first_holds (expr_fits false a) (expr_fits false c) hac) la i4 refl refl)
        (expression_got c n vs (at z (t.sign t.close_bracket) ∷ ws) (second_holds (expr_fits false a) (expr_fits false c) hac) lc i5 refl refl)
        (body_read t.endfor_word refl refl p r n (Some x ∷ loops) ws us (second_holds (expr_fits false a && expr_fits false c) (program_fits (Some x ∷ loops) p) hr) b i6)
        i

    first : (n : ℕ) (loops : List (Option Text)) (zs ws us : List Placed) (line m w q : ℕ)
        → IsTrue (is_name x && ((expr_fits false a && expr_fits false c) && program_fits (Some x ∷ loops) p))
        → Cut (expression_tokens a ++ (t.sign t.double_dot ∷ expression_tokens c)) (t.sign t.close_bracket ∷ []) zs ws → Laid (up_to (program_tokens p) t.endfor_word) ws us
        → Enough n (at line (t.keyword t.for_word) ∷ at m (t.word x) ∷ at w (t.keyword t.in_word) ∷ at q (t.sign t.open_bracket) ∷ zs)
        → StatementGot n loops (for_range x a c p) (at line (t.keyword t.for_word) ∷ at m (t.word x) ∷ at w (t.keyword t.in_word) ∷ at q (t.sign t.open_bracket) ∷ zs) us
    first n loops zs ws us line m w q h (cut _ l (next z none)) b i =
        second n loops zs ws us line m w q z h (split (expression_tokens a) (t.sign t.double_dot ∷ expression_tokens c) l) b i

    parts : (n : ℕ) (loops : List (Option Text)) (ts us : List Placed) → IsTrue (is_name x && ((expr_fits false a && expr_fits false c) && program_fits (Some x ∷ loops) p))
        → Cut (t.keyword t.for_word ∷ t.word x ∷ t.keyword t.in_word
        ∷ between t.open_bracket (expression_tokens a ++ (t.sign t.double_dot ∷ expression_tokens c)) t.close_bracket) (up_to (program_tokens p) t.endfor_word) ts us
        → Enough n ts → StatementGot n loops (for_range x a c p) ts us
    parts n loops ts us h (cut ws (next line (next m (next w (next {ts = zs} q l)))) b) i =
        first n loops zs ws us line m w q h (split (expression_tokens a ++ (t.sign t.double_dot ∷ expression_tokens c)) (t.sign t.close_bracket ∷ []) l) b i

    go : (n : ℕ) (loops : List (Option Text)) (ts us : List Placed) → IsTrue (is_name x && ((expr_fits false a && expr_fits false c) && program_fits (Some x ∷ loops) p))
        → Laid ((t.keyword t.for_word ∷ t.word x ∷ t.keyword t.in_word
        ∷ between t.open_bracket (expression_tokens a ++ (t.sign t.double_dot ∷ expression_tokens c)) t.close_bracket) ++ up_to (program_tokens p) t.endfor_word) ts us
        → Enough n ts → StatementGot n loops (for_range x a c p) ts us
    go n loops ts us h l i =
        parts n loops ts us h
        (split (t.keyword t.for_word ∷ t.word x ∷ t.keyword t.in_word
        ∷ between t.open_bracket (expression_tokens a ++ (t.sign t.double_dot ∷ expression_tokens c)) t.close_bracket) (up_to (program_tokens p) t.endfor_word) l) i

while_read : {n : ℕ} {loops : List (Option Text)} {x : Option Text} {e : Expr} {p : Program} {ts vs us : List Placed} (line : ℕ)
    → NamedHead n x e ts vs → BodyGot n (x ∷ loops) t.endwhile_word p vs us → Enough n (at line (t.keyword t.while_word) ∷ ts)
    → StatementGot n loops (repeat x e p) (at line (t.keyword t.while_word) ∷ ts) us
while_read {n} {loops} {x} {e} {p} {ts} {vs} {us} line h b i =
    record {
      nodes = under line (h.behind.nodes ++ b.nodes);
      strays = out_of_loop x b.strays;
      low =
          one_higher (max (expr_height e) (program_height p)) line (h.behind.nodes ++ b.nodes)
          (of_two (expr_height e) (program_height p) h.behind.nodes b.nodes h.behind.low b.low);
      kept = taken_outside x loops b.strays b.kept;
      reads =
          block_again n (at line (t.keyword t.while_word) ∷ ts) i
          ∙ ap (by.then_block (block n))
          (ap (λ r. and_then r (by.while_named (expression n) (block n) line)) h.named
          ∙ ap (λ r. and_then r body) h.behind.reads ∙ ap (λ r. and_then r (whole (of e h.behind.line h.behind.nodes))) b.reads);
    }
  where
    whole : Found → FoundBlock → List Placed → Read FoundStatement
    whole e p vs = got (by.loop_of line x (repeat x e.tree p.tree) e.nodes p) vs

    body : Found → List Placed → Read FoundStatement
    body e us = and_then (by.block_to t.endwhile_word (block n) us) (whole e)

pub repeat_back : (x : Option Text) (e : Expr) (p : Program) → ProgramBack p → StatementBack (repeat x e p)
repeat_back x e p r = record { statement_back = go }
  where
    parts : (n : ℕ) (loops : List (Option Text)) (ts us : List Placed) → IsTrue (may_name x && (expr_fits false e && program_fits (x ∷ loops) p))
        → Cut (head t.while_word x (expression_tokens e)) (up_to (program_tokens p) t.endwhile_word) ts us → Enough n ts → StatementGot n loops (repeat x e p) ts us
    parts n loops ts us h (cut vs (next {ts = zs} line l) b) i =
        let hep = second_holds (may_name x) (expr_fits false e && program_fits (x ∷ loops) p) h in
        let i1 = tail (at line (t.keyword t.while_word)) zs i in
        while_read line
        (named_head x e n zs vs (first_holds (may_name x) (expr_fits false e && program_fits (x ∷ loops) p) h) (first_holds (expr_fits false e) (program_fits (x ∷ loops) p) hep) l i1)
        (body_read t.endwhile_word refl refl p r n (x ∷ loops) vs us (second_holds (expr_fits false e) (program_fits (x ∷ loops) p) hep) b (later l i1))
        i

    go : (n : ℕ) (loops : List (Option Text)) (ts us : List Placed) → IsTrue (may_name x && (expr_fits false e && program_fits (x ∷ loops) p))
        → Laid (head t.while_word x (expression_tokens e) ++ up_to (program_tokens p) t.endwhile_word) ts us → Enough n ts → StatementGot n loops (repeat x e p) ts us
    go n loops ts us h l i = parts n loops ts us h (split (head t.while_word x (expression_tokens e)) (up_to (program_tokens p) t.endwhile_word) l) i

fork_read : {n : ℕ} {loops : List (Option Text)} {x : Option Text} {e : Expr} {p : Program} {ts vs us : List Placed} (line : ℕ)
    → NamedHead n x e ts vs → BodyGot n [] t.endfork_word p vs us → Enough n (at line (t.keyword t.fork_word) ∷ ts)
    → StatementGot n loops (fork x e p) (at line (t.keyword t.fork_word) ∷ ts) us
fork_read {n} {loops} {x} {e} {p} {ts} {vs} {us} line h b i =
    record {
      nodes = under line (h.behind.nodes ++ b.nodes);
      strays = map by.cut b.strays;
      low =
          one_higher (max (expr_height e) (program_height p)) line (h.behind.nodes ++ b.nodes)
          (of_two (expr_height e) (program_height p) h.behind.nodes b.nodes h.behind.low b.low);
      kept = cut_taken loops b.strays b.kept;
      reads =
          block_again n (at line (t.keyword t.fork_word) ∷ ts) i
          ∙ ap (by.then_block (block n))
          (ap (λ r. and_then r (by.fork_named (expression n) (block n) line)) h.named
          ∙ ap (λ r. and_then r body) h.behind.reads ∙ ap (λ r. and_then r (whole (of e h.behind.line h.behind.nodes))) b.reads);
    }
  where
    whole : Found → FoundBlock → List Placed → Read FoundStatement
    whole e p vs = got (by.forked line x e p) vs

    body : Found → List Placed → Read FoundStatement
    body e us = and_then (by.block_to t.endfork_word (block n) us) (whole e)

pub fork_back : (x : Option Text) (e : Expr) (p : Program) → ProgramBack p → StatementBack (fork x e p)
fork_back x e p r = record { statement_back = go }
  where
    parts : (n : ℕ) (loops : List (Option Text)) (ts us : List Placed) → IsTrue (may_name x && (expr_fits false e && program_fits [] p))
        → Cut (head t.fork_word x (expression_tokens e)) (up_to (program_tokens p) t.endfork_word) ts us → Enough n ts → StatementGot n loops (fork x e p) ts us
    parts n loops ts us h (cut vs (next {ts = zs} line l) b) i =
        let hep = second_holds (may_name x) (expr_fits false e && program_fits [] p) h in
        let i1 = tail (at line (t.keyword t.fork_word)) zs i in
        fork_read line
        (named_head x e n zs vs (first_holds (may_name x) (expr_fits false e && program_fits [] p) h) (first_holds (expr_fits false e) (program_fits [] p) hep) l i1)
        (body_read t.endfork_word refl refl p r n [] vs us (second_holds (expr_fits false e) (program_fits [] p) hep) b (later l i1))
        i

    go : (n : ℕ) (loops : List (Option Text)) (ts us : List Placed) → IsTrue (may_name x && (expr_fits false e && program_fits [] p))
        → Laid (head t.fork_word x (expression_tokens e) ++ up_to (program_tokens p) t.endfork_word) ts us → Enough n ts → StatementGot n loops (fork x e p) ts us
    go n loops ts us h l i = parts n loops ts us h (split (head t.fork_word x (expression_tokens e)) (up_to (program_tokens p) t.endfork_word) l) i
