-- Canonical tokens of arguments, of calls and of verbs are read as the trees that they are of.
use Rattle.std.proofs.Common.{◌≡◌, ℕ, Bool, true, false, ◌&&◌, List, [], ◌∷◌, ◌++◌, IsTrue, refl, ap, ◌∙◌}
use Rattle.std.specs.Prelude.{None}
use Rattle.spec_value.proofs.Entries.{first_holds, second_holds}
use Rattle.spec_value.specs.Datum.{Text, fold_case}
use Rattle.spec_program.specs.Tree.{Expr, call, Arguments, no_arguments, argument, splice}
use Rattle.spec_program.specs.Tokens as t
use Rattle.spec_program.specs.Tokens.{Sign, Token, Placed}
use Rattle.spec_program.specs.Reading.{Read, got, stuck, and_then, past_sign, is_sign, Node, under}
use Rattle.spec_program.specs.ReadExpressions as by
use Rattle.spec_program.specs.ReadExpressions.{Found, FoundArguments, Operand, steps, expression, operand, some_arguments, arguments_to}
use Rattle.spec_program.specs.Moves.{at, begins_with}
use Rattle.spec_program.specs.StatementMoves.{begins_expression}
use Rattle.spec_program.specs.Trees.{is_name, expr_fits, arguments_fit, expr_height, arguments_height}
use Rattle.spec_program.specs.CanonicalTokens.{Laid, none, next, in_parentheses, expression_tokens, arguments_tokens, further_arguments, Loose, Stops}
use Rattle.spec_program.proofs.LowTrees.{Within}
use Rattle.spec_program.proofs.MovesHold.{expression_again, arguments_again, sign_absent}
use Rattle.spec_program.proofs.OtherMovesHold.{no_operand}
use Rattle.spec_program.proofs.Laid.{Cut, cut, split, Enough, later, tail, plain, Free, of, Post, Got, value_behind}
use Rattle.spec_program.proofs.OperatorsBack.{one_higher, of_two, Back, whole_back, operand_back}
use Rattle.spec_program.proofs.OperandsBack.{name_is_lower}

-- ---- with what no expression begins

refuses : (n : ℕ) (b : Bool) (k : ℕ) (p : Placed) (ts : List Placed) → begins_expression p.token ≡ false → Enough n (p ∷ ts)
    → expression n b k (p ∷ ts) ≡ stuck (p ∷ ts)
refuses n b k p ts e i =
    expression_again n b k (p ∷ ts) (plain (p ∷ ts) i) ∙ ap (λ x. and_then x (value_behind n b k)) (no_operand n (expression n) b k p.token p.line ts (p ∷ ts) e)

pub at_begins_none : (k : Token) → is_sign t.at_sign k ≡ true → begins_expression k ≡ false
at_begins_none (t.sign s) e = by_sign s e
  where
    by_sign : (s : Sign) → is_sign t.at_sign (t.sign s) ≡ true → begins_expression (t.sign s) ≡ false
    by_sign t.minus_sign e = cc
    by_sign t.not_sign e = cc
    by_sign t.open_parenthesis e = cc
    by_sign t.open_brace e = cc
    by_sign t.dollar e = cc
    by_sign t.backquote e = cc
    by_sign _ e = refl
at_begins_none _ e = cc

pub parenthesis_begins_none : (k : Token) → is_sign t.close_parenthesis k ≡ true → begins_expression k ≡ false
parenthesis_begins_none (t.sign s) e = by_sign s e
  where
    by_sign : (s : Sign) → is_sign t.close_parenthesis (t.sign s) ≡ true → begins_expression (t.sign s) ≡ false
    by_sign t.minus_sign e = cc
    by_sign t.not_sign e = cc
    by_sign t.open_parenthesis e = cc
    by_sign t.open_brace e = cc
    by_sign t.dollar e = cc
    by_sign t.backquote e = cc
    by_sign _ e = refl
parenthesis_begins_none _ e = cc

not_both : {X : Type 0} {x : X} {r : Read X} {us ts : List Placed} → r ≡ got x us → r ≡ stuck ts → ⊥
not_both e d = cc

-- an expression that is read begins with another token
pub begins_not : {n : ℕ} {b : Bool} {k : ℕ} {e : Expr} {us : List Placed} (s : Sign) → ((x : Token) → is_sign s x ≡ true → begins_expression x ≡ false)
    → (ts : List Placed) → Got n b k e ts us → Enough n ts → begins_with s ts ≡ false
begins_not s f [] r i = refl
begins_not {n} {b} {k} {us = us} s f (p ∷ ts) r i = go (is_sign s p.token) refl
  where
    go : (c : Bool) → is_sign s p.token ≡ c → is_sign s p.token ≡ false
    go false d = d
    go true d = absurd (not_both r.reads (refuses n b k p ts (f p.token d) i))

-- ---- arguments, at least one

pub record SomeGot (n : ℕ) (b : Bool) (es : Arguments) (ts us : List Placed) : Type 0 where
  pub nodes : List Node
  pub low : Within (arguments_height es) nodes
  pub reads : some_arguments n (expression n) b ts ≡ got (record { tree = es; nodes = nodes }) us
  pub some : begins_with t.close_parenthesis ts ≡ false

pub record FurtherGot (n : ℕ) (b : Bool) (es : Arguments) (ts us : List Placed) : Type 0 where
  pub nodes : List Node
  pub low : Within (arguments_height es) nodes
  pub reads : by.further_ones (some_arguments n (expression n) b) ts ≡ got (record { tree = es; nodes = nodes }) us

-- what may stand behind arguments
pub record Closed (us : List Placed) : Type 0 where
  pub loose : Loose us
  pub stops : Stops 0 us
  pub comma : begins_with t.comma us ≡ false

abbrev pub Backs : Arguments → Type 0
Backs no_arguments = Unit {0}
Backs (argument e more) = Back e × Backs more
Backs (splice e more) = Back e × Backs more

behind : (more : Arguments) (vs us : List Placed) → Laid (further_arguments more) vs us → Closed us → Loose vs × Stops 0 vs
behind no_arguments vs us none c = (c.loose, c.stops)
behind (argument e more) vs us (next line l) c = (refl, refl)
behind (splice e more) vs us (next line l) c = (refl, refl)

-- one, and those behind it
one_read : {n : ℕ} {b : Bool} {e : Expr} {more : Arguments} {ts vs us : List Placed} (c : Bool)
    → (g : Got n b 0 e ts vs) → (m : FurtherGot n b more vs us)
    → by.one_argument (expression n) b (some_arguments n (expression n) b) c ts
    ≡ got (by.with_argument c (of e g.line g.nodes) (record { tree = more; nodes = m.nodes })) us
one_read {n} {b} {e} c g m =
    ap (λ r. and_then r (λ e us. and_then (by.further_ones (some_arguments n (expression n) b) us) (λ es vs. got (by.with_argument c e es) vs))) g.reads
    ∙ ap (λ r. and_then r (λ es vs. got (by.with_argument c (of e g.line g.nodes) es) vs)) m.reads

plain_read : {n : ℕ} {b : Bool} {e : Expr} {more : Arguments} {ts vs us : List Placed}
    → Got n b 0 e ts vs → FurtherGot n b more vs us → Enough n ts → SomeGot n b (argument e more) ts us
plain_read {n} {b} {e} {more} {ts} {vs} {us} g m i =
    record {
      nodes = g.nodes ++ m.nodes;
      low = of_two (expr_height e) (arguments_height more) g.nodes m.nodes g.low m.low;
      reads =
          arguments_again n b ts (plain ts i)
          ∙ sign_absent t.at_sign (by.one_argument (expression n) b (some_arguments n (expression n) b) true) (by.one_argument (expression n) b (some_arguments n (expression n) b) false) ts
          (begins_not t.at_sign at_begins_none ts g i)
          ∙ one_read false g m;
      some = begins_not t.close_parenthesis parenthesis_begins_none ts g i;
    }

spliced_read : {n : ℕ} {b : Bool} {e : Expr} {more : Arguments} {ts vs us : List Placed} (line : ℕ)
    → Got n b 0 e ts vs → FurtherGot n b more vs us → Enough n (at line (t.sign t.at_sign) ∷ ts) → SomeGot n b (splice e more) (at line (t.sign t.at_sign) ∷ ts) us
spliced_read {n} {b} {e} {more} {ts} {vs} {us} line g m i =
    record {
      nodes = g.nodes ++ m.nodes;
      low = of_two (expr_height e) (arguments_height more) g.nodes m.nodes g.low m.low;
      reads = arguments_again n b (at line (t.sign t.at_sign) ∷ ts) (plain (at line (t.sign t.at_sign) ∷ ts) i) ∙ one_read true g m;
      some = refl;
    }

ended_here : (n : ℕ) (b : Bool) (us : List Placed) → Closed us → FurtherGot n b no_arguments us us
ended_here n b us c = record { nodes = []; low = refl; reads = sign_absent t.comma (some_arguments n (expression n) b) (got by.none_found) us c.comma }

after_comma : {n : ℕ} {b : Bool} {es : Arguments} {ts us : List Placed} (line : ℕ) → SomeGot n b es ts us → FurtherGot n b es (at line (t.sign t.comma) ∷ ts) us
after_comma line g = record { nodes = g.nodes; low = g.low; reads = g.reads }

abbrev Others : ℕ → Bool → Arguments → List Placed → Type 0
Others n b more us = (vs : List Placed) → Laid (further_arguments more) vs us → Enough n vs → FurtherGot n b more vs us

plain_cut : (e : Expr) (more : Arguments) → Back e → (n : ℕ) (b : Bool) (ts us : List Placed) → IsTrue (expr_fits b e) → Others n b more us
    → Cut (expression_tokens e) (further_arguments more) ts us → Enough n ts → Closed us → SomeGot n b (argument e more) ts us
plain_cut e more r n b ts us h k (cut vs l m) i c =
    let d = behind more vs us m c in
    plain_read (whole_back r n b ts vs h l i d.0 d.1) (k vs m (later l i)) i

spliced_cut : (e : Expr) (more : Arguments) → Back e → (n : ℕ) (b : Bool) (line : ℕ) (ts us : List Placed) → IsTrue (expr_fits b e) → Others n b more us
    → Cut (expression_tokens e) (further_arguments more) ts us → Enough n (at line (t.sign t.at_sign) ∷ ts) → Closed us
    → SomeGot n b (splice e more) (at line (t.sign t.at_sign) ∷ ts) us
spliced_cut e more r n b line ts us h k (cut vs l m) i c =
    let d = behind more vs us m c in
    let j = tail (at line (t.sign t.at_sign)) ts i in
    spliced_read line (whole_back r n b ts vs h l j d.0 d.1) (k vs m (later l j)) i

pub further_back : (more : Arguments) → Backs more → (n : ℕ) (b : Bool) (ts us : List Placed) → IsTrue (arguments_fit b more)
    → Laid (further_arguments more) ts us → Enough n ts → Closed us → FurtherGot n b more ts us
further_back no_arguments rs n b ts us h none i c = ended_here n b ts c
further_back (argument e more) rs n b ts us h (next {ts = vs} line l) i c =
    after_comma line
    (plain_cut e more rs.0 n b vs us (first_holds (expr_fits b e) (arguments_fit b more) h)
    (λ ws x j. further_back more rs.1 n b ws us (second_holds (expr_fits b e) (arguments_fit b more) h) x j c)
    (split (expression_tokens e) (further_arguments more) l) (tail (at line (t.sign t.comma)) vs i) c)
further_back (splice e more) rs n b ts us h (next line (next {ts = vs} m l)) i c =
    after_comma line
    (spliced_cut e more rs.0 n b m vs us (first_holds (expr_fits b e) (arguments_fit b more) h)
    (λ ws x j. further_back more rs.1 n b ws us (second_holds (expr_fits b e) (arguments_fit b more) h) x j c)
    (split (expression_tokens e) (further_arguments more) l) (tail (at line (t.sign t.comma)) (at m (t.sign t.at_sign) ∷ vs) i) c)

pub plain_first : (e : Expr) (more : Arguments) → Back e → Backs more → (n : ℕ) (b : Bool) (ts us : List Placed)
    → IsTrue (expr_fits b e) → IsTrue (arguments_fit b more) → Laid (expression_tokens e ++ further_arguments more) ts us → Enough n ts → Closed us
    → SomeGot n b (argument e more) ts us
plain_first e more r rs n b ts us h k l i c =
    plain_cut e more r n b ts us h (λ ws x j. further_back more rs n b ws us k x j c) (split (expression_tokens e) (further_arguments more) l) i c

pub spliced_first : (e : Expr) (more : Arguments) → Back e → Backs more → (n : ℕ) (b : Bool) (line : ℕ) (ts us : List Placed)
    → IsTrue (expr_fits b e) → IsTrue (arguments_fit b more) → Laid (expression_tokens e ++ further_arguments more) ts us
    → Enough n (at line (t.sign t.at_sign) ∷ ts) → Closed us → SomeGot n b (splice e more) (at line (t.sign t.at_sign) ∷ ts) us
spliced_first e more r rs n b line ts us h k l i c =
    spliced_cut e more r n b line ts us h (λ ws x j. further_back more rs n b ws us k x j c) (split (expression_tokens e) (further_arguments more) l) i c

-- ---- in the parentheses of a call

pub record ArgumentsGot (n : ℕ) (b : Bool) (es : Arguments) (ts us : List Placed) : Type 0 where
  pub nodes : List Node
  pub low : Within (arguments_height es) nodes
  pub reads : arguments_to t.close_parenthesis n (expression n) b ts ≡ got (record { tree = es; nodes = nodes }) us

some_closed : {n : ℕ} {b : Bool} {es : Arguments} {ts us : List Placed} (m : ℕ)
    → SomeGot n b es ts (at m (t.sign t.close_parenthesis) ∷ us) → ArgumentsGot n b es ts us
some_closed {n} {b} {es} {ts} {us} m g =
    record {
      nodes = g.nodes;
      low = g.low;
      reads =
          sign_absent t.close_parenthesis (got by.none_found) (λ vs. and_then (some_arguments n (expression n) b vs) closed) ts g.some
          ∙ ap (λ r. and_then r closed) g.reads;
    }
  where
    closed : FoundArguments → List Placed → Read FoundArguments
    closed es vs = past_sign t.close_parenthesis vs (got es)

closes : (m : ℕ) (us : List Placed) → Closed (at m (t.sign t.close_parenthesis) ∷ us)
closes m us = record { loose = refl; stops = refl; comma = refl }

pub arguments_back : (es : Arguments) → Backs es → (n : ℕ) (b : Bool) (ts us : List Placed) → IsTrue (arguments_fit b es)
    → Laid (arguments_tokens es ++ t.sign t.close_parenthesis ∷ []) ts us → Enough n ts → ArgumentsGot n b es ts us
arguments_back no_arguments rs n b ts us h (next m none) i = record { nodes = []; low = refl; reads = refl }
arguments_back (argument e more) rs n b ts us h l i = go (split (expression_tokens e ++ further_arguments more) (t.sign t.close_parenthesis ∷ []) l)
  where
    go : Cut (expression_tokens e ++ further_arguments more) (t.sign t.close_parenthesis ∷ []) ts us → ArgumentsGot n b (argument e more) ts us
    go (cut _ x (next m none)) =
        some_closed m
        (plain_first e more rs.0 rs.1 n b ts (at m (t.sign t.close_parenthesis) ∷ us) (first_holds (expr_fits b e) (arguments_fit b more) h)
        (second_holds (expr_fits b e) (arguments_fit b more) h) x i (closes m us))
arguments_back (splice e more) rs n b ts us h (next {ts = vs} line l) i = go (split (expression_tokens e ++ further_arguments more) (t.sign t.close_parenthesis ∷ []) l)
  where
    go : Cut (expression_tokens e ++ further_arguments more) (t.sign t.close_parenthesis ∷ []) vs us → ArgumentsGot n b (splice e more) (at line (t.sign t.at_sign) ∷ vs) us
    go (cut _ x (next m none)) =
        some_closed m
        (spliced_first e more rs.0 rs.1 n b line vs (at m (t.sign t.close_parenthesis) ∷ us) (first_holds (expr_fits b e) (arguments_fit b more) h)
        (second_holds (expr_fits b e) (arguments_fit b more) h) x i (closes m us))

-- ---- calls

call_read : {n : ℕ} {b : Bool} {k : ℕ} {es : Arguments} {ts us : List Placed} (x : Text) (line m : ℕ) → IsTrue (is_name x)
    → ArgumentsGot n b es ts us → Post n b k (call x es) (at line (t.word x) ∷ at m (t.sign t.open_parenthesis) ∷ ts) us
call_read {n} {b} {k} {es} {ts} {us} x line m h g =
    record {
      line = line;
      nodes = under line g.nodes;
      target = None;
      ranged = false;
      braces = by.no_braces;
      low = one_higher (arguments_height es) line g.nodes g.low;
      sure = refl;
      reads =
          ap (λ r. by.with_steps n (expression n) b (and_then r (λ es vs. got (by.whole (by.found_at line (call (fold_case x) es.tree) es.nodes)) vs))) g.reads
          ∙ ap (λ y. steps n (expression n) b (by.whole (by.found_at line (call y es) g.nodes)) us) (name_is_lower x h);
    }

pub call_back : (x : Text) (es : Arguments) → Backs es → Back (call x es)
call_back x es rs = operand_back go
  where
    go : (n : ℕ) (b : Bool) (k : ℕ) (ts us : List Placed) → IsTrue (is_name x && arguments_fit b es)
        → Laid (t.word x ∷ in_parentheses (arguments_tokens es)) ts us → Enough n ts → Free us → Post n b k (call x es) ts us
    go n b k ts us h (next line (next {ts = vs} m l)) i fr =
        call_read x line m (first_holds (is_name x) (arguments_fit b es) h)
        (arguments_back es rs n b vs us (second_holds (is_name x) (arguments_fit b es) h) l
        (tail (at m (t.sign t.open_parenthesis)) vs (tail (at line (t.word x)) (at m (t.sign t.open_parenthesis) ∷ vs) i)))
