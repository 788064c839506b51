-- Canonical tokens of caught expressions are read as the trees that they are of.
use Rattle.std.proofs.Common.{◌≡◌, ℕ, Bool, false, ◌&&◌, List, [], ◌∷◌, ◌++◌, IsTrue, refl, ap, ◌∙◌}
use Rattle.std.specs.Prelude.{max, None}
use Rattle.spec_value.proofs.Entries.{first_holds, second_holds}
use Rattle.spec_program.specs.Tree.{Expr, caught, Arguments, no_arguments, argument, splice, Codes, any_code, codes_in, Fallback, the_code, instead}
use Rattle.spec_program.specs.Tokens as t
use Rattle.spec_program.specs.Tokens.{Sign, Token, Placed}
use Rattle.spec_program.specs.Reading.{Read, got, and_then, if_sign, past_sign, Node, under}
use Rattle.spec_program.specs.ReadExpressions as by
use Rattle.spec_program.specs.ReadExpressions.{Found, FoundArguments, FoundCodes, Operand, steps, some_arguments, expression, operand}
use Rattle.spec_program.specs.Moves.{at}
use Rattle.spec_program.specs.StatementMoves.{begins_with_keyword}
use Rattle.spec_program.specs.BracedMoves.{all_codes}
use Rattle.spec_program.specs.Trees.{expr_fits, arguments_fit, codes_fit, fallback_fits, expr_height, codes_height, fallback_height}
use Rattle.spec_program.specs.CanonicalTokens.{Laid, none, next, between, expression_tokens, codes_tokens, fallback_tokens, further_arguments, Loose, Stops}
use Rattle.spec_program.proofs.LowTrees.{Within}
use Rattle.spec_program.proofs.StatementMovesHold.{keyword_absent}
use Rattle.spec_program.proofs.Laid.{Cut, cut, split, Enough, later, tail, Free, of, Post, Got}
use Rattle.spec_program.proofs.OperatorsBack.{one_higher, of_two, Back, whole_back, operand_back}
use Rattle.spec_program.proofs.ArgumentsBack.{Backs, SomeGot, Closed, plain_first, spliced_first}
use Rattle.spec_spelling.proofs.Begins.{Begins, starts, not_any}

-- ---- codes

pub record CodesGot (n : ℕ) (b : Bool) (c : Codes) (ts us : List Placed) : Type 0 where
  pub nodes : List Node
  pub low : Within (codes_height c) nodes
  pub reads : by.error_codes n (expression n) b ts ≡ got (record { tree = c; nodes = nodes }) us

abbrev pub CodesBack : Codes → Type 0
CodesBack any_code = Unit {0}
CodesBack (codes_in es) = Backs es

abbrev listed : ℕ → Bool → List Placed → Read FoundCodes
listed n b us = and_then (some_arguments n (expression n) b us) (λ es vs. got (record { tree = codes_in es.tree; nodes = es.nodes }) vs)

some_codes : {n : ℕ} {b : Bool} {es : Arguments} {ts us : List Placed} → begins_with_keyword t.any_word ts ≡ false → SomeGot n b es ts us → CodesGot n b (codes_in es) ts us
some_codes {n} {b} {es} {ts} {us} e g =
    record {
      nodes = g.nodes;
      low = g.low;
      reads =
          keyword_absent t.any_word (got all_codes) (listed n b) ts e
          ∙ ap (λ r. and_then r (λ es vs. got (record { tree = codes_in es.tree; nodes = es.nodes }) vs)) g.reads;
    }

-- an expression that arguments begin with
first_begins : (e : Expr) (more : Arguments) → Back e → (n : ℕ) (b : Bool) (ts us : List Placed) → IsTrue (expr_fits b e)
    → Laid (expression_tokens e ++ further_arguments more) ts us → Enough n ts → Closed us → Begins ts
first_begins e more r n b ts us h l i c = go (split (expression_tokens e) (further_arguments more) l)
  where
    before : (vs : List Placed) → Laid (expression_tokens e) ts vs → Loose vs → Stops 0 vs → Begins ts
    before vs x lo st = starts ts (whole_back r n b ts vs h x i lo st) i

    further : (more : Arguments) (vs : List Placed) → Laid (expression_tokens e) ts vs → Laid (further_arguments more) vs us → Begins ts
    further no_arguments vs x none = before vs x c.loose c.stops
    further (argument a es) vs x (next line y) = before vs x refl refl
    further (splice a es) vs x (next line y) = before vs x refl refl

    go : Cut (expression_tokens e) (further_arguments more) ts us → Begins ts
    go (cut vs x y) = further more vs x y

pub codes_back : (c : Codes) → CodesBack c → (n : ℕ) (b : Bool) (ts us : List Placed) → IsTrue (codes_fit b c)
    → Laid (codes_tokens c) ts us → Enough n ts → Closed us → CodesGot n b c ts us
codes_back any_code rs n b ts us h (next line none) i c = record { nodes = []; low = refl; reads = refl }
codes_back (codes_in no_arguments) rs n b ts us h l i c = absurd (cc h)
codes_back (codes_in (argument e more)) rs n b ts us h l i c =
    some_codes (not_any (first_begins e more rs.0 n b ts us (first_holds (expr_fits b e) (arguments_fit b more) h) l i c))
    (plain_first e more rs.0 rs.1 n b ts us (first_holds (expr_fits b e) (arguments_fit b more) h) (second_holds (expr_fits b e) (arguments_fit b more) h) l i c)
codes_back (codes_in (splice e more)) rs n b ts us h (next {ts = vs} line l) i c =
    some_codes refl
    (spliced_first e more rs.0 rs.1 n b line vs us (first_holds (expr_fits b e) (arguments_fit b more) h) (second_holds (expr_fits b e) (arguments_fit b more) h) l i c)

-- ---- caught expressions

abbrev pub FallbackBack : Fallback → Type 0
FallbackBack the_code = Unit {0}
FallbackBack (instead e) = Back e

-- behind the codes
record EndGot (n : ℕ) (b : Bool) (line : ℕ) (e : Found) (c : FoundCodes) (d : Fallback) (ts us : List Placed) : Type 0 where
  nodes : List Node
  low : Within (fallback_height d) nodes
  reads :
      if_sign t.arrow
      (λ xs. and_then (expression n b 0 xs) (λ d ys. past_sign t.quote ys (got (by.caught_with line e c (instead d.tree) d.nodes))))
      (λ xs. past_sign t.quote xs (got (by.caught_with line e c the_code [])))
      ts
      ≡ got (by.caught_with line e c d nodes) us

fallback_end : (n : ℕ) (b : Bool) (line : ℕ) (e : Found) (c : FoundCodes) (d : Fallback) → FallbackBack d → (m : ℕ) (ts us : List Placed) → IsTrue (fallback_fits b d)
    → Laid (fallback_tokens d) ts (at m (t.sign t.quote) ∷ us) → Enough n ts → EndGot n b line e c d ts us
fallback_end n b line e c the_code r m ts us h none i = record { nodes = []; low = refl; reads = refl }
fallback_end n b line e c (instead d) r m ts us h (next {ts = vs} q l) i =
    let g = whole_back r n b vs (at m (t.sign t.quote) ∷ us) h l (tail (at q (t.sign t.arrow)) vs i) refl refl in
    record {
      nodes = g.nodes;
      low = g.low;
      reads = ap (λ r. and_then r (λ d ys. past_sign t.quote ys (got (by.caught_with line e c (instead d.tree) d.nodes)))) g.reads;
    }

caught_read : {n : ℕ} {b : Bool} {k line m : ℕ} {e : Expr} {c : Codes} {d : Fallback} {ts vs ws us : List Placed}
    → (g : Got n b 0 e ts (at m (t.sign t.not_sign) ∷ vs)) → (q : CodesGot n b c vs ws)
    → EndGot n b line (of e g.line g.nodes) (record { tree = c; nodes = q.nodes }) d ws us
    → Post n b k (caught e c d) (at line (t.sign t.backquote) ∷ ts) us
caught_read {n} {b} {k} {line} {m} {e} {c} {d} {ts} {vs} {ws} {us} g q x =
    record {
      line = line;
      nodes = under line (g.nodes ++ (q.nodes ++ x.nodes));
      target = None;
      ranged = false;
      braces = by.no_braces;
      low =
          one_higher (max (expr_height e) (max (codes_height c) (fallback_height d))) line (g.nodes ++ (q.nodes ++ x.nodes))
          (of_two (expr_height e) (max (codes_height c) (fallback_height d)) g.nodes (q.nodes ++ x.nodes) g.low
          (of_two (codes_height c) (fallback_height d) q.nodes x.nodes q.low x.low));
      sure = refl;
      reads =
          ap (λ r. by.with_steps n (expression n) b (and_then r after)) g.reads
          ∙ ap (λ r. by.with_steps n (expression n) b (and_then r (last (of e g.line g.nodes)))) q.reads
          ∙ ap (λ r. by.with_steps n (expression n) b r) x.reads;
    }
  where
    last : Found → FoundCodes → List Placed → Read Operand
    last e c ws =
        if_sign t.arrow
        (λ xs. and_then (expression n b 0 xs) (λ d ys. past_sign t.quote ys (got (by.caught_with line e c (instead d.tree) d.nodes))))
        (λ xs. past_sign t.quote xs (got (by.caught_with line e c the_code [])))
        ws

    after : Found → List Placed → Read Operand
    after e us = past_sign t.not_sign us (λ vs. and_then (by.error_codes n (expression n) b vs) (last e))

-- what stands behind the codes of a catch
codes_end : (d : Fallback) (m : ℕ) (ts us : List Placed) → Laid (fallback_tokens d) ts (at m (t.sign t.quote) ∷ us) → Closed ts
codes_end the_code m ts us none = record { loose = refl; stops = refl; comma = refl }
codes_end (instead d) m ts us (next q l) = record { loose = refl; stops = refl; comma = refl }

pub caught_back : (e : Expr) (c : Codes) (d : Fallback) → Back e → CodesBack c → FallbackBack d → Back (caught e c d)
caught_back e c d re rc rd = operand_back go
  where
    go : (n : ℕ) (b : Bool) (k : ℕ) (ts us : List Placed) → IsTrue (expr_fits b e && (codes_fit b c && fallback_fits b d))
        → Laid (between t.backquote (expression_tokens e ++ (t.sign t.not_sign ∷ (codes_tokens c ++ fallback_tokens d))) t.quote) ts us → Enough n ts → Free us
        → Post n b k (caught e c d) ts us
    go n b k ts us h (next {ts = xs} line l) i fr =
        first (split (expression_tokens e ++ (t.sign t.not_sign ∷ (codes_tokens c ++ fallback_tokens d))) (t.sign t.quote ∷ []) l)
      where
        he : IsTrue (expr_fits b e)
        he = first_holds (expr_fits b e) (codes_fit b c && fallback_fits b d) h

        hcd : IsTrue (codes_fit b c && fallback_fits b d)
        hcd = second_holds (expr_fits b e) (codes_fit b c && fallback_fits b d) h

        third : (m q : ℕ) (vs : List Placed) → Laid (expression_tokens e) xs (at m (t.sign t.not_sign) ∷ vs)
            → Cut (codes_tokens c) (fallback_tokens d) vs (at q (t.sign t.quote) ∷ us) → Post n b k (caught e c d) (at line (t.sign t.backquote) ∷ xs) us
        third m q vs le (cut ws lc ld) =
            let ix = tail (at line (t.sign t.backquote)) xs i in
            let iv = tail (at m (t.sign t.not_sign)) vs (later le ix) in
            let g = whole_back re n b xs (at m (t.sign t.not_sign) ∷ vs) he le ix refl refl in
            let y = codes_back c rc n b vs ws (first_holds (codes_fit b c) (fallback_fits b d) hcd) lc iv (codes_end d q ws us ld) in
            caught_read {line = line} {m = m} g y
            (fallback_end n b line (of e g.line g.nodes) (record { tree = c; nodes = y.nodes }) d rd q ws us (second_holds (codes_fit b c) (fallback_fits b d) hcd) ld (later lc iv))

        second : (q : ℕ) → Cut (expression_tokens e) (t.sign t.not_sign ∷ (codes_tokens c ++ fallback_tokens d)) xs (at q (t.sign t.quote) ∷ us)
            → Post n b k (caught e c d) (at line (t.sign t.backquote) ∷ xs) us
        second q (cut _ le (next {ts = vs} m lc)) = third m q vs le (split (codes_tokens c) (fallback_tokens d) lc)

        first : Cut (expression_tokens e ++ (t.sign t.not_sign ∷ (codes_tokens c ++ fallback_tokens d))) (t.sign t.quote ∷ []) xs us
            → Post n b k (caught e c d) (at line (t.sign t.backquote) ∷ xs) us
        first (cut _ x (next q none)) = second q (split (expression_tokens e) (t.sign t.not_sign ∷ (codes_tokens c ++ fallback_tokens d)) x)
