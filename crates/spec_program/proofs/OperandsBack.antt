-- Canonical tokens of operands are read as the trees that they are of.
use Rattle.std.proofs.Common.{◌≡◌, ◌≤◌, ℕ, suc, pos, negsuc, Bool, true, false, ◌==◌, ◌||◌, ◌&&◌, List, [], ◌∷◌, ◌++◌, IsTrue, refl, sym, ap, subst, ◌∙◌, leb-true, le-leb, arith, ◌⊎◌, inl, inr}
use Rattle.std.specs.Prelude.{nat_le, max, Some, None, if◌then◌else◌}
use Rattle.std.specs.Char.{to_ascii_lowercase}
use Rattle.std.specs.List.{list_all}
use Rattle.std.proofs.lemmas.Bool.{eqb-true}
use Rattle.std.proofs.lemmas.Str.Ascii.{lowercase_is}
use Rattle.spec_value.proofs.Entries.{first_holds, second_holds}
use Rattle.spec_value.specs.Datum as value
use Rattle.spec_value.specs.Datum.{Datum, Text, ErrorCode, fold_case}
use Rattle.spec_program.specs.Tree.{Expr, literal, variable, own_length, conditional, call, to_variable}
use Rattle.spec_program.specs.Spelling.{level}
use Rattle.spec_program.specs.Tokens as t
use Rattle.spec_program.specs.Tokens.{Sign, Token, Placed, greatest_integer}
use Rattle.spec_program.specs.Reading.{Read, got, and_then, past_sign, under}
use Rattle.spec_program.specs.ReadExpressions as by
use Rattle.spec_program.specs.ReadExpressions.{Found, FoundArguments, Operand, steps, operators, expression, operand, some_arguments}
use Rattle.spec_program.specs.Moves.{at}
use Rattle.spec_program.specs.Trees.{begins_name, continues_name, is_lower_word, is_name, is_literal, expr_fits, expr_height}
use Rattle.spec_program.specs.CanonicalTokens.{Laid, none, next, at_level, literal_tokens, expression_tokens, Loose, Stops}
use Rattle.spec_program.proofs.LowTrees.{Within}
use Rattle.spec_program.proofs.MovesHold.{operators_again, sign_absent}
use Rattle.spec_program.proofs.OtherMovesHold.{alone}
use Rattle.spec_program.proofs.Laid.{Cut, cut, split, Enough, later, tail, plain, Free, no_parenthesis, no_word, of, Post, Begun, Got, ended}
use Rattle.spec_program.proofs.OperatorsBack.{is_false, one_higher, of_two, right, Sides, sides, same, more, no_less, stops_later, Back, whole_back, leveled, no_operand_back, operand_back}

-- ---- conditional expressions

question_stops : {l r : ℕ} → Sides l r → 2 ≤ l → nat_le r 1 ≡ false
question_stops (same e (inl v)) h = absurd (omega (arith, v, h))
question_stops {l} {r} (same e (inr v)) h = is_false r 1 (omega (arith, e, v))
question_stops {l} {r} (more e v) h = is_false r 1 (omega (arith, e, v))

question_read : (n : ℕ) (b : Bool) (k : ℕ) (a : Found) (line : ℕ) (ts : List Placed) → k ≤ 1 → Enough n (at line (t.sign t.question) ∷ ts)
    → operators n (expression n) b k a (at line (t.sign t.question) ∷ ts) ≡ by.chosen_between (expression n) b (operators n (expression n) b k) a ts
question_read n b k a line ts kl i =
    operators_again n b k a (at line (t.sign t.question) ∷ ts) (plain (at line (t.sign t.question) ∷ ts) i)
    ∙ ap (λ c. by.if_tight c (by.chosen_between (expression n) b (operators n (expression n) b k) a) (got a) ts (at line (t.sign t.question) ∷ ts)) (le-leb k 1 kl)

conditional_read : {n : ℕ} {b : Bool} {k line m : ℕ} {c x y : Expr} {ts vs ws us : List Placed} → k ≤ 1
    → Begun n b k c ts (at line (t.sign t.question) ∷ vs) → Got n b 0 x vs (at m (t.sign t.bar) ∷ ws) → Got n b 1 y ws us
    → Enough n (at line (t.sign t.question) ∷ vs) → Begun n b k (conditional c x y) ts us
conditional_read {n} {b} {k} {line} {m} {c} {x} {y} {ts} {vs} {ws} {us} kl r s u i =
    record {
      line = r.line;
      nodes = under r.line (r.nodes ++ (s.nodes ++ u.nodes));
      low =
          one_higher (max (expr_height c) (max (expr_height x) (expr_height y))) r.line (r.nodes ++ (s.nodes ++ u.nodes))
          (of_two (expr_height c) (max (expr_height x) (expr_height y)) r.nodes (s.nodes ++ u.nodes) r.low (of_two (expr_height x) (expr_height y) s.nodes u.nodes s.low u.low));
      reads =
          r.reads ∙ question_read n b k (of c r.line r.nodes) line vs kl i
          ∙ ap (λ z. and_then z after) s.reads
          ∙ ap (λ z. and_then z (last (of x s.line s.nodes))) u.reads;
    }
  where
    last : Found → Found → List Placed → Read Found
    last x y ws = operators n (expression n) b k (by.found_at r.line (conditional c x.tree y.tree) (r.nodes ++ (x.nodes ++ y.nodes))) ws

    after : Found → List Placed → Read Found
    after x us = past_sign t.bar us (λ vs. and_then (expression n b 1 vs) (last x))

pub conditional_back : (c x y : Expr) → Back c → Back x → Back y → Back (conditional c x y)
conditional_back c x y rc rx ry = no_operand_back (λ e. cc) go
  where
    go : (n : ℕ) (b : Bool) (k : ℕ) (ts us : List Placed) → IsTrue (expr_fits b (conditional c x y)) → k ≤ 1
        → Laid (expression_tokens (conditional c x y)) ts us → Enough n ts → Loose us → Stops 1 us → Begun n b k (conditional c x y) ts us
    go n b k ts us h kl l i lo st =
        first (split (at_level 2 (level c) (expression_tokens c)) (t.sign t.question ∷ (expression_tokens x ++ (t.sign t.bar ∷ at_level 1 (level y) (expression_tokens y)))) l)
      where
        hc : IsTrue (expr_fits b c)
        hc = first_holds (expr_fits b c) (expr_fits b x && expr_fits b y) h

        hxy : IsTrue (expr_fits b x && expr_fits b y)
        hxy = second_holds (expr_fits b c) (expr_fits b x && expr_fits b y) h

        third : (vs : List Placed) (line : ℕ) → Laid (at_level 2 (level c) (expression_tokens c)) ts (at line (t.sign t.question) ∷ vs)
            → Cut (expression_tokens x) (t.sign t.bar ∷ at_level 1 (level y) (expression_tokens y)) vs us → Begun n b k (conditional c x y) ts us
        third vs line lc (cut _ lx (next {ts = ws} m ly)) =
            let ic = later lc i in
            let ix = tail (at line (t.sign t.question)) vs ic in
            let iy = tail (at m (t.sign t.bar)) ws (later lx ix) in
            conditional_read {line = line} {m = m} kl
            (leveled 2 rc n b k ts (at line (t.sign t.question) ∷ vs) hc (omega (arith, kl)) lc i refl (λ q. question_stops (sides c) q))
            (whole_back rx n b vs (at m (t.sign t.bar) ∷ ws) (first_holds (expr_fits b x) (expr_fits b y) hxy) lx ix refl refl)
            (ended (leveled 1 ry n b 1 ws us (second_holds (expr_fits b x) (expr_fits b y) hxy) (omega arith) ly iy lo
            (λ q. let u = no_less y in stops_later 1 (right y) us (omega (arith, q, u)) st)) (later ly iy) st)
            ic

        first : Cut (at_level 2 (level c) (expression_tokens c)) (t.sign t.question ∷ (expression_tokens x ++ (t.sign t.bar ∷ at_level 1 (level y) (expression_tokens y)))) ts us
            → Begun n b k (conditional c x y) ts us
        first (cut _ lc (next {ts = vs} line lx)) = third vs line lc (split (expression_tokens x) (t.sign t.bar ∷ at_level 1 (level y) (expression_tokens y)) lx)

-- ---- literals, variables and `$`

leaf : {n : ℕ} {b : Bool} {k : ℕ} {e : Expr} {ts us : List Placed} (line : ℕ) → Within (expr_height e) (under line [])
    → operand n (expression n) b k ts ≡ steps n (expression n) b (by.whole (by.found_at line e [])) us → Post n b k e ts us
leaf line w r =
    record {
      line = line;
      nodes = under line [];
      target = None;
      ranged = false;
      braces = by.no_braces;
      low = w;
      sure = refl;
      reads = r;
    }

whole_number : (m : ℕ) → IsTrue (nat_le m greatest_integer) → by.integer_value m ≡ pos m
whole_number m h = ap (λ c. if c then pos m else negsuc greatest_integer) h

least_number : (m : ℕ) → m ≡ 2147483647 → by.integer_value (suc m) ≡ negsuc m
least_number m e = subst (λ x. by.integer_value (suc x) ≡ negsuc x) (sym e) refl

literal_post : (n : ℕ) (b : Bool) (k : ℕ) (v : Datum) (ts us : List Placed) → IsTrue (is_literal v) → Laid (literal_tokens v) ts us → Post n b k (literal v) ts us
literal_post n b k (value.integer (pos m)) ts us h (next line none) =
    leaf line refl (ap (λ z. steps n (expression n) b (by.whole (by.found_at line (literal (value.integer z)) [])) us) (whole_number m h))
literal_post n b k (value.integer (negsuc m)) ts us h (next line none) =
    leaf line refl (ap (λ z. steps n (expression n) b (by.whole (by.found_at line (literal (value.integer z)) [])) us) (least_number m (eqb-true m 2147483647 h)))
literal_post n b k (value.object (pos m)) ts us h (next line none) = leaf line refl refl
literal_post n b k (value.object (negsuc m)) ts us h (next line none) = leaf line refl refl
literal_post n b k (value.text x) ts us h (next line none) = leaf line refl refl
literal_post n b k (value.error e) ts us h (next line none) = leaf line refl refl
literal_post n b k (value.list vs) ts us h l = absurd (cc h)

pub literal_back : (v : Datum) → Back (literal v)
literal_back v = operand_back (λ n b k ts us h l i fr. literal_post n b k v ts us h l)

one_of : (a b : Bool) → IsTrue (a || b) → IsTrue a ⊎ IsTrue b
one_of true b h = inl refl
one_of false b h = inr h

lower_letter : (c : ℕ) → IsTrue (c == 95) ⊎ IsTrue (nat_le 97 c && nat_le c 122) → to_ascii_lowercase c ≡ c
lower_letter c (inl h) = let e : c ≡ 95 = eqb-true c 95 h in (lowercase_is c).2 (omega (arith, e))
lower_letter c (inr h) = let l : 97 ≤ c = leb-true 97 c (first_holds (nat_le 97 c) (nat_le c 122) h) in (lowercase_is c).2 (omega (arith, l))

lower_character : (c : ℕ) → IsTrue (begins_name c) ⊎ IsTrue (nat_le 48 c && nat_le c 57) → to_ascii_lowercase c ≡ c
lower_character c (inl h) = lower_letter c (one_of (c == 95) (nat_le 97 c && nat_le c 122) h)
lower_character c (inr h) = let l : c ≤ 57 = leb-true c 57 (second_holds (nat_le 48 c) (nat_le c 57) h) in (lowercase_is c).1 (omega (arith, l))

lower_all : (x : Text) → IsTrue (list_all continues_name x) → fold_case x ≡ x
lower_all [] h = refl
lower_all (c ∷ x) h =
    let y : to_ascii_lowercase c ≡ c = lower_character c (one_of (begins_name c) (nat_le 48 c && nat_le c 57) (first_holds (continues_name c) (list_all continues_name x) h)) in
    let z : fold_case x ≡ x = lower_all x (second_holds (continues_name c) (list_all continues_name x) h) in
    ap (λ d. d ∷ fold_case x) y ∙ ap (λ u. c ∷ u) z

lower_word : (x : Text) → IsTrue (is_lower_word x) → fold_case x ≡ x
lower_word [] h = refl
lower_word (c ∷ x) h =
    let y : to_ascii_lowercase c ≡ c = lower_character c (inl (first_holds (begins_name c) (list_all continues_name x) h)) in
    let z : fold_case x ≡ x = lower_all x (second_holds (begins_name c) (list_all continues_name x) h) in
    ap (λ d. d ∷ fold_case x) y ∙ ap (λ u. c ∷ u) z

pub name_is_lower : (x : Text) → IsTrue (is_name x) → fold_case x ≡ x
name_is_lower x h = lower_word x (first_holds (is_lower_word x) _ h)

variable_at : ℕ → Text → Operand
variable_at line x = by.assignable (by.found_at line (variable x) []) (to_variable x)

variable_post : (n : ℕ) (b : Bool) (k : ℕ) (x : Text) (ts us : List Placed) → IsTrue (is_name x) → Laid (t.word x ∷ []) ts us → Free us → Post n b k (variable x) ts us
unfolding variable_at
variable_post n b k x ts us h (next line none) fr =
    record {
      line = line;
      nodes = under line [];
      target = Some (to_variable x);
      ranged = false;
      braces = by.no_braces;
      low = refl;
      sure = refl;
      reads =
          ap (λ r. by.with_steps n (expression n) b r) (sign_absent t.open_parenthesis called (got (variable_at line (fold_case x))) us (no_parenthesis us fr))
          ∙ ap (λ y. steps n (expression n) b (variable_at line y) us) (name_is_lower x h);
    }
  where
    called : List Placed → Read Operand
    called us =
        and_then (by.arguments_to t.close_parenthesis n (expression n) b us) (λ es vs. got (by.whole (by.found_at line (call (fold_case x) es.tree) es.nodes)) vs)

pub variable_back : (x : Text) → Back (variable x)
variable_back x = operand_back (λ n b k ts us h l i fr. variable_post n b k x ts us h l fr)

length_post : (n : ℕ) (b : Bool) (k : ℕ) (ts us : List Placed) → IsTrue b → Laid (t.sign t.dollar ∷ []) ts us → Free us → Post n b k own_length ts us
length_post n true k ts us h (next line none) fr = leaf line refl (ap (λ r. by.with_steps n (expression n) true r) (alone n true line us (no_word us fr)))
length_post n false k ts us h l fr = absurd (cc h)

pub length_back : Back own_length
length_back = operand_back (λ n b k ts us h l i fr. length_post n b k ts us h l fr)
