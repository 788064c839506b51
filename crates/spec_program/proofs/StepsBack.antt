-- Canonical tokens of properties, indexes and ranges are read as the trees that they are of.
use Rattle.std.proofs.Common.{◌≡◌, ℕ, zero, pos, Bool, true, false, ◌&&◌, List, [], ◌∷◌, ◌++◌, IsTrue, refl, sym, ap, subst, ◌∙◌}
use Rattle.std.specs.Prelude.{max, Option, Some, None, if◌then◌else◌}
use Rattle.spec_value.proofs.Entries.{first_holds, second_holds}
use Rattle.spec_value.specs.Datum as value
use Rattle.spec_value.specs.Datum.{Text}
use Rattle.spec_program.specs.Names.{is_identifier}
use Rattle.spec_program.specs.Tree.{Expr, literal, property, index, range, to_property, to_index, to_range}
use Rattle.spec_program.specs.Spelling.{level, plain_name, is_system}
use Rattle.spec_program.specs.Tokens as t
use Rattle.spec_program.specs.Tokens.{Sign, Token, Placed}
use Rattle.spec_program.specs.Reading.{Read, got, and_then, if_sign, past_sign, Node, under}
use Rattle.spec_program.specs.ReadExpressions as by
use Rattle.spec_program.specs.ReadExpressions.{Found, Operand, steps, expression, operand}
use Rattle.spec_program.specs.Moves.{at}
use Rattle.spec_program.specs.FurtherMoves.{name_at}
use Rattle.spec_program.specs.Trees.{expr_fits, expr_height}
use Rattle.spec_program.specs.CanonicalTokens.{Laid, none, next, at_level, between, name_tokens, dotted, expression_tokens}
use Rattle.spec_program.proofs.LowTrees.{Within}
use Rattle.spec_program.proofs.MovesHold.{steps_again, sign_absent}
use Rattle.spec_program.proofs.Laid.{Cut, cut, split, Enough, later, tail, plain, Free, no_parenthesis, of, Post, Got}
use Rattle.spec_program.proofs.OperatorsBack.{one_higher, of_two, Back, whole_back, leveled_post, operand_back}

-- a step is read where it begins
pub step_read : {n : ℕ} {b : Bool} {k : ℕ} {e : Expr} {ts : List Placed} {p : Placed} {us : List Placed}
    → (r : Post n b k e ts (p ∷ us)) → Enough n (p ∷ us)
    → operand n (expression n) b k ts
    ≡ by.step_after n (expression n) b (steps n (expression n) b)
    (record { found = of e r.line r.nodes; target = r.target; ranged = r.ranged; braces = r.braces }) p.token us (p ∷ us)
step_read {n} {b} {k} {e} {ts} {p} {us} r i =
    r.reads ∙ steps_again n b o (p ∷ us) (plain (p ∷ us) i) ∙ ap (λ c. by.steps_unless c n (expression n) b (steps n (expression n) b) o (p ∷ us)) r.sure
  where
    o : Operand
    o = record { found = of e r.line r.nodes; target = r.target; ranged = r.ranged; braces = r.braces }

-- ---- indexes and ranges

index_read : {n : ℕ} {b : Bool} {k line m : ℕ} {x i : Expr} {ts vs us : List Placed}
    → Post n b k x ts (at line (t.sign t.open_bracket) ∷ vs) → Enough n (at line (t.sign t.open_bracket) ∷ vs)
    → Got n true 0 i vs (at m (t.sign t.close_bracket) ∷ us) → Post n b k (index x i) ts us
index_read {n} {b} {k} {line} {m} {x} {i} {ts} {vs} {us} r h s =
    record {
      line = r.line;
      nodes = under r.line (r.nodes ++ s.nodes);
      target = by.stepped r.target r.ranged (λ t. to_index t i);
      ranged = false;
      braces = by.no_braces;
      low = one_higher (max (expr_height x) (expr_height i)) r.line (r.nodes ++ s.nodes) (of_two (expr_height x) (expr_height i) r.nodes s.nodes r.low s.low);
      sure = refl;
      reads = step_read r h ∙ ap (λ z. and_then z after) s.reads;
    }
  where
    o : Operand
    o = record { found = of x r.line r.nodes; target = r.target; ranged = r.ranged; braces = r.braces }

    after : Found → List Placed → Read Operand
    after i us =
        if_sign t.double_dot
        (λ vs. and_then (expression n true 0 vs) (λ j ws. past_sign t.close_bracket ws (λ xs. steps n (expression n) b (by.range_of o i j) xs)))
        (λ vs. past_sign t.close_bracket vs (λ ws. steps n (expression n) b (by.index_of o i) ws))
        us

pub index_back : (x i : Expr) → Back x → Back i → Back (index x i)
index_back x i rx ri = operand_back go
  where
    go : (n : ℕ) (b : Bool) (k : ℕ) (ts us : List Placed) → IsTrue (expr_fits b (index x i))
        → Laid (at_level 8 (level x) (expression_tokens x) ++ between t.open_bracket (expression_tokens i) t.close_bracket) ts us
        → Enough n ts → Free us → Post n b k (index x i) ts us
    go n b k ts us h l e fr = first (split (at_level 8 (level x) (expression_tokens x)) (between t.open_bracket (expression_tokens i) t.close_bracket) l)
      where
        second : (vs : List Placed) (line : ℕ) → Laid (at_level 8 (level x) (expression_tokens x)) ts (at line (t.sign t.open_bracket) ∷ vs)
            → Cut (expression_tokens i) (t.sign t.close_bracket ∷ []) vs us → Post n b k (index x i) ts us
        second vs line lx (cut _ li (next m none)) =
            let ex = later lx e in
            let ei = tail (at line (t.sign t.open_bracket)) vs ex in
            index_read {line = line} {m = m}
            (leveled_post rx n b k ts (at line (t.sign t.open_bracket) ∷ vs) (first_holds (expr_fits b x) (expr_fits true i) h) lx e refl)
            ex
            (whole_back ri n true vs (at m (t.sign t.close_bracket) ∷ us) (second_holds (expr_fits b x) (expr_fits true i) h) li ei refl refl)

        first : Cut (at_level 8 (level x) (expression_tokens x)) (between t.open_bracket (expression_tokens i) t.close_bracket) ts us → Post n b k (index x i) ts us
        first (cut _ lx (next {ts = vs} line li)) = second vs line lx (split (expression_tokens i) (t.sign t.close_bracket ∷ []) li)

range_read : {n : ℕ} {b : Bool} {k line m q : ℕ} {x i j : Expr} {ts vs ws us : List Placed}
    → Post n b k x ts (at line (t.sign t.open_bracket) ∷ vs) → Enough n (at line (t.sign t.open_bracket) ∷ vs)
    → Got n true 0 i vs (at m (t.sign t.double_dot) ∷ ws) → Got n true 0 j ws (at q (t.sign t.close_bracket) ∷ us) → Post n b k (range x i j) ts us
range_read {n} {b} {k} {line} {m} {q} {x} {i} {j} {ts} {vs} {ws} {us} r h s u =
    record {
      line = r.line;
      nodes = under r.line (r.nodes ++ (s.nodes ++ u.nodes));
      target = by.stepped r.target r.ranged (λ t. to_range t i j);
      ranged = true;
      braces = by.no_braces;
      low =
          one_higher (max (expr_height x) (max (expr_height i) (expr_height j))) r.line (r.nodes ++ (s.nodes ++ u.nodes))
          (of_two (expr_height x) (max (expr_height i) (expr_height j)) r.nodes (s.nodes ++ u.nodes) r.low (of_two (expr_height i) (expr_height j) s.nodes u.nodes s.low u.low));
      sure = refl;
      reads = step_read r h ∙ ap (λ z. and_then z after) s.reads ∙ ap (λ z. and_then z (last (of i s.line s.nodes))) u.reads;
    }
  where
    o : Operand
    o = record { found = of x r.line r.nodes; target = r.target; ranged = r.ranged; braces = r.braces }

    last : Found → Found → List Placed → Read Operand
    last i j ws = past_sign t.close_bracket ws (λ xs. steps n (expression n) b (by.range_of o i j) xs)

    after : Found → List Placed → Read Operand
    after i us =
        if_sign t.double_dot
        (λ vs. and_then (expression n true 0 vs) (last i))
        (λ vs. past_sign t.close_bracket vs (λ ws. steps n (expression n) b (by.index_of o i) ws))
        us

-- ---- names, plain or in parentheses

identified : (x y : Text) (c : Bool) → (if c then Some y else None) ≡ Some x → y ≡ x
identified x y true e = cc
identified x y false e = absurd (cc e)

pub name_is : (p : Expr) (x : Text) → plain_name p ≡ Some x → p ≡ literal (value.text x)
name_is (literal (value.text y)) x e = ap (λ z. literal (value.text z)) (identified x y (is_identifier y) e)
name_is _ x e = absurd (cc e)

pub system_is : (o : Expr) → is_system o ≡ true → o ≡ literal (value.object (pos 0))
system_is (literal (value.object (pos zero))) e = refl
system_is _ e = absurd (cc e)

pub record NameGot (n : ℕ) (b : Bool) (p : Expr) (ts us : List Placed) : Type 0 where
  pub line : ℕ
  pub nodes : List Node
  pub low : Within (expr_height p) nodes
  pub reads : by.name (expression n) b ts ≡ got (of p line nodes) us

word_name : {n : ℕ} {b : Bool} {us : List Placed} (line : ℕ) (x : Text) → NameGot n b (literal (value.text x)) (at line (t.word x) ∷ us) us
word_name line x = record { line = line; nodes = under line []; low = refl; reads = refl }

closed_name : {n : ℕ} {b : Bool} {line m : ℕ} {p : Expr} {ts us : List Placed}
    → Got n b 0 p ts (at m (t.sign t.close_parenthesis) ∷ us) → NameGot n b p (at line (t.sign t.open_parenthesis) ∷ ts) us
closed_name {line = line} r =
    record {
      line = line;
      nodes = r.nodes;
      low = r.low;
      reads = ap (λ x. and_then x (λ e us. past_sign t.close_parenthesis us (got (record e { line = line })))) r.reads;
    }

pub name_back : {p : Expr} → Back p → (n : ℕ) (b : Bool) (m : Option Text) (ts us : List Placed) → IsTrue (expr_fits b p) → plain_name p ≡ m
    → Laid (name_tokens m (expression_tokens p)) ts us → Enough n ts → NameGot n b p ts us
name_back {p} r n b (Some x) ts us h d (next line none) i =
    subst (λ q. NameGot n b q (at line (t.word x) ∷ us) us) (sym (name_is p x d)) (word_name line x)
name_back {p} r n b None ts us h d (next {ts = vs} line l) i = go (split (expression_tokens p) (t.sign t.close_parenthesis ∷ []) l)
  where
    go : Cut (expression_tokens p) (t.sign t.close_parenthesis ∷ []) vs us → NameGot n b p (at line (t.sign t.open_parenthesis) ∷ vs) us
    go (cut ws x (next m none)) =
        closed_name {line = line} {m = m} (whole_back r n b vs (at m (t.sign t.close_parenthesis) ∷ us) h x (tail (at line (t.sign t.open_parenthesis)) vs i) refl refl)

-- ---- properties

property_read : {n : ℕ} {b : Bool} {k line : ℕ} {o p : Expr} {ts vs us : List Placed}
    → Post n b k o ts (at line (t.sign t.dot) ∷ vs) → Enough n (at line (t.sign t.dot) ∷ vs) → NameGot n b p vs us → Post n b k (property o p) ts us
property_read {n} {b} {k} {line} {o} {p} {ts} {vs} {us} r h s =
    record {
      line = r.line;
      nodes = under r.line (r.nodes ++ s.nodes);
      target = Some (to_property o p);
      ranged = false;
      braces = by.no_braces;
      low = one_higher (max (expr_height o) (expr_height p)) r.line (r.nodes ++ s.nodes) (of_two (expr_height o) (expr_height p) r.nodes s.nodes r.low s.low);
      sure = refl;
      reads = step_read r h ∙ ap (λ z. and_then z (λ q us. steps n (expression n) b (by.property_of (of o r.line r.nodes) q) us)) s.reads;
    }

system_property : {n : ℕ} {b : Bool} {k : ℕ} {us : List Placed} (line m : ℕ) (x : Text) → Free us
    → Post n b k (property (literal (value.object (pos 0))) (literal (value.text x))) (at line (t.sign t.dollar) ∷ at m (t.word x) ∷ us) us
system_property {n} {b} {k} {us} line m x fr =
    record {
      line = line;
      nodes = under line (under line [] ++ under m []);
      target = Some (to_property (literal (value.object (pos 0))) (literal (value.text x)));
      ranged = false;
      braces = by.no_braces;
      low = refl;
      sure = refl;
      reads =
          ap (λ r. by.with_steps n (expression n) b r)
          (sign_absent t.open_parenthesis (λ vs. by.verb_of n (expression n) b (by.system_at line) (name_at m x) us)
          (got (by.property_of (by.system_at line) (name_at m x))) us (no_parenthesis us fr));
    }

short_property : {o p : Expr} (n : ℕ) (b : Bool) (k : ℕ) (ts us : List Placed) (x : Text) → is_system o ≡ true → plain_name p ≡ Some x → Free us
    → Laid (t.sign t.dollar ∷ t.word x ∷ []) ts us → Post n b k (property o p) ts us
short_property {o} {p} n b k ts us x c d fr (next line (next m none)) =
    subst (λ u. Post n b k (property u p) (at line (t.sign t.dollar) ∷ at m (t.word x) ∷ us) us) (sym (system_is o c))
    (subst (λ q. Post n b k (property (literal (value.object (pos 0))) q) (at line (t.sign t.dollar) ∷ at m (t.word x) ∷ us) us) (sym (name_is p x d))
    (system_property line m x fr))

pub property_back : (o p : Expr) → Back o → Back p → Back (property o p)
property_back o p ro rp = operand_back go
  where
    go : (n : ℕ) (b : Bool) (k : ℕ) (ts us : List Placed) → IsTrue (expr_fits b o && expr_fits b p)
        → Laid (expression_tokens (property o p)) ts us → Enough n ts → Free us → Post n b k (property o p) ts us
    go n b k ts us h l e fr = by_name (is_system o) (plain_name p) refl refl l
      where
        long : (m : Option Text) → plain_name p ≡ m
            → Cut (at_level 8 (level o) (expression_tokens o)) (t.sign t.dot ∷ name_tokens m (expression_tokens p)) ts us → Post n b k (property o p) ts us
        long m d (cut _ lo (next {ts = vs} line lp)) =
            let eo = later lo e in
            property_read {line = line}
            (leveled_post ro n b k ts (at line (t.sign t.dot) ∷ vs) (first_holds (expr_fits b o) (expr_fits b p) h) lo e refl)
            eo
            (name_back rp n b m vs us (second_holds (expr_fits b o) (expr_fits b p) h) d lp (tail (at line (t.sign t.dot)) vs eo))

        by_name : (s : Bool) (m : Option Text) → is_system o ≡ s → plain_name p ≡ m
            → Laid (dotted t.dot (at_level 8 (level o) (expression_tokens o)) s m (expression_tokens p)) ts us → Post n b k (property o p) ts us
        by_name true (Some x) c d m = short_property n b k ts us x c d fr m
        by_name true None c d m = long None d (split (at_level 8 (level o) (expression_tokens o)) (t.sign t.dot ∷ name_tokens None (expression_tokens p)) m)
        by_name false (Some x) c d m = long (Some x) d (split (at_level 8 (level o) (expression_tokens o)) (t.sign t.dot ∷ name_tokens (Some x) (expression_tokens p)) m)
        by_name false None c d m = long None d (split (at_level 8 (level o) (expression_tokens o)) (t.sign t.dot ∷ name_tokens None (expression_tokens p)) m)

pub range_back : (x i j : Expr) → Back x → Back i → Back j → Back (range x i j)
range_back x i j rx ri rj = operand_back go
  where
    go : (n : ℕ) (b : Bool) (k : ℕ) (ts us : List Placed) → IsTrue (expr_fits b x && (expr_fits true i && expr_fits true j))
        → Laid (at_level 8 (level x) (expression_tokens x) ++ between t.open_bracket (expression_tokens i ++ (t.sign t.double_dot ∷ expression_tokens j)) t.close_bracket) ts us
        → Enough n ts → Free us → Post n b k (range x i j) ts us
    go n b k ts us h l e fr =
        first (split (at_level 8 (level x) (expression_tokens x)) (between t.open_bracket (expression_tokens i ++ (t.sign t.double_dot ∷ expression_tokens j)) t.close_bracket) l)
      where
        hij : IsTrue (expr_fits true i && expr_fits true j)
        hij = second_holds (expr_fits b x) (expr_fits true i && expr_fits true j) h

        third : (vs : List Placed) (line : ℕ) → Laid (at_level 8 (level x) (expression_tokens x)) ts (at line (t.sign t.open_bracket) ∷ vs)
            → (q : ℕ) → Cut (expression_tokens i) (t.sign t.double_dot ∷ expression_tokens j) vs (at q (t.sign t.close_bracket) ∷ us) → Post n b k (range x i j) ts us
        third vs line lx q (cut _ li (next {ts = ws} m lj)) =
            let ex = later lx e in
            let ei = tail (at line (t.sign t.open_bracket)) vs ex in
            range_read {line = line} {m = m} {q = q}
            (leveled_post rx n b k ts (at line (t.sign t.open_bracket) ∷ vs) (first_holds (expr_fits b x) (expr_fits true i && expr_fits true j) h) lx e refl)
            ex
            (whole_back ri n true vs (at m (t.sign t.double_dot) ∷ ws) (first_holds (expr_fits true i) (expr_fits true j) hij) li ei refl refl)
            (whole_back rj n true ws (at q (t.sign t.close_bracket) ∷ us) (second_holds (expr_fits true i) (expr_fits true j) hij) lj (tail (at m (t.sign t.double_dot)) ws (later li ei)) refl refl)

        second : (vs : List Placed) (line : ℕ) → Laid (at_level 8 (level x) (expression_tokens x)) ts (at line (t.sign t.open_bracket) ∷ vs)
            → Cut (expression_tokens i ++ (t.sign t.double_dot ∷ expression_tokens j)) (t.sign t.close_bracket ∷ []) vs us → Post n b k (range x i j) ts us
        second vs line lx (cut _ lij (next q none)) =
            third vs line lx q (split (expression_tokens i) (t.sign t.double_dot ∷ expression_tokens j) lij)

        first : Cut (at_level 8 (level x) (expression_tokens x)) (between t.open_bracket (expression_tokens i ++ (t.sign t.double_dot ∷ expression_tokens j)) t.close_bracket) ts us
            → Post n b k (range x i j) ts us
        first (cut _ lx (next {ts = vs} line lij)) =
            second vs line lx (split (expression_tokens i ++ (t.sign t.double_dot ∷ expression_tokens j)) (t.sign t.close_bracket ∷ []) lij)
