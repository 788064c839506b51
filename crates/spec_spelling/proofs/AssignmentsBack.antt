-- Canonical tokens of targets and assignments are read as the trees that they are of.
use Rattle.std.proofs.Common.{◌≡◌, ℕ, ◌≤◌, pos, Bool, true, false, ◌&&◌, List, [], ◌∷◌, ◌++◌, IsTrue, refl, sym, ap, subst, ◌∙◌, arith}
use Rattle.std.specs.Prelude.{max, Option, Some, None}
use Rattle.spec_value.proofs.Entries.{first_holds, second_holds}
use Rattle.spec_value.specs.Datum as value
use Rattle.spec_value.specs.Datum.{Text, fold_case}
use Rattle.spec_program.specs.Tree.{Expr, literal, variable, call, property, index, range, assignment, Target, to_variable, to_property, to_index, to_range}
use Rattle.spec_program.specs.Spelling.{level, plain_name, is_system}
use Rattle.spec_program.specs.Tokens as t
use Rattle.spec_program.specs.Tokens.{Sign, Token, Placed}
use Rattle.spec_program.specs.Reading.{Read, got, and_then, if_sign, past_sign, Node, under}
use Rattle.spec_program.specs.ReadExpressions as by
use Rattle.spec_program.specs.ReadExpressions.{Found, Operand, steps, operators, expression, operand}
use Rattle.spec_program.specs.Moves.{at}
use Rattle.spec_program.specs.FurtherMoves.{name_at}
use Rattle.spec_program.specs.Trees.{is_name, goes_on, expr_fits, target_fits, expr_height, target_height}
use Rattle.spec_program.specs.CanonicalTokens.{Laid, none, next, at_level, between, name_tokens, dotted, expression_tokens, target_tokens, Loose, Stops}
use Rattle.spec_program.proofs.LowTrees.{Within}
use Rattle.spec_program.proofs.MovesHold.{expression_again, steps_again, sign_absent}
use Rattle.spec_program.proofs.Laid.{Cut, cut, split, Enough, later, tail, plain, Free, no_parenthesis, of, Post, Begun, Got, stop, value_behind}
use Rattle.spec_program.proofs.OtherMovesHold.{stops}
use Rattle.spec_program.proofs.OperatorsBack.{one_higher, of_two, Back, whole_back, leveled_post, no_operand_back}
use Rattle.spec_program.proofs.OperandsBack.{name_is_lower}
use Rattle.spec_program.proofs.StepsBack.{step_read, name_is, system_is, NameGot, name_back}

abbrev pub TargetBacks : Target → Type 0
TargetBacks (to_variable x) = Unit {0}
TargetBacks (to_property o p) = Back o × Back p
TargetBacks (to_index x i) = TargetBacks x × Back i
TargetBacks (to_range x i j) = TargetBacks x × Back i × Back j

abbrev is_ranged : Target → Bool
is_ranged (to_range x i j) = true
is_ranged x = false

-- an operand that is this target, and its steps are read next
record TargetPost (n : ℕ) (b : Bool) (x : Target) (ts us : List Placed) : Type 0 where
  tree : Expr
  line : ℕ
  nodes : List Node
  low : Within (target_height x) nodes
  reads :
      operand n (expression n) b 0 ts
      ≡ steps n (expression n) b (record { found = of tree line nodes; target = Some x; ranged = is_ranged x; braces = by.no_braces }) us

-- ---- variables

variable_target : (n : ℕ) (b : Bool) (x : Text) (ts us : List Placed) → IsTrue (is_name x) → Laid (t.word x ∷ []) ts us → Free us → TargetPost n b (to_variable x) ts us
variable_target n b x ts us h (next line none) fr =
    record {
      tree = variable x;
      line = line;
      nodes = under line [];
      low = refl;
      reads =
          ap (λ r. by.with_steps n (expression n) b r)
          (sign_absent t.open_parenthesis called (got (by.assignable (by.found_at line (variable (fold_case x)) []) (to_variable (fold_case x)))) us (no_parenthesis us fr))
          ∙ ap (λ y. steps n (expression n) b (by.assignable (by.found_at line (variable y) []) (to_variable y)) us) (name_is_lower x h);
    }
  where
    called : List Placed → Read Operand
    called us =
        and_then (by.arguments_to t.close_parenthesis n (expression n) b us) (λ es vs. got (by.whole (by.found_at line (call (fold_case x) es.tree) es.nodes)) vs)

-- ---- properties

property_target : {n : ℕ} {b : Bool} {line : ℕ} {o p : Expr} {ts vs us : List Placed}
    → Post n b 0 o ts (at line (t.sign t.dot) ∷ vs) → Enough n (at line (t.sign t.dot) ∷ vs) → NameGot n b p vs us → TargetPost n b (to_property o p) ts us
property_target {n} {b} {line} {o} {p} {ts} {vs} {us} r h s =
    record {
      tree = property o p;
      line = r.line;
      nodes = under r.line (r.nodes ++ s.nodes);
      low = one_higher (max (expr_height o) (expr_height p)) r.line (r.nodes ++ s.nodes) (of_two (expr_height o) (expr_height p) r.nodes s.nodes r.low s.low);
      reads = step_read r h ∙ ap (λ z. and_then z (λ q us. steps n (expression n) b (by.property_of (of o r.line r.nodes) q) us)) s.reads;
    }

system_target : {n : ℕ} {b : Bool} {us : List Placed} (line m : ℕ) (x : Text) → Free us
    → TargetPost n b (to_property (literal (value.object (pos 0))) (literal (value.text x))) (at line (t.sign t.dollar) ∷ at m (t.word x) ∷ us) us
system_target {n} {b} {us} line m x fr =
    record {
      tree = property (literal (value.object (pos 0))) (literal (value.text x));
      line = line;
      nodes = under line (under line [] ++ under m []);
      low = refl;
      reads =
          ap (λ r. by.with_steps n (expression n) b r)
          (sign_absent t.open_parenthesis (λ vs. by.verb_of n (expression n) b (by.system_at line) (name_at m x) us)
          (got (by.property_of (by.system_at line) (name_at m x))) us (no_parenthesis us fr));
    }

short_target : {o p : Expr} (n : ℕ) (b : Bool) (ts us : List Placed) (x : Text) → is_system o ≡ true → plain_name p ≡ Some x → Free us
    → Laid (t.sign t.dollar ∷ t.word x ∷ []) ts us → TargetPost n b (to_property o p) ts us
short_target {o} {p} n b ts us x c d fr (next line (next m none)) =
    subst (λ u. TargetPost n b (to_property u p) (at line (t.sign t.dollar) ∷ at m (t.word x) ∷ us) us) (sym (system_is o c))
    (subst (λ q. TargetPost n b (to_property (literal (value.object (pos 0))) q) (at line (t.sign t.dollar) ∷ at m (t.word x) ∷ us) us) (sym (name_is p x d))
    (system_target line m x fr))

property_back : (o p : Expr) → Back o → Back p → (n : ℕ) (b : Bool) (ts us : List Placed) → IsTrue (expr_fits b o && expr_fits b p)
    → Laid (dotted t.dot (at_level 8 (level o) (expression_tokens o)) (is_system o) (plain_name p) (expression_tokens p)) ts us → Enough n ts → Free us
    → TargetPost n b (to_property o p) ts us
property_back o p ro rp n b ts us h l e fr = by_name (is_system o) (plain_name p) refl refl l
  where
    long : (m : Option Text) → plain_name p ≡ m
        → Cut (at_level 8 (level o) (expression_tokens o)) (t.sign t.dot ∷ name_tokens m (expression_tokens p)) ts us → TargetPost n b (to_property o p) ts us
    long m d (cut _ lo (next {ts = vs} line lp)) =
        let eo = later lo e in
        property_target {line = line}
        (leveled_post ro n b 0 ts (at line (t.sign t.dot) ∷ vs) (first_holds (expr_fits b o) (expr_fits b p) h) lo e refl)
        eo
        (name_back rp n b m vs us (second_holds (expr_fits b o) (expr_fits b p) h) d lp (tail (at line (t.sign t.dot)) vs eo))

    by_name : (s : Bool) (m : Option Text) → is_system o ≡ s → plain_name p ≡ m
        → Laid (dotted t.dot (at_level 8 (level o) (expression_tokens o)) s m (expression_tokens p)) ts us → TargetPost n b (to_property o p) ts us
    by_name true (Some x) c d m = short_target n b ts us x c d fr m
    by_name true None c d m = long None d (split (at_level 8 (level o) (expression_tokens o)) (t.sign t.dot ∷ name_tokens None (expression_tokens p)) m)
    by_name false (Some x) c d m = long (Some x) d (split (at_level 8 (level o) (expression_tokens o)) (t.sign t.dot ∷ name_tokens (Some x) (expression_tokens p)) m)
    by_name false None c d m = long None d (split (at_level 8 (level o) (expression_tokens o)) (t.sign t.dot ∷ name_tokens None (expression_tokens p)) m)

-- ---- indexes and ranges

not_ranged : (x : Target) → IsTrue (goes_on x) → is_ranged x ≡ false
not_ranged (to_range x i j) h = absurd (cc h)
not_ranged _ h = refl

-- a step is read where it begins
target_step : {n : ℕ} {b : Bool} {x : Target} {ts : List Placed} {line : ℕ} {us : List Placed}
    → (r : TargetPost n b x ts (at line (t.sign t.open_bracket) ∷ us)) → IsTrue (goes_on x) → Enough n (at line (t.sign t.open_bracket) ∷ us)
    → operand n (expression n) b 0 ts
    ≡ by.in_brackets (expression n) (record { found = of r.tree r.line r.nodes; target = Some x; ranged = false; braces = by.no_braces }) (steps n (expression n) b) us
target_step {n} {b} {x} {ts} {line} {us} r h i =
    r.reads
    ∙ ap (λ c. steps n (expression n) b (record { found = of r.tree r.line r.nodes; target = Some x; ranged = c; braces = by.no_braces }) (at line (t.sign t.open_bracket) ∷ us))
    (not_ranged x h)
    ∙ steps_again n b (record { found = of r.tree r.line r.nodes; target = Some x; ranged = false; braces = by.no_braces }) (at line (t.sign t.open_bracket) ∷ us)
    (plain (at line (t.sign t.open_bracket) ∷ us) i)

index_target : {n : ℕ} {b : Bool} {line m : ℕ} {x : Target} {i : Expr} {ts vs us : List Placed}
    → TargetPost n b x ts (at line (t.sign t.open_bracket) ∷ vs) → IsTrue (goes_on x) → Enough n (at line (t.sign t.open_bracket) ∷ vs)
    → Got n true 0 i vs (at m (t.sign t.close_bracket) ∷ us) → TargetPost n b (to_index x i) ts us
index_target {n} {b} {line} {m} {x} {i} {ts} {vs} {us} r g h s =
    record {
      tree = index r.tree i;
      line = r.line;
      nodes = under r.line (r.nodes ++ s.nodes);
      low = one_higher (max (target_height x) (expr_height i)) r.line (r.nodes ++ s.nodes) (of_two (target_height x) (expr_height i) r.nodes s.nodes r.low s.low);
      reads = target_step r g h ∙ ap (λ z. and_then z after) s.reads;
    }
  where
    o : Operand
    o = record { found = of r.tree r.line r.nodes; target = Some x; ranged = false; braces = by.no_braces }

    after : Found → List Placed → Read Operand
    after i us =
        if_sign t.double_dot
        (λ vs. and_then (expression n true 0 vs) (λ j ws. past_sign t.close_bracket ws (λ xs. steps n (expression n) b (by.range_of o i j) xs)))
        (λ vs. past_sign t.close_bracket vs (λ ws. steps n (expression n) b (by.index_of o i) ws))
        us

range_target : {n : ℕ} {b : Bool} {line m q : ℕ} {x : Target} {i j : Expr} {ts vs ws us : List Placed}
    → TargetPost n b x ts (at line (t.sign t.open_bracket) ∷ vs) → IsTrue (goes_on x) → Enough n (at line (t.sign t.open_bracket) ∷ vs)
    → Got n true 0 i vs (at m (t.sign t.double_dot) ∷ ws) → Got n true 0 j ws (at q (t.sign t.close_bracket) ∷ us) → TargetPost n b (to_range x i j) ts us
range_target {n} {b} {line} {m} {q} {x} {i} {j} {ts} {vs} {ws} {us} r g h s u =
    record {
      tree = range r.tree i j;
      line = r.line;
      nodes = under r.line (r.nodes ++ (s.nodes ++ u.nodes));
      low =
          one_higher (max (target_height x) (max (expr_height i) (expr_height j))) r.line (r.nodes ++ (s.nodes ++ u.nodes))
          (of_two (target_height x) (max (expr_height i) (expr_height j)) r.nodes (s.nodes ++ u.nodes) r.low (of_two (expr_height i) (expr_height j) s.nodes u.nodes s.low u.low));
      reads = target_step r g h ∙ ap (λ z. and_then z after) s.reads ∙ ap (λ z. and_then z (last (of i s.line s.nodes))) u.reads;
    }
  where
    o : Operand
    o = record { found = of r.tree r.line r.nodes; target = Some x; ranged = false; braces = by.no_braces }

    last : Found → Found → List Placed → Read Operand
    last i j ws = past_sign t.close_bracket ws (λ xs. steps n (expression n) b (by.range_of o i j) xs)

    after : Found → List Placed → Read Operand
    after i us =
        if_sign t.double_dot
        (λ vs. and_then (expression n true 0 vs) (last i))
        (λ vs. past_sign t.close_bracket vs (λ ws. steps n (expression n) b (by.index_of o i) ws))
        us

abbrev TargetAgain : Target → Type 0
TargetAgain x =
    (n : ℕ) (b : Bool) (ts us : List Placed) → IsTrue (target_fits b x) → Laid (target_tokens x) ts us → Enough n ts → Free us → TargetPost n b x ts us

index_again : (x : Target) (i : Expr) → TargetAgain x → Back i → TargetAgain (to_index x i)
index_again x i rx ri n b ts us h l e fr = first (split (target_tokens x) (between t.open_bracket (expression_tokens i) t.close_bracket) l)
  where
    hx : IsTrue (goes_on x && target_fits b x)
    hx = first_holds (goes_on x && target_fits b x) (expr_fits true i) h

    second : (vs : List Placed) (line : ℕ) → Laid (target_tokens x) ts (at line (t.sign t.open_bracket) ∷ vs)
        → Cut (expression_tokens i) (t.sign t.close_bracket ∷ []) vs us → TargetPost n b (to_index x i) ts us
    second vs line lx (cut _ li (next m none)) =
        let ex = later lx e in
        index_target {line = line} {m = m}
        (rx n b ts (at line (t.sign t.open_bracket) ∷ vs) (second_holds (goes_on x) (target_fits b x) hx) lx e refl)
        (first_holds (goes_on x) (target_fits b x) hx)
        ex
        (whole_back ri n true vs (at m (t.sign t.close_bracket) ∷ us) (second_holds (goes_on x && target_fits b x) (expr_fits true i) h) li (tail (at line (t.sign t.open_bracket)) vs ex) refl refl)

    first : Cut (target_tokens x) (between t.open_bracket (expression_tokens i) t.close_bracket) ts us → TargetPost n b (to_index x i) ts us
    first (cut _ lx (next {ts = vs} line li)) = second vs line lx (split (expression_tokens i) (t.sign t.close_bracket ∷ []) li)

range_again : (x : Target) (i j : Expr) → TargetAgain x → Back i → Back j → TargetAgain (to_range x i j)
range_again x i j rx ri rj n b ts us h l e fr =
    first (split (target_tokens x) (between t.open_bracket (expression_tokens i ++ (t.sign t.double_dot ∷ expression_tokens j)) t.close_bracket) l)
  where
    hx : IsTrue (goes_on x && target_fits b x)
    hx = first_holds (goes_on x && target_fits b x) (expr_fits true i && expr_fits true j) h

    hij : IsTrue (expr_fits true i && expr_fits true j)
    hij = second_holds (goes_on x && target_fits b x) (expr_fits true i && expr_fits true j) h

    third : (vs : List Placed) (line : ℕ) → Laid (target_tokens x) ts (at line (t.sign t.open_bracket) ∷ vs)
        → (q : ℕ) → Cut (expression_tokens i) (t.sign t.double_dot ∷ expression_tokens j) vs (at q (t.sign t.close_bracket) ∷ us) → TargetPost n b (to_range x i j) ts us
    third vs line lx q (cut _ li (next {ts = ws} m lj)) =
        let ex = later lx e in
        let ei = tail (at line (t.sign t.open_bracket)) vs ex in
        range_target {line = line} {m = m} {q = q}
        (rx n b ts (at line (t.sign t.open_bracket) ∷ vs) (second_holds (goes_on x) (target_fits b x) hx) lx e refl)
        (first_holds (goes_on x) (target_fits b x) hx)
        ex
        (whole_back ri n true vs (at m (t.sign t.double_dot) ∷ ws) (first_holds (expr_fits true i) (expr_fits true j) hij) li ei refl refl)
        (whole_back rj n true ws (at q (t.sign t.close_bracket) ∷ us) (second_holds (expr_fits true i) (expr_fits true j) hij) lj (tail (at m (t.sign t.double_dot)) ws (later li ei)) refl refl)

    second : (vs : List Placed) (line : ℕ) → Laid (target_tokens x) ts (at line (t.sign t.open_bracket) ∷ vs)
        → Cut (expression_tokens i ++ (t.sign t.double_dot ∷ expression_tokens j)) (t.sign t.close_bracket ∷ []) vs us → TargetPost n b (to_range x i j) ts us
    second vs line lx (cut _ lij (next q none)) = third vs line lx q (split (expression_tokens i) (t.sign t.double_dot ∷ expression_tokens j) lij)

    first : Cut (target_tokens x) (between t.open_bracket (expression_tokens i ++ (t.sign t.double_dot ∷ expression_tokens j)) t.close_bracket) ts us
        → TargetPost n b (to_range x i j) ts us
    first (cut _ lx (next {ts = vs} line lij)) =
        second vs line lx (split (expression_tokens i ++ (t.sign t.double_dot ∷ expression_tokens j)) (t.sign t.close_bracket ∷ []) lij)

target_again : (x : Target) → TargetBacks x → TargetAgain x
target_again (to_variable x) rs = λ n b ts us h l e fr. variable_target n b x ts us h l fr
target_again (to_property o p) rs = λ n b ts us h l e fr. property_back o p rs.0 rs.1 n b ts us h l e fr
target_again (to_index x i) rs = index_again x i (target_again x rs.0) rs.1
target_again (to_range x i j) rs = range_again x i j (target_again x rs.0) rs.1 rs.2

-- ---- assignments

assigned_read : {n : ℕ} {b : Bool} {line : ℕ} {x : Target} {e : Expr} {ts vs us : List Placed}
    → TargetPost n b x ts (at line (t.sign t.assign) ∷ vs) → Got n b 0 e vs us → Enough n ts → Enough n (at line (t.sign t.assign) ∷ vs) → Enough n us → Stops 0 us
    → Begun n b 0 (assignment x e) ts us
assigned_read {n} {b} {line} {x} {e} {ts} {vs} {us} r s h i j st =
    record {
      line = r.line;
      nodes = under r.line (r.nodes ++ s.nodes);
      low = one_higher (max (target_height x) (expr_height e)) r.line (r.nodes ++ s.nodes) (of_two (target_height x) (expr_height e) r.nodes s.nodes r.low s.low);
      reads =
          expression_again n b 0 ts (plain ts h)
          ∙ ap (λ z. and_then z (value_behind n b 0))
          (r.reads ∙ steps_again n b o (at line (t.sign t.assign) ∷ vs) (plain (at line (t.sign t.assign) ∷ vs) i)
          ∙ stops n false b o (at line (t.sign t.assign)) vs refl)
          ∙ ap (λ z. and_then z (λ e us. got (by.found_at r.line (assignment x e.tree) (r.nodes ++ e.nodes)) us)) s.reads
          ∙ sym (stop n b 0 (of (assignment x e) r.line (under r.line (r.nodes ++ s.nodes))) us j st);
    }
  where
    o : Operand
    o = record { found = of r.tree r.line r.nodes; target = Some x; ranged = is_ranged x; braces = by.no_braces }

zero_only : (k : ℕ) → k ≤ 0 → k ≡ 0
zero_only k h = omega (arith, h)

pub assignment_back : (x : Target) (e : Expr) → TargetBacks x → Back e → Back (assignment x e)
assignment_back x e rx re = no_operand_back (λ d. cc) go
  where
    at_zero : (n : ℕ) (b : Bool) (ts us : List Placed) → IsTrue (target_fits b x && expr_fits b e)
        → Cut (target_tokens x) (t.sign t.assign ∷ expression_tokens e) ts us → Enough n ts → Loose us → Stops 0 us → Begun n b 0 (assignment x e) ts us
    at_zero n b ts us h (cut _ lx (next {ts = vs} line le)) i lo st =
        let j = later lx i in
        let k = tail (at line (t.sign t.assign)) vs j in
        assigned_read {line = line}
        (target_again x rx n b ts (at line (t.sign t.assign) ∷ vs) (first_holds (target_fits b x) (expr_fits b e) h) lx i refl)
        (whole_back re n b vs us (second_holds (target_fits b x) (expr_fits b e) h) le k lo st)
        i j (later le k) st

    go : (n : ℕ) (b : Bool) (k : ℕ) (ts us : List Placed) → IsTrue (target_fits b x && expr_fits b e) → k ≤ 0
        → Laid (target_tokens x ++ (t.sign t.assign ∷ expression_tokens e)) ts us → Enough n ts → Loose us → Stops 0 us → Begun n b k (assignment x e) ts us
    go n b k ts us h kl l i lo st =
        subst (λ m. Begun n b m (assignment x e) ts us) (sym (zero_only k kl)) (at_zero n b ts us h (split (target_tokens x) (t.sign t.assign ∷ expression_tokens e) l) i lo st)
