-- Canonical tokens of operators, and of what stands in parentheses, are read as the trees that they are of.
use Rattle.std.proofs.Common.{◌≡◌, ◌≤◌, ◌<◌, ℕ, suc, Bool, true, false, List, [], ◌∷◌, ◌++◌, map, IsTrue, refl, sym, ap, ◌∙◌, leb-true, le-leb, arith, ◌⊎◌, inl, inr}
use Rattle.std.specs.Prelude.{nat_le, max, None, if◌then◌else◌}
use Rattle.std.proofs.lemmas.Bool.Decides.{nat_tests}
use Rattle.spec_value.proofs.Entries.{first_holds, second_holds}
use Rattle.spec_value.specs.Operators.{UnaryOperator, negation, not_true, BinaryOperator, plus, minus, times, divided_by, remainder_by, to_the, equals, differs, less, less_or_equal, greater, greater_or_equal, is_in}
use Rattle.spec_program.specs.Tree.{Expr, unary, binary, both, either, conditional, assignment, scatter}
use Rattle.spec_program.specs.Spelling.{level, operator_level, left_level, right_level}
use Rattle.spec_program.specs.Tokens as t
use Rattle.spec_program.specs.Tokens.{Sign, Token, Placed}
use Rattle.spec_program.specs.Reading.{Read, got, and_then, past_sign, Node, deeper, under}
use Rattle.spec_program.specs.ReadExpressions as by
use Rattle.spec_program.specs.ReadExpressions.{Found, Operand, Joint, steps, operators, expression, operand}
use Rattle.spec_program.specs.Frames as f
use Rattle.spec_program.specs.Frames.{Join, joins}
use Rattle.spec_program.specs.Moves.{at, is_tight}
use Rattle.spec_program.specs.Trees.{expr_fits, expr_height}
use Rattle.spec_program.specs.CanonicalTokens.{Laid, none, next, unary_token, binary_token, in_parentheses, at_level, expression_tokens, is_loose, Loose, Stops}
use Rattle.spec_program.proofs.ReadFits.{and_also}
use Rattle.spec_program.proofs.LowTrees.{Within}
use Rattle.spec_program.proofs.MovesHold.{expression_again, operators_again}
use Rattle.spec_program.proofs.Laid.{Cut, cut, split, Enough, later, tail, plain, Free, free, of, Post, Begun, Got, ended, value_behind, operand_begins}

-- ---- nodes that are no deeper than a tree is high

pub wider : (h k : ℕ) (ns : List Node) → h ≤ k → Within h ns → Within k ns
wider h k [] l w = refl
wider h k (n ∷ ns) l w =
    let x : n.depth ≤ h = leb-true n.depth h (first_holds (nat_le n.depth h) _ w) in
    and_also (le-leb n.depth k (omega (arith, x, l))) (wider h k ns l (second_holds (nat_le n.depth h) _ w))

pub together : (h : ℕ) (ns ms : List Node) → Within h ns → Within h ms → Within h (ns ++ ms)
together h [] ms v w = w
together h (n ∷ ns) ms v w = and_also (first_holds (nat_le n.depth h) _ v) (together h ns ms (second_holds (nat_le n.depth h) _ v) w)

all_deeper : (h : ℕ) (ns : List Node) → Within h ns → Within (suc h) (map deeper ns)
all_deeper h [] w = refl
all_deeper h (n ∷ ns) w =
    let x : n.depth ≤ h = leb-true n.depth h (first_holds (nat_le n.depth h) _ w) in
    and_also (le-leb (suc n.depth) (suc h) (omega (arith, x))) (all_deeper h ns (second_holds (nat_le n.depth h) _ w))

pub one_higher : (h line : ℕ) (ns : List Node) → Within h ns → Within (suc h) (under line ns)
one_higher h line ns w = and_also (le-leb 1 (suc h) (omega arith)) (all_deeper h ns w)

pub of_two : (h k : ℕ) (ns ms : List Node) → Within h ns → Within k ms → Within (max h k) (ns ++ ms)
of_two h k ns ms v w = together (max h k) ns ms (wider h (max h k) ns (omega arith) v) (wider k (max h k) ms (omega arith) w)

-- ---- how tightly trees bind

-- what an operator behind must not reach, to stay outside
abbrev pub right : Expr → ℕ
right (assignment x e) = 0
right (scatter xs e) = 0
right (conditional c a b) = 1
right (both a b) = 3
right (either a b) = 3
right (binary op a b) = right_level op
right (unary u a) = 7
right e = 8

pub data Grouped (op : BinaryOperator) : Type 0 where
  to_left : left_level op ≡ operator_level op → right_level op ≡ suc (operator_level op) → 3 ≤ operator_level op → operator_level op ≤ 5 → Grouped op
  to_right : left_level op ≡ 7 → right_level op ≡ 6 → operator_level op ≡ 6 → Grouped op

pub grouped : (op : BinaryOperator) → Grouped op
grouped plus = to_left refl refl (omega arith) (omega arith)
grouped minus = to_left refl refl (omega arith) (omega arith)
grouped times = to_left refl refl (omega arith) (omega arith)
grouped divided_by = to_left refl refl (omega arith) (omega arith)
grouped remainder_by = to_left refl refl (omega arith) (omega arith)
grouped to_the = to_right refl refl refl
grouped equals = to_left refl refl (omega arith) (omega arith)
grouped differs = to_left refl refl (omega arith) (omega arith)
grouped less = to_left refl refl (omega arith) (omega arith)
grouped less_or_equal = to_left refl refl (omega arith) (omega arith)
grouped greater = to_left refl refl (omega arith) (omega arith)
grouped greater_or_equal = to_left refl refl (omega arith) (omega arith)
grouped is_in = to_left refl refl (omega arith) (omega arith)

-- it is its level, or for what groups to the left one more
pub data Sides (l r : ℕ) : Type 0 where
  same : r ≡ l → (l ≤ 1) ⊎ (6 ≤ l) → Sides l r
  more : r ≡ suc l → 2 ≤ l → Sides l r

sides_of : (op : BinaryOperator) → Grouped op → Sides (operator_level op) (right_level op)
sides_of op (to_left x y z w) = more y (omega (arith, z))
sides_of op (to_right x y z) = same (y ∙ sym z) (inr (omega (arith, z)))

pub sides : (e : Expr) → Sides (level e) (right e)
sides (assignment x e) = same refl (inl (omega arith))
sides (scatter xs e) = same refl (inl (omega arith))
sides (conditional c a b) = same refl (inl (omega arith))
sides (both a b) = more refl (omega arith)
sides (either a b) = more refl (omega arith)
sides (binary op a b) = sides_of op (grouped op)
sides (unary u a) = same refl (inr (omega arith))
sides _ = same refl (inr (omega arith))

at_least : {l r : ℕ} → Sides l r → l ≤ r
at_least (same e x) = omega (arith, e)
at_least (more e x) = omega (arith, e)

pub no_less : (e : Expr) → level e ≤ right e
no_less e = at_least (sides e)

pub is_false : (a b : ℕ) → b < a → nat_le a b ≡ false
is_false a b h = grind (arith, nat_tests)

is_true : (a b : ℕ) → a ≤ b → nat_le a b ≡ true
is_true a b h = le-leb a b h

pub looser : (k m : ℕ) (j : Joint) → k ≤ m → is_tight k j ≡ false → is_tight m j ≡ false
looser k m (by.operator op) h e = let l : operator_level op < k = grind (arith, nat_tests) in is_false m (operator_level op) (omega (arith, l, h))
looser k m by.and_joint h e = let l : 2 < k = grind (arith, nat_tests) in is_false m 2 (omega (arith, l, h))
looser k m by.or_joint h e = let l : 2 < k = grind (arith, nat_tests) in is_false m 2 (omega (arith, l, h))
looser k m by.question_joint h e = let l : 1 < k = grind (arith, nat_tests) in is_false m 1 (omega (arith, l, h))
looser k m by.no_joint h e = refl

pub stops_later : (k m : ℕ) (us : List Placed) → k ≤ m → Stops k us → Stops m us
stops_later k m [] h s = tt
stops_later k m (p ∷ us) h s = looser k m (by.joint p.token) h s

below_seven : (op : BinaryOperator) → Grouped op → nat_le 7 (operator_level op) ≡ false
below_seven op (to_left x y z w) = is_false 7 (operator_level op) (omega (arith, w))
below_seven op (to_right x y z) = is_false 7 (operator_level op) (omega (arith, z))

none_reaches : (j : Joint) → is_tight 7 j ≡ false
none_reaches (by.operator op) = below_seven op (grouped op)
none_reaches by.and_joint = refl
none_reaches by.or_joint = refl
none_reaches by.question_joint = refl
none_reaches by.no_joint = refl

pub stops_at_seven : (us : List Placed) → Stops 7 us
stops_at_seven [] = tt
stops_at_seven (p ∷ us) = none_reaches (by.joint p.token)

-- ---- a tree is read back

pub record Back (e : Expr) : Type 0 where
  pub post :
      (n : ℕ) (b : Bool) (k : ℕ) (ts us : List Placed) → IsTrue (expr_fits b e) → level e ≡ 8
      → Laid (expression_tokens e) ts us → Enough n ts → Free us → Post n b k e ts us
  pub any :
      (n : ℕ) (b : Bool) (k : ℕ) (ts us : List Placed) → IsTrue (expr_fits b e) → k ≤ level e
      → Laid (expression_tokens e) ts us → Enough n ts → Loose us → Stops (right e) us → Begun n b k e ts us

-- up to what ends it for sure
pub whole_back : {e : Expr} → Back e → (n : ℕ) (b : Bool) (ts us : List Placed) → IsTrue (expr_fits b e)
    → Laid (expression_tokens e) ts us → Enough n ts → Loose us → Stops 0 us → Got n b 0 e ts us
whole_back {e} r n b ts us h l i lo s = ended (r.any n b 0 ts us h (omega arith) l i lo (stops_later 0 (right e) us (omega arith) s)) (later l i) s

-- ---- in parentheses

parenthesis_closes : {n : ℕ} {b : Bool} {k line : ℕ} {e : Expr} {ts vs us : List Placed} {m : ℕ}
    → Got n b 0 e ts vs → vs ≡ at m (t.sign t.close_parenthesis) ∷ us → Post n b k e (at line (t.sign t.open_parenthesis) ∷ ts) us
parenthesis_closes {n} {b} {k} {line} {e} {ts} {vs} {us} {m} r d =
    record {
      line = line;
      nodes = r.nodes;
      target = None;
      ranged = false;
      braces = by.no_braces;
      low = r.low;
      sure = refl;
      reads = ap (λ x. by.with_steps n (expression n) b (and_then (and_then x closed) (λ e us. got (by.whole e) us))) (r.reads ∙ ap (λ x. got (of e r.line r.nodes) x) d);
    }
  where
    closed : Found → List Placed → Read Found
    closed e us = past_sign t.close_parenthesis us (got (record e { line = line }))

pub parenthesized : {e : Expr} → Back e → (n : ℕ) (b : Bool) (k : ℕ) (ts us : List Placed) → IsTrue (expr_fits b e)
    → Laid (in_parentheses (expression_tokens e)) ts us → Enough n ts → Post n b k e ts us
parenthesized {e} r n b k ts us h (next {ts = vs} line l) i = go (split (expression_tokens e) (t.sign t.close_parenthesis ∷ []) l)
  where
    go : Cut (expression_tokens e) (t.sign t.close_parenthesis ∷ []) vs us → Post n b k e (at line (t.sign t.open_parenthesis) ∷ vs) us
    go (cut ws x (next m none)) =
        parenthesis_closes {line = line} {m = m} (whole_back r n b vs ws h x (tail (at line (t.sign t.open_parenthesis)) vs i) refl refl) refl

-- as tightly as is wanted
pub leveled : {e : Expr} (w : ℕ) → Back e → (n : ℕ) (b : Bool) (k : ℕ) (ts us : List Placed) → IsTrue (expr_fits b e) → k ≤ w
    → Laid (at_level w (level e) (expression_tokens e)) ts us → Enough n ts → Loose us → (w ≤ level e → Stops (right e) us) → Begun n b k e ts us
leveled {e} w r n b k ts us h kw l i lo s = go (nat_le w (level e)) refl l
  where
    go : (c : Bool) → nat_le w (level e) ≡ c → Laid (if c then expression_tokens e else in_parentheses (expression_tokens e)) ts us → Begun n b k e ts us
    go true d m =
        let x : w ≤ level e = leb-true w (level e) d in
        r.any n b k ts us h (omega (arith, kw, x)) m i lo (s x)
    go false d m = operand_begins (parenthesized r n b k ts us h m i) i (later m i) lo

level_bound : (op : BinaryOperator) → Grouped op → operator_level op ≤ 8
level_bound op (to_left x y z w) = omega (arith, w)
level_bound op (to_right x y z) = omega (arith, z)

eight_is_most : (e : Expr) → level e ≤ 8
eight_is_most (assignment x e) = omega arith
eight_is_most (scatter xs e) = omega arith
eight_is_most (conditional c a b) = omega arith
eight_is_most (both a b) = omega arith
eight_is_most (either a b) = omega arith
eight_is_most (binary op a b) = level_bound op (grouped op)
eight_is_most (unary u a) = omega arith
eight_is_most _ = omega arith

-- most tightly
pub leveled_post : {e : Expr} → Back e → (n : ℕ) (b : Bool) (k : ℕ) (ts us : List Placed) → IsTrue (expr_fits b e)
    → Laid (at_level 8 (level e) (expression_tokens e)) ts us → Enough n ts → Free us → Post n b k e ts us
leveled_post {e} r n b k ts us h l i fr = go (nat_le 8 (level e)) refl l
  where
    go : (c : Bool) → nat_le 8 (level e) ≡ c → Laid (if c then expression_tokens e else in_parentheses (expression_tokens e)) ts us → Post n b k e ts us
    go true d m =
        let x : 8 ≤ level e = leb-true 8 (level e) d in let y = eight_is_most e in
        r.post n b k ts us h (omega (arith, x, y)) m i fr
    go false d m = parenthesized r n b k ts us h m i

-- ---- trees that are no operands by themselves, and those that are

pub no_operand_back : {e : Expr} → (level e ≡ 8 → ⊥)
    → ((n : ℕ) (b : Bool) (k : ℕ) (ts us : List Placed) → IsTrue (expr_fits b e) → k ≤ level e
    → Laid (expression_tokens e) ts us → Enough n ts → Loose us → Stops (right e) us → Begun n b k e ts us) → Back e
no_operand_back d g = record { post = λ n b k ts us h x l i fr. absurd (d x); any = g }

pub operand_back : {e : Expr}
    → ((n : ℕ) (b : Bool) (k : ℕ) (ts us : List Placed) → IsTrue (expr_fits b e)
    → Laid (expression_tokens e) ts us → Enough n ts → Free us → Post n b k e ts us) → Back e
operand_back g =
    record {
      post = λ n b k ts us h x l i fr. g n b k ts us h l i fr;
      any = λ n b k ts us h x l i lo s. operand_begins (g n b k ts us h l i (free us lo)) i (later l i) lo;
    }

-- ---- a sign before an operand

signed_first : (n : ℕ) (b : Bool) (k line : ℕ) (u : UnaryOperator) (ts : List Placed)
    → operand n (expression n) b k (at line (unary_token u) ∷ ts) ≡ by.signed (expression n) b u line ts
signed_first n b k line negation ts = refl
signed_first n b k line not_true ts = refl

signed_read : {n : ℕ} {b : Bool} {k line : ℕ} {u : UnaryOperator} {a : Expr} {ts us : List Placed}
    → Got n b 7 a ts us → Enough n (at line (unary_token u) ∷ ts) → Begun n b k (unary u a) (at line (unary_token u) ∷ ts) us
signed_read {n} {b} {k} {line} {u} {a} {ts} {us} r i =
    record {
      line = line;
      nodes = under line r.nodes;
      low = one_higher (expr_height a) line r.nodes r.low;
      reads =
          expression_again n b k (at line (unary_token u) ∷ ts) (plain (at line (unary_token u) ∷ ts) i)
          ∙ ap (λ x. and_then x (value_behind n b k))
          (signed_first n b k line u ts ∙ ap (λ x. and_then x (λ e us. got (by.whole (by.found_at line (unary u e.tree) e.nodes)) us)) r.reads);
    }

pub unary_back : (u : UnaryOperator) (a : Expr) → Back a → Back (unary u a)
unary_back u a r = no_operand_back (λ x. cc) go
  where
    go : (n : ℕ) (b : Bool) (k : ℕ) (ts us : List Placed) → IsTrue (expr_fits b a) → k ≤ 7
        → Laid (unary_token u ∷ at_level 7 (level a) (expression_tokens a)) ts us → Enough n ts → Loose us → Stops 7 us → Begun n b k (unary u a) ts us
    go n b k ts us h kl (next {ts = vs} line l) i lo s =
        let j = tail (at line (unary_token u)) vs i in
        signed_read {u = u} (ended (leveled 7 r n b 7 vs us h (omega arith) l j lo (λ x. let y = no_less a in stops_later 7 (right a) us (omega (arith, x, y)) s)) (later l j) s) i

-- ---- operators between two expressions

abbrev pub join_token : Join → Token
join_token (f.by_operator op) = binary_token op
join_token f.by_both = t.sign t.and_sign
join_token f.by_either = t.sign t.or_sign

abbrev pub join_level : Join → ℕ
join_level (f.by_operator op) = operator_level op
join_level f.by_both = 2
join_level f.by_either = 2

abbrev pub join_left : Join → ℕ
join_left (f.by_operator op) = left_level op
join_left f.by_both = 2
join_left f.by_either = 2

abbrev pub join_right : Join → ℕ
join_right (f.by_operator op) = right_level op
join_right f.by_both = 3
join_right f.by_either = 3

abbrev pub join_joint : Join → Joint
join_joint (f.by_operator op) = by.operator op
join_joint f.by_both = by.and_joint
join_joint f.by_either = by.or_joint

operator_joint : (op : BinaryOperator) → by.joint (binary_token op) ≡ by.operator op
operator_joint plus = refl
operator_joint minus = refl
operator_joint times = refl
operator_joint divided_by = refl
operator_joint remainder_by = refl
operator_joint to_the = refl
operator_joint equals = refl
operator_joint differs = refl
operator_joint less = refl
operator_joint less_or_equal = refl
operator_joint greater = refl
operator_joint greater_or_equal = refl
operator_joint is_in = refl

token_joint : (j : Join) → by.joint (join_token j) ≡ join_joint j
token_joint (f.by_operator op) = operator_joint op
token_joint f.by_both = refl
token_joint f.by_either = refl

operator_loose : (op : BinaryOperator) → is_loose (binary_token op) ≡ true
operator_loose plus = refl
operator_loose minus = refl
operator_loose times = refl
operator_loose divided_by = refl
operator_loose remainder_by = refl
operator_loose to_the = refl
operator_loose equals = refl
operator_loose differs = refl
operator_loose less = refl
operator_loose less_or_equal = refl
operator_loose greater = refl
operator_loose greater_or_equal = refl
operator_loose is_in = refl

token_loose : (j : Join) → is_loose (join_token j) ≡ true
token_loose (f.by_operator op) = operator_loose op
token_loose f.by_both = refl
token_loose f.by_either = refl

join_read : (n : ℕ) (b : Bool) (k : ℕ) (a : Found) (j : Join) (line : ℕ) (ts : List Placed) → k ≤ join_level j → Enough n (at line (join_token j) ∷ ts)
    → operators n (expression n) b k a (at line (join_token j) ∷ ts)
    ≡ by.joined (expression n) b (operators n (expression n) b k) a (join_right j) (joins j) ts
join_read n b k a j line ts kl i =
    operators_again n b k a (at line (join_token j) ∷ ts) (plain (at line (join_token j) ∷ ts) i)
    ∙ ap (λ x. by.join_by (expression n) b (operators n (expression n) b k) k a x ts (at line (join_token j) ∷ ts)) (token_joint j)
    ∙ tight j kl
  where
    tight : (j : Join) → k ≤ join_level j
        → by.join_by (expression n) b (operators n (expression n) b k) k a (join_joint j) ts (at line (join_token j) ∷ ts)
        ≡ by.joined (expression n) b (operators n (expression n) b k) a (join_right j) (joins j) ts
    tight (f.by_operator op) l =
        ap (λ c. by.if_tight c (by.joined (expression n) b (operators n (expression n) b k) a (right_level op) (binary op)) (got a) ts (at line (binary_token op) ∷ ts)) (is_true k (operator_level op) l)
    tight f.by_both l =
        ap (λ c. by.if_tight c (by.joined (expression n) b (operators n (expression n) b k) a 3 both) (got a) ts (at line (t.sign t.and_sign) ∷ ts)) (is_true k 2 l)
    tight f.by_either l =
        ap (λ c. by.if_tight c (by.joined (expression n) b (operators n (expression n) b k) a 3 either) (got a) ts (at line (t.sign t.or_sign) ∷ ts)) (is_true k 2 l)

joined_height : (j : Join) (a c : Expr) (line : ℕ) (ns : List Node) → Within (max (expr_height a) (expr_height c)) ns → Within (expr_height (joins j a c)) (under line ns)
joined_height (f.by_operator op) a c line ns w = one_higher (max (expr_height a) (expr_height c)) line ns w
joined_height f.by_both a c line ns w = one_higher (max (expr_height a) (expr_height c)) line ns w
joined_height f.by_either a c line ns w = one_higher (max (expr_height a) (expr_height c)) line ns w

-- the left side ends before the sign
left_by : (op : BinaryOperator) → Grouped op → {l r : ℕ} → Sides l r → left_level op ≤ l → operator_level op < r
left_by op (to_left x y z w) (same e (inl v)) h = absurd (omega (arith, x, z, v, h))
left_by op (to_left x y z w) (same e (inr v)) h = omega (arith, e, w, v)
left_by op (to_left x y z w) (more e v) h = omega (arith, x, e, h)
left_by op (to_right x y z) (same e v) h = omega (arith, x, z, e, h)
left_by op (to_right x y z) (more e v) h = omega (arith, x, z, e, h)

above_two : {l r : ℕ} → Sides l r → 2 ≤ l → 2 < r
above_two (same e (inl v)) h = absurd (omega (arith, v, h))
above_two (same e (inr v)) h = omega (arith, e, v)
above_two (more e v) h = omega (arith, e, v)

left_ends : (j : Join) (a : Expr) → join_left j ≤ level a → is_tight (right a) (join_joint j) ≡ false
left_ends (f.by_operator op) a h = is_false (right a) (operator_level op) (left_by op (grouped op) (sides a) h)
left_ends f.by_both a h = is_false (right a) 2 (above_two (sides a) h)
left_ends f.by_either a h = is_false (right a) 2 (above_two (sides a) h)

left_bound : (op : BinaryOperator) → Grouped op → operator_level op ≤ left_level op
left_bound op (to_left x y z w) = omega (arith, x)
left_bound op (to_right x y z) = omega (arith, x, z)

join_left_bound : (j : Join) → join_level j ≤ join_left j
join_left_bound (f.by_operator op) = left_bound op (grouped op)
join_left_bound f.by_both = omega arith
join_left_bound f.by_either = omega arith

joined_read : {n : ℕ} {b : Bool} {k line : ℕ} (j : Join) {a c : Expr} {ts vs us : List Placed} → k ≤ join_level j
    → Begun n b k a ts (at line (join_token j) ∷ vs) → Got n b (join_right j) c vs us → Enough n (at line (join_token j) ∷ vs) → Begun n b k (joins j a c) ts us
joined_read {n} {b} {k} {line} j {a} {c} {ts} {vs} {us} kl r s i =
    record {
      line = r.line;
      nodes = under r.line (r.nodes ++ s.nodes);
      low = joined_height j a c r.line (r.nodes ++ s.nodes) (of_two (expr_height a) (expr_height c) r.nodes s.nodes r.low s.low);
      reads =
          r.reads ∙ join_read n b k (of a r.line r.nodes) j line vs kl i
          ∙ ap (λ x. and_then x (λ c us. operators n (expression n) b k (by.found_at r.line (joins j a c.tree) (r.nodes ++ c.nodes)) us)) s.reads;
    }

pub joined_back : (j : Join) (a c : Expr) → Back a → Back c → (n : ℕ) (b : Bool) (k : ℕ) (ts us : List Placed)
    → IsTrue (expr_fits b a) → IsTrue (expr_fits b c) → k ≤ join_level j
    → Laid (at_level (join_left j) (level a) (expression_tokens a) ++ (join_token j ∷ at_level (join_right j) (level c) (expression_tokens c))) ts us
    → Enough n ts → Loose us → Stops (join_right j) us → Begun n b k (joins j a c) ts us
joined_back j a c r s n b k ts us ha hc kl l i lo st =
    go (split (at_level (join_left j) (level a) (expression_tokens a)) (join_token j ∷ at_level (join_right j) (level c) (expression_tokens c)) l)
  where
    go : Cut (at_level (join_left j) (level a) (expression_tokens a)) (join_token j ∷ at_level (join_right j) (level c) (expression_tokens c)) ts us
        → Begun n b k (joins j a c) ts us
    go (cut _ x (next {ts = vs} line y)) =
        let z = later x i in
        let w = tail (at line (join_token j)) vs z in
        let v = join_left_bound j in
        joined_read j kl
        (leveled (join_left j) r n b k ts (at line (join_token j) ∷ vs) ha (omega (arith, kl, v)) x i (token_loose j) (λ q. ap (λ u. is_tight (right a) u) (token_joint j) ∙ left_ends j a q))
        (ended (leveled (join_right j) s n b (join_right j) vs us hc (omega arith) y w lo
        (λ q. let u = no_less c in stops_later (join_right j) (right c) us (omega (arith, q, u)) st)) (later y w) st)
        z

low_level : (op : BinaryOperator) → Grouped op → operator_level op ≡ 8 → ⊥
low_level op (to_left x y z w) e = omega (arith, w, e)
low_level op (to_right x y z) e = omega (arith, z, e)

pub binary_back : (op : BinaryOperator) (a c : Expr) → Back a → Back c → Back (binary op a c)
binary_back op a c r s =
    no_operand_back (low_level op (grouped op))
    (λ n b k ts us h kl l i lo st. joined_back (f.by_operator op) a c r s n b k ts us (first_holds (expr_fits b a) _ h) (second_holds (expr_fits b a) _ h) kl l i lo st)

pub both_back : (a c : Expr) → Back a → Back c → Back (both a c)
both_back a c r s =
    no_operand_back (λ x. cc)
    (λ n b k ts us h kl l i lo st. joined_back f.by_both a c r s n b k ts us (first_holds (expr_fits b a) _ h) (second_holds (expr_fits b a) _ h) kl l i lo st)

pub either_back : (a c : Expr) → Back a → Back c → Back (either a c)
either_back a c r s =
    no_operand_back (λ x. cc)
    (λ n b k ts us h kl l i lo st. joined_back f.by_either a c r s n b k ts us (first_holds (expr_fits b a) _ h) (second_holds (expr_fits b a) _ h) kl l i lo st)
