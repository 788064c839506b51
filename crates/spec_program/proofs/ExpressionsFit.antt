-- Expressions that are read have names, literals, brackets and items as programs have them.
use Rattle.std.proofs.Common.{◌≡◌, ℕ, zero, suc, pos, negsuc, Bool, true, false, not, ◌==◌, List, [], ◌∷◌, Option, Some, None, IsTrue, refl, ap, sym, subst, ◌++◌, if◌then◌else◌, leb-true, lt-ltb, ◌≤◌, arith}
use Rattle.std.specs.Prelude.{nat_le, max}
use Rattle.spec_value.specs.Datum as value
use Rattle.spec_value.specs.Datum.{Datum, Text, fold_case, in_number_range}
use Rattle.spec_value.specs.Operators.{UnaryOperator, negation, not_true}
use Rattle.spec_value.proofs.Entries.{first_holds, second_holds}
use Rattle.spec_program.specs.Tree.{Expr, literal, variable, binary, both, either, conditional, listing, call, no_arguments, any_code, codes_in, the_code, instead, Target, to_variable, to_index, to_range, Items}
use Rattle.spec_program.specs.Spelling.{operator_level, right_level}
use Rattle.spec_program.specs.Tokens.{Sign, Token, word, any_word, question, at_sign, arrow, quote, assign, error_name, integer, object, string, sign, Placed, greatest_integer, greatest_object, comma, close_parenthesis, close_bracket, close_brace, open_parenthesis, open_bracket, open_brace, dot, double_dot, colon, minus_sign, not_sign, dollar, backquote}
use Rattle.spec_program.specs.Reading.{Read, got, stuck, and_then, is_sign, is_keyword, if_sign, past_sign, past_word, Node, under}
use Rattle.spec_program.specs.ReadExpressions.{Found, found_at, ReadsExpression, FoundArguments, none_found, with_argument, further_ones, one_argument, some_arguments, arguments_to, Braces, no_braces, perhaps_scatter, surely_scatter, Operand, whole, assignable, integer_value, object_value, literal_at, system_at, in_parentheses, name_by, name, property_of, verb_of, stepped, index_of, range_of, in_brackets, is_surely_scatter, step_after, steps_unless, steps, Allowed, FoundItems, no_more, with_required, with_rest, with_optional, with_default, with_expression, ReadsItems, and_items, list_alone, scatter_alone, expression_item, ends_item, optional_item, rest_allowed, bare_or_not, plain_item_by, plain_item, rest_item_by, rest_item, item_of_either, scatter_rest, item_of_scatter, item_by, items_from, braces_found, in_braces, FoundCodes, error_codes, caught_with, in_backquotes, word_first, system_first, dollar_alone, dollar_by, dollar_first, signed, with_steps, operand_by, operand, Joint, operator, and_joint, or_joint, question_joint, no_joint, joint, if_tight, Continues, joined, chosen_between, join_by, join_next, operators, assigned, scattered, if_any_level, target_or_value, braces_or_value, expression_with, expression}
use Rattle.spec_program.specs.Trees.{is_name, is_literal, goes_on, has_item, takes_rest, rest_once, has_argument, expr_fits, arguments_fit, codes_fit, target_fits, items_fit, expr_height, arguments_height, codes_height, target_height, items_height}
use Rattle.spec_program.proofs.LowTrees.{Low, nothing, side, beneath, leaf}
use Rattle.spec_program.proofs.ReadFits.{TokenFits, TokensFit, Gives, and_also, implied, found, none, after, either_way, past, worded}

abbrev pub FoundFits : Bool → Found → Type 0
FoundFits b e = IsTrue (expr_fits b e.tree) × Low (expr_height e.tree) e.nodes

abbrev pub ReadsFit : ReadsExpression → Type 0
ReadsFit reads = (b : Bool) (k : ℕ) (ts : List Placed) → TokensFit ts → Gives (FoundFits b) (reads b k ts)

abbrev pub CodesFit : Bool → FoundCodes → Type 0
CodesFit b c = IsTrue (codes_fit b c.tree) × Low (codes_height c.tree) c.nodes

-- ---- literals

integer_fits : (n : ℕ) → IsTrue (nat_le n (suc greatest_integer)) → IsTrue (is_literal (value.integer (integer_value n)))
integer_fits n h = go (nat_le n greatest_integer) refl
  where
    go : (b : Bool) → nat_le n greatest_integer ≡ b → IsTrue (is_literal (value.integer (if b then pos n else negsuc greatest_integer)))
    go true e = e
    go false e = refl

object_fits : (below : Bool) (n : ℕ) → IsTrue (nat_le n (greatest_object below)) → IsTrue (in_number_range (object_value below n))
object_fits false n h = let e : n ≤ greatest_integer = leb-true n greatest_integer h in lt-ltb n 2147483648 (omega (arith, e))
object_fits true zero h = refl
object_fits true (suc n) h = let e : suc n ≤ suc greatest_integer = leb-true (suc n) (suc greatest_integer) h in lt-ltb n 2147483648 (omega (arith, e))

-- ---- what an operand may become

abbrev TargetFits : Bool → Bool → List Node → Option Target → Type 0
TargetFits b ranged ns None = Unit {0}
TargetFits b ranged ns (Some t) = IsTrue (target_fits b t) × ((ranged ≡ false → IsTrue (goes_on t)) × Low (target_height t) ns)

abbrev ScatterFits : Bool → Items → List Node → Type 0
ScatterFits b xs ns = IsTrue (has_item xs) × (IsTrue (rest_once xs) × (IsTrue (items_fit b xs) × Low (items_height xs) ns))

abbrev BracesFit : Bool → Braces → Type 0
BracesFit b no_braces = Unit {0}
BracesFit b (perhaps_scatter xs ns) = ScatterFits b xs ns
BracesFit b (surely_scatter xs ns) = ScatterFits b xs ns

abbrev OperandFits : Bool → Operand → Type 0
OperandFits b o = FoundFits b o.found × (TargetFits b o.ranged o.found.nodes o.target × BracesFit b o.braces)

-- with an expression that reads fitting ones, in brackets or not
module _ (reads : ReadsExpression) (each : ReadsFit reads) (b : Bool) where
  -- ---- arguments

  abbrev ArgumentsFit : FoundArguments → Type 0
  ArgumentsFit f = IsTrue (arguments_fit b f.tree) × Low (arguments_height f.tree) f.nodes

  abbrev SomeFit : FoundArguments → Type 0
  SomeFit f = IsTrue (has_argument f.tree) × ArgumentsFit f

  argument_joined : (spliced : Bool) (e : Found) (more : FoundArguments) → FoundFits b e → ArgumentsFit more → SomeFit (with_argument spliced e more)
  argument_joined true e more h k = (refl, (and_also h.0 k.0, side h.1 k.1))
  argument_joined false e more h k = (refl, (and_also h.0 k.0, side h.1 k.1))

  abbrev SomeRead : (List Placed → Read FoundArguments) → Type 0
  SomeRead more = (ts : List Placed) → TokensFit ts → Gives SomeFit (more ts)

  one_fits : (more : List Placed → Read FoundArguments) → SomeRead more → (spliced : Bool) → SomeRead (one_argument reads b more spliced)
  one_fits more later spliced ts h =
      after (FoundFits b) SomeFit (reads b 0 ts) _ (each b 0 ts h) (λ e us k g.
      after ArgumentsFit SomeFit (further_ones more us) _ (further us g) (λ es vs m f. found SomeFit _ vs (argument_joined spliced e es k m) f))
    where
      further : (us : List Placed) → TokensFit us → Gives ArgumentsFit (further_ones more us)
      further us g = either_way ArgumentsFit _ more (got none_found) us g (λ vs f. implied SomeFit ArgumentsFit (more vs) (λ x m. m.1) (later vs f)) (λ vs f. found ArgumentsFit _ vs (refl, nothing) f)

  some_fit : (n : ℕ) → SomeRead (some_arguments n reads b)
  unfolding some_arguments
  some_fit zero ts h = none SomeFit ts
  some_fit (suc n) ts h = go (some_fit n)
    where
      go : SomeRead (some_arguments n reads b) → Gives SomeFit (some_arguments (suc n) reads b ts)
      go later = either_way SomeFit _ _ _ ts h (one_fits (some_arguments n reads b) later true) (one_fits (some_arguments n reads b) later false)

  arguments_read : (s : Sign) (n : ℕ) (ts : List Placed) → TokensFit ts → Gives ArgumentsFit (arguments_to s n reads b ts)
  arguments_read s n ts h =
      either_way ArgumentsFit (is_sign s) (got none_found) (λ us. and_then (some_arguments n reads b us) (λ es vs. past_sign s vs (got es))) ts h (λ us g. found ArgumentsFit _ us (refl, nothing) g) (λ us g.
      after SomeFit ArgumentsFit (some_arguments n reads b us) _ (some_fit n us g) (λ es vs k f. past ArgumentsFit _ (got es) vs f (λ ws m. found ArgumentsFit _ ws k.1 m)))

  -- ---- names

  parentheses_fit : (line : ℕ) (ts : List Placed) → TokensFit ts → Gives (FoundFits b) (in_parentheses reads b line ts)
  parentheses_fit line ts h =
      after (FoundFits b) (FoundFits b) (reads b 0 ts) _ (each b 0 ts h) (λ e us k g. past (FoundFits b) _ (got (record e { line = line })) us g (λ vs f. found (FoundFits b) _ vs k f))

  name_fits : (ts : List Placed) → TokensFit ts → Gives (FoundFits b) (name reads b ts)
  name_fits [] h = none (FoundFits b) []
  name_fits (p ∷ ts) h = go p.token h.0
    where
      go : (t : Token) → TokenFits t → Gives (FoundFits b) (name_by reads b t p.line ts (p ∷ ts))
      go (word x) m = found (FoundFits b) _ ts (m.1, leaf) h.1
      go (sign open_parenthesis) m = parentheses_fit p.line ts h.1
      go t m = none (FoundFits b) (p ∷ ts)

  -- ---- properties, verbs and indexes

  abbrev OperandRead : (List Placed → Read Operand) → Type 0
  OperandRead more = (ts : List Placed) → TokensFit ts → Gives (OperandFits b) (more ts)

  property_fits : (o p : Found) → FoundFits b o → FoundFits b p → OperandFits b (property_of o p)
  property_fits o p h k = ((and_also h.0 k.0, beneath (side h.1 k.1)), ((and_also h.0 k.0, ((λ e. refl), beneath (side h.1 k.1))), tt))

  verb_fits : (n : ℕ) (o v : Found) → FoundFits b o → FoundFits b v → OperandRead (verb_of n reads b o v)
  verb_fits n o v h k ts g =
      past (OperandFits b) _ _ ts g (λ us f.
      after ArgumentsFit (OperandFits b) (arguments_to close_parenthesis n reads b us) _ (arguments_read close_parenthesis n us f) (λ es vs m l.
      found (OperandFits b) _ vs ((and_also h.0 (and_also k.0 m.0), beneath (side h.1 (side k.1 m.1))), (tt, tt)) l))

  index_fits : (o : Operand) (i : Found) → OperandFits b o → FoundFits true i → OperandFits b (index_of o i)
  index_fits o i h k = ((and_also h.0.0 k.0, beneath (side h.0.1 k.1)), (go o.target o.ranged h.1.0, tt))
    where
      go : (t : Option Target) (ranged : Bool) → TargetFits b ranged o.found.nodes t
          → TargetFits b false (index_of o i).found.nodes (stepped t ranged (λ u. to_index u i.tree))
      go (Some t) false m = (and_also (and_also (m.1.0 refl) m.0) k.0, ((λ e. refl), beneath (side m.1.1 k.1)))
      go (Some t) true m = tt
      go None false m = tt
      go None true m = tt

  range_fits : (o : Operand) (i j : Found) → OperandFits b o → FoundFits true i → FoundFits true j → OperandFits b (range_of o i j)
  range_fits o i j h k l = ((and_also h.0.0 (and_also k.0 l.0), beneath (side h.0.1 (side k.1 l.1))), (go o.target o.ranged h.1.0, tt))
    where
      go : (t : Option Target) (ranged : Bool) → TargetFits b ranged o.found.nodes t
          → TargetFits b true (range_of o i j).found.nodes (stepped t ranged (λ u. to_range u i.tree j.tree))
      go (Some t) false m = (and_also (and_also (m.1.0 refl) m.0) (and_also k.0 l.0), ((λ e. cc), beneath (side m.1.1 (side k.1 l.1))))
      go (Some t) true m = tt
      go None false m = tt
      go None true m = tt

  abbrev StepsRead : (Operand → List Placed → Read Operand) → Type 0
  StepsRead more = (o : Operand) (ts : List Placed) → OperandFits b o → TokensFit ts → Gives (OperandFits b) (more o ts)

  brackets_fit : (more : Operand → List Placed → Read Operand) → StepsRead more → StepsRead (λ o ts. in_brackets reads o more ts)
  brackets_fit more later o ts h g =
      after (FoundFits true) (OperandFits b) (reads true 0 ts) _ (each true 0 ts g) (λ i us k f.
      either_way (OperandFits b) (is_sign double_dot)
      (λ vs. and_then (reads true 0 vs) (λ j ws. past_sign close_bracket ws (λ xs. more (range_of o i j) xs)))
      (λ vs. past_sign close_bracket vs (λ ws. more (index_of o i) ws))
      us f
      (λ vs m. after (FoundFits true) (OperandFits b) (reads true 0 vs) _ (each true 0 vs m) (λ j ws l q.
      past (OperandFits b) _ _ ws q (λ xs r. later (range_of o i j) xs (range_fits o i j h k l) r)))
      (λ vs m. past (OperandFits b) _ _ vs m (λ ws q. later (index_of o i) ws (index_fits o i h k) q)))

  step_fits : (n : ℕ) (more : Operand → List Placed → Read Operand) → StepsRead more
      → (o : Operand) (t : Token) (rest all : List Placed) → OperandFits b o → TokensFit rest → TokensFit all
      → Gives (OperandFits b) (step_after n reads b more o t rest all)
  step_fits n more later o (sign dot) rest all h g f =
      after (FoundFits b) (OperandFits b) (name reads b rest) _ (name_fits rest g) (λ p us k m. later (property_of o.found p) us (property_fits o.found p h.0 k) m)
  step_fits n more later o (sign colon) rest all h g f =
      after (FoundFits b) (OperandFits b) (name reads b rest) _ (name_fits rest g) (λ v us k m.
      after (OperandFits b) (OperandFits b) (verb_of n reads b o.found v us) more (verb_fits n o.found v h.0 k us m) later)
  step_fits n more later o (sign open_bracket) rest all h g f = brackets_fit more later o rest h g
  step_fits n more later o t rest all h g f = found (OperandFits b) o all h f

  steps_fit : (n : ℕ) → StepsRead (steps n reads b)
  unfolding steps
  steps_fit zero o ts h g = none (OperandFits b) ts
  steps_fit (suc n) o ts h g = go (steps_fit n) (is_surely_scatter o.braces) ts g
    where
      go : StepsRead (steps n reads b) → (c : Bool) (us : List Placed) → TokensFit us → Gives (OperandFits b) (steps_unless c n reads b (steps n reads b) o us)
      go later true us f = found (OperandFits b) o us h f
      go later false [] f = found (OperandFits b) o [] h tt
      go later false (p ∷ us) f = step_fits n (steps n reads b) later o p.token us (p ∷ us) h f.1 f

  -- ---- braces

  -- while a scatter is possible its items fit so far, and none takes the rest again
  abbrev ItemsAfter : Allowed → FoundItems → Type 0
  ItemsAfter a f =
      (IsTrue (arguments_fit b f.arguments) × Low (arguments_height f.arguments) f.argument_nodes)
      × (IsTrue f.allowed.as_scatter
      → (IsTrue a.as_scatter × ((IsTrue (items_fit b f.items) × Low (items_height f.items) f.default_nodes) × (IsTrue (rest_once f.items) × (IsTrue a.has_rest → IsTrue (not (takes_rest f.items)))))))

  abbrev ItemsFit : Allowed → FoundItems → Type 0
  ItemsFit a f = ItemsAfter a f × (IsTrue f.allowed.as_scatter → IsTrue (has_item f.items))

  abbrev ItemsRead : ReadsItems → Type 0
  ItemsRead more = (a : Allowed) (ts : List Placed) → TokensFit ts → Gives (ItemsFit a) (more a ts)

  clash : (c : Bool) → IsTrue (not c) → IsTrue c → IsTrue false
  clash true h k = h
  clash false h k = k

  required_fits : (a : Allowed) (x : Text) (line : ℕ) (f : FoundItems) → IsTrue (is_name (fold_case x)) → ItemsAfter a f → ItemsFit a (with_required x line f)
  required_fits a x line f h m = (((and_also h m.0.0, side leaf m.0.1), λ s. ((m.1 s).0, ((and_also h (m.1 s).1.0.0, (m.1 s).1.0.1), ((m.1 s).1.1.0, (m.1 s).1.1.1)))), λ s. refl)

  optional_fits : (a : Allowed) (x : Text) (f : FoundItems) → IsTrue (is_name (fold_case x)) → ItemsAfter (scatter_alone a) f → ItemsFit a (with_optional x f)
  optional_fits a x f h m = ((m.0, λ s. ((m.1 s).0, ((and_also h (m.1 s).1.0.0, (m.1 s).1.0.1), ((m.1 s).1.1.0, (m.1 s).1.1.1)))), λ s. refl)

  default_fits : (a : Allowed) (x : Text) (e : Found) (f : FoundItems) → IsTrue (is_name (fold_case x)) → FoundFits b e → ItemsAfter (scatter_alone a) f
      → ItemsFit a (with_default x e f)
  default_fits a x e f h k m = ((m.0, λ s. ((m.1 s).0, ((and_also h (and_also k.0 (m.1 s).1.0.0), side k.1 (m.1 s).1.0.1), ((m.1 s).1.1.0, (m.1 s).1.1.1)))), λ s. refl)

  rest_fits : (a : Allowed) (x : Text) (line : ℕ) (f : FoundItems) → IsTrue (is_name (fold_case x))
      → IsTrue (arguments_fit b f.arguments) × Low (arguments_height f.arguments) f.argument_nodes
      → (IsTrue f.allowed.as_scatter → (IsTrue a.as_scatter × (IsTrue (not a.has_rest) × ((IsTrue (items_fit b f.items) × Low (items_height f.items) f.default_nodes) × IsTrue (not (takes_rest f.items))))))
      → ItemsFit a (with_rest x line f)
  rest_fits a x line f h k m =
      (((and_also h k.0, side leaf k.1), λ s. ((m s).0, ((and_also h (m s).1.1.0.0, (m s).1.1.0.1), ((m s).1.1.1, λ r. clash a.has_rest (m s).1.0 r)))), λ s. refl)

  spliced_or_not : (a : Allowed) (spliced : Bool) (e : Found) (f : FoundItems) → FoundFits b e → ItemsAfter (list_alone a) f
      → ItemsFit a (with_expression spliced e f)
  spliced_or_not a true e f k m = (((and_also k.0 m.0.0, side k.1 m.0.1), λ s. absurd (cc ((m.1 s).0))), λ s. absurd (cc ((m.1 s).0)))
  spliced_or_not a false e f k m = (((and_also k.0 m.0.0, side k.1 m.0.1), λ s. absurd (cc ((m.1 s).0))), λ s. absurd (cc ((m.1 s).0)))

  module _ (more : ReadsItems) (later : ItemsRead more) where
    and_items_fit : (a own : Allowed) (joins : FoundItems → FoundItems) → ((f : FoundItems) → ItemsAfter a f → ItemsFit own (joins f))
        → (ts : List Placed) → TokensFit ts → Gives (ItemsFit own) (and_items more a joins ts)
    and_items_fit a own joins k ts h = after (ItemsAfter a) (ItemsFit own) _ _ further (λ f us m g. found (ItemsFit own) _ us (k f m) g)
      where
        further : Gives (ItemsAfter a) (if_sign comma (more a) (λ us. past_sign close_brace us (got (no_more a))) ts)
        further =
            either_way (ItemsAfter a) (is_sign comma) (more a) (λ us. past_sign close_brace us (got (no_more a))) ts h
            (λ us g. implied (ItemsFit a) (ItemsAfter a) (more a us) (λ f m. m.0) (later a us g))
            (λ us g. past (ItemsAfter a) _ (got (no_more a)) us g (λ vs f. found (ItemsAfter a) _ vs ((refl, nothing), λ s. (s, ((refl, nothing), (refl, λ r. refl)))) f))

    expression_item_fits : (a : Allowed) (spliced : Bool) (ts : List Placed) → TokensFit ts → Gives (ItemsFit a) (expression_item reads b more a spliced ts)
    expression_item_fits a spliced ts h =
        after (FoundFits b) (ItemsFit a) (reads b 0 ts) _ (each b 0 ts h) (λ e us k g.
        and_items_fit (list_alone a) a (with_expression spliced e) (λ f m. spliced_or_not a spliced e f k m) us g)

    optional_item_fits : (a : Allowed) (ts : List Placed) → TokensFit ts → Gives (ItemsFit a) (optional_item reads b more a ts)
    optional_item_fits a ts h =
        worded (ItemsFit a) ts _ h (λ x line us k g.
        either_way (ItemsFit a) (is_sign assign)
        (λ vs. and_then (reads b 0 vs) (λ e ws. and_items more (scatter_alone a) (with_default x e) ws))
        (λ vs. and_items more (scatter_alone a) (with_optional x) vs)
        us g
        (λ vs f. after (FoundFits b) (ItemsFit a) (reads b 0 vs) _ (each b 0 vs f) (λ e ws l q.
        and_items_fit (scatter_alone a) a (with_default x e) (λ r m. default_fits a x e r k.0 l m) ws q))
        (λ vs f. and_items_fit (scatter_alone a) a (with_optional x) (λ r m. optional_fits a x r k.0 m) vs f))

    bare_fits : (a : Allowed) (c : Bool) (bare other : List Placed → Read FoundItems) (rest all : List Placed) → Gives (ItemsFit a) (bare rest)
        → Gives (ItemsFit a) (other all) → Gives (ItemsFit a) (bare_or_not c bare other rest all)
    bare_fits a true bare other rest all h k = h
    bare_fits a false bare other rest all h k = k

    plain_fits : (a : Allowed) (ts : List Placed) → TokensFit ts → Gives (ItemsFit a) (plain_item reads b more a ts)
    plain_fits a [] h = none (ItemsFit a) []
    plain_fits a (p ∷ ts) h = go p.token h.0
      where
        go : (t : Token) → TokenFits t → Gives (ItemsFit a) (plain_item_by reads b more a t p.line ts (p ∷ ts))
        go (word x) m =
            bare_fits a (ends_item ts) (and_items more a (with_required x p.line)) (expression_item reads b more a false) ts (p ∷ ts)
            (and_items_fit a a (with_required x p.line) (λ f r. required_fits a x p.line f m.0 r) ts h.1)
            (expression_item_fits a false (p ∷ ts) h)
        go t m = expression_item_fits a false (p ∷ ts) h

    rest_item_fits : (a : Allowed) (ts : List Placed) → TokensFit ts → Gives (ItemsFit a) (rest_item reads b more a ts)
    rest_item_fits a [] h = none (ItemsFit a) []
    rest_item_fits a (p ∷ ts) h = go p.token h.0
      where
        go : (t : Token) → TokenFits t → Gives (ItemsFit a) (rest_item_by reads b more a t p.line ts (p ∷ ts))
        go (word x) m =
            bare_fits a (ends_item ts) (and_items more (rest_allowed a) (with_rest x p.line)) (expression_item reads b more a true) ts (p ∷ ts)
            (and_items_fit (rest_allowed a) a (with_rest x p.line)
            (λ f r. rest_fits a x p.line f m.0 r.0 (λ s. (first_holds a.as_scatter _ (r.1 s).0, (second_holds a.as_scatter _ (r.1 s).0, ((r.1 s).1.0, (r.1 s).1.1.1 refl)))))
            ts h.1)
            (expression_item_fits a true (p ∷ ts) h)
        go t m = expression_item_fits a true (p ∷ ts) h

    either_item_fits : (a : Allowed) (ts : List Placed) → TokensFit ts → Gives (ItemsFit a) (item_of_either reads b more a ts)
    either_item_fits a ts h =
        either_way (ItemsFit a) (is_sign question)
        (λ us. bare_or_not a.as_scatter (optional_item reads b more a) stuck us ts)
        (λ us. if_sign at_sign (rest_item reads b more a) (plain_item reads b more a) us)
        ts h
        (λ us g. bare_fits a a.as_scatter (optional_item reads b more a) stuck us ts (optional_item_fits a us g) (none (ItemsFit a) ts))
        (λ us g. either_way (ItemsFit a) (is_sign at_sign) (rest_item reads b more a) (plain_item reads b more a) us g (rest_item_fits a) (plain_fits a))

    scatter_rest_fits : (a : Allowed) (c : Bool) (rest all : List Placed) → a.has_rest ≡ c → TokensFit rest → Gives (ItemsFit a) (scatter_rest more a c rest all)
    scatter_rest_fits a true rest all e h = none (ItemsFit a) all
    scatter_rest_fits a false rest all e h =
        worded (ItemsFit a) rest _ h (λ x line us k g.
        and_items_fit (record a { has_rest = true }) a (with_rest x line)
        (λ f r. rest_fits a x line f k.0 r.0 (λ s. ((r.1 s).0, (ap not e, ((r.1 s).1.0, (r.1 s).1.1.1 refl))))) us g)

    scatter_item_fits : (a : Allowed) (ts : List Placed) → TokensFit ts → Gives (ItemsFit a) (item_of_scatter reads b more a ts)
    scatter_item_fits a ts h =
        either_way (ItemsFit a) (is_sign question)
        (optional_item reads b more a)
        (λ us. if_sign at_sign
        (λ vs. scatter_rest more a a.has_rest vs us)
        (λ vs. past_word vs (λ x line ws. and_items more a (with_required x line) ws))
        us)
        ts h
        (optional_item_fits a)
        (λ us g. either_way (ItemsFit a) (is_sign at_sign)
        (λ vs. scatter_rest more a a.has_rest vs us)
        (λ vs. past_word vs (λ x line ws. and_items more a (with_required x line) ws))
        us g
        (λ vs f. scatter_rest_fits a a.has_rest vs us refl f)
        (λ vs f. worded (ItemsFit a) vs _ f (λ x line ws k q. and_items_fit a a (with_required x line) (λ r m. required_fits a x line r k.0 m) ws q)))

    item_fits : (c : Bool) (a : Allowed) (ts : List Placed) → TokensFit ts → Gives (ItemsFit a) (item_by c reads b more a ts)
    item_fits true a ts h = either_item_fits a ts h
    item_fits false a ts h = scatter_item_fits a ts h

  items_read : (n : ℕ) → ItemsRead (items_from n reads b)
  unfolding items_from
  items_read zero a ts h = none (ItemsFit a) ts
  items_read (suc n) a ts h = go (items_read n)
    where
      go : ItemsRead (items_from n reads b) → Gives (ItemsFit a) (items_from (suc n) reads b a ts)
      go later = item_fits (items_from n reads b) later a.as_list a ts h

  braces_fit : (a : Allowed) (line : ℕ) (f : FoundItems) → ItemsFit a f → OperandFits b (braces_found line f)
  braces_fit a line f h = ((h.0.0.0, beneath h.0.0.1), (tt, go f.allowed.as_scatter refl f.allowed.as_list))
    where
      go : (c : Bool) → f.allowed.as_scatter ≡ c → (d : Bool)
          → BracesFit b (if c then (if d then perhaps_scatter f.items f.default_nodes else surely_scatter f.items f.default_nodes) else no_braces)
      go true e true = (h.1 e, ((h.0.1 e).1.1.0, (h.0.1 e).1.0))
      go true e false = (h.1 e, ((h.0.1 e).1.1.0, (h.0.1 e).1.0))
      go false e d = tt

  in_braces_fits : (n k line : ℕ) → OperandRead (in_braces n reads b k line)
  in_braces_fits n k line ts h =
      either_way (OperandFits b) (is_sign close_brace)
      (got (whole (found_at line (listing no_arguments) [])))
      (λ us. and_then (items_from n reads b (record { as_list = true; as_scatter = k == 0; has_rest = false }) us) (λ f vs. got (braces_found line f) vs))
      ts h
      (λ us g. found (OperandFits b) _ us ((refl, beneath nothing), (tt, tt)) g)
      (λ us g.
      let a : Allowed = record { as_list = true; as_scatter = k == 0; has_rest = false } in
      after (ItemsFit a) (OperandFits b) (items_from n reads b a us) _ (items_read n a us g) (λ f vs m q. found (OperandFits b) _ vs (braces_fit a line f m) q))

  -- ---- caught expressions

  pub codes_read : (n : ℕ) (ts : List Placed) → TokensFit ts → Gives (CodesFit b) (error_codes n reads b ts)
  codes_read n ts h =
      either_way (CodesFit b) (is_keyword any_word)
      (got (record { tree = any_code; nodes = [] }))
      (λ us. and_then (some_arguments n reads b us) (λ es vs. got (record { tree = codes_in es.tree; nodes = es.nodes }) vs))
      ts h
      (λ us g. found (CodesFit b) _ us (refl, nothing) g)
      (λ us g. after SomeFit (CodesFit b) (some_arguments n reads b us) _ (some_fit n us g) (λ es vs k f. found (CodesFit b) _ vs (and_also k.0 k.1.0, k.1.1) f))

  caught_fits : (n line : ℕ) → OperandRead (in_backquotes n reads b line)
  caught_fits n line ts h =
      after (FoundFits b) (OperandFits b) (reads b 0 ts) _ (each b 0 ts h) (λ e us k g. past (OperandFits b) _ _ us g (λ vs f.
      after (CodesFit b) (OperandFits b) (error_codes n reads b vs) _ (codes_read n vs f) (λ c ws m q.
      either_way (OperandFits b) (is_sign arrow)
      (λ xs. and_then (reads b 0 xs) (λ d ys. past_sign quote ys (got (caught_with line e c (instead d.tree) d.nodes))))
      (λ xs. past_sign quote xs (got (caught_with line e c the_code [])))
      ws q
      (λ xs r. after (FoundFits b) (OperandFits b) (reads b 0 xs) _ (each b 0 xs r) (λ d ys l o.
      past (OperandFits b) _ (got (caught_with line e c (instead d.tree) d.nodes)) ys o (λ zs z. found (OperandFits b) _ zs ((and_also k.0 (and_also m.0 l.0), beneath (side k.1 (side m.1 l.1))), (tt, tt)) z)))
      (λ xs r. past (OperandFits b) _ (got (caught_with line e c the_code [])) xs r (λ zs z. found (OperandFits b) _ zs ((and_also k.0 (and_also m.0 refl), beneath (side k.1 (side m.1 nothing))), (tt, tt)) z)))))

  -- ---- words and `$`

  word_fits : (n : ℕ) (x : Text) (line : ℕ) → TokenFits (word x) → OperandRead (word_first n reads b x line)
  word_fits n x line m ts h =
      either_way (OperandFits b) (is_sign open_parenthesis)
      (λ us. and_then (arguments_to close_parenthesis n reads b us) (λ es vs. got (whole (found_at line (call (fold_case x) es.tree) es.nodes)) vs))
      (got (assignable (found_at line (variable (fold_case x)) []) (to_variable (fold_case x))))
      ts h
      (λ us g. after ArgumentsFit (OperandFits b) (arguments_to close_parenthesis n reads b us) _ (arguments_read close_parenthesis n us g) (λ es vs k f.
      found (OperandFits b) _ vs ((and_also m.0 k.0, beneath k.1), (tt, tt)) f))
      (λ us g. found (OperandFits b) _ us ((m.0, leaf), ((m.0, ((λ e. refl), leaf)), tt)) g)

  system_fits : (n line : ℕ) (x : Found) → FoundFits b x → OperandRead (system_first n reads b line x)
  system_fits n line x k ts h =
      either_way (OperandFits b) (is_sign open_parenthesis) (λ us. verb_of n reads b (system_at line) x ts) (got (property_of (system_at line) x)) ts h
      (λ us g. verb_fits n (system_at line) x (refl, leaf) k ts h)
      (λ us g. found (OperandFits b) _ us (property_fits (system_at line) x (refl, leaf) k) g)

  dollar_fits : (n line : ℕ) → OperandRead (dollar_first n reads b line)
  dollar_fits n line [] h = alone b refl [] tt
    where
      alone : (c : Bool) → b ≡ c → (us : List Placed) → TokensFit us → Gives (OperandFits b) (dollar_alone c line us)
      alone true e us g = found (OperandFits b) _ us ((e, leaf), (tt, tt)) g
      alone false e us g = none (OperandFits b) us
  dollar_fits n line (p ∷ ts) h = go p.token h.0
    where
      alone : (c : Bool) → b ≡ c → (us : List Placed) → TokensFit us → Gives (OperandFits b) (dollar_alone c line us)
      alone true e us g = found (OperandFits b) _ us ((e, leaf), (tt, tt)) g
      alone false e us g = none (OperandFits b) us

      go : (t : Token) → TokenFits t → Gives (OperandFits b) (dollar_by n reads b line t p.line ts (p ∷ ts))
      go (word x) m = system_fits n line (found_at p.line (literal (value.text x)) []) (m.1, leaf) ts h.1
      go t m = alone b refl (p ∷ ts) h

  -- ---- the first operand

  signed_fits : (u : UnaryOperator) (line : ℕ) → OperandRead (signed reads b u line)
  signed_fits u line ts h = after (FoundFits b) (OperandFits b) (reads b 7 ts) _ (each b 7 ts h) (λ e us k g. found (OperandFits b) _ us ((k.0, beneath k.1), (tt, tt)) g)

  steps_after : (n : ℕ) (r : Read Operand) → Gives (OperandFits b) r → Gives (OperandFits b) (with_steps n reads b r)
  steps_after n r h = after (OperandFits b) (OperandFits b) r (steps n reads b) h (λ o us k g. steps_fit n o us k g)

  literal_fits : (line : ℕ) (v : Datum) (ts : List Placed) → IsTrue (is_literal v) → TokensFit ts → Gives (OperandFits b) (literal_at line v ts)
  literal_fits line v ts h g = found (OperandFits b) _ ts ((h, leaf), (tt, tt)) g

  operand_fits : (n k : ℕ) → OperandRead (operand n reads b k)
  operand_fits n k [] h = none (OperandFits b) []
  operand_fits n k (p ∷ ts) h = go p.token h.0
    where
      go : (t : Token) → TokenFits t → Gives (OperandFits b) (operand_by n reads b k t p.line ts (p ∷ ts))
      go (sign minus_sign) m = signed_fits negation p.line ts h.1
      go (sign not_sign) m = signed_fits not_true p.line ts h.1
      go (integer i) m = steps_after n _ (literal_fits p.line (value.integer (integer_value i)) ts (integer_fits i m) h.1)
      go (object below i) m = steps_after n _ (literal_fits p.line (value.object (object_value below i)) ts (object_fits below i m) h.1)
      go (string t) m = steps_after n _ (literal_fits p.line (value.text t) ts m h.1)
      go (error_name e) m = steps_after n _ (literal_fits p.line (value.error e) ts refl h.1)
      go (word x) m = steps_after n _ (word_fits n x p.line m ts h.1)
      go (sign dollar) m = steps_after n _ (dollar_fits n p.line ts h.1)
      go (sign open_parenthesis) m =
          steps_after n _ (after (FoundFits b) (OperandFits b) (in_parentheses reads b p.line ts) _ (parentheses_fit p.line ts h.1) (λ e us l g.
          found (OperandFits b) (whole e) us (l, (tt, tt)) g))
      go (sign open_brace) m = steps_after n _ (in_braces_fits n k p.line ts h.1)
      go (sign backquote) m = steps_after n _ (caught_fits n p.line ts h.1)
      go t m = none (OperandFits b) (p ∷ ts)

  -- ---- operators and assignments

  abbrev Ready : (List Placed → Read Found) → Type 0
  Ready f = (ts : List Placed) → TokensFit ts → Gives (FoundFits b) (f ts)

  module _ (more : Continues) (later : (a : Found) → FoundFits b a → Ready (more a)) where
    joined_fits : (a : Found) → FoundFits b a → (right : ℕ) (f : Expr → Expr → Expr)
        → ((x y : Expr) → IsTrue (expr_fits b x) → IsTrue (expr_fits b y) → IsTrue (expr_fits b (f x y)))
        → ((x y : Expr) → expr_height (f x y) ≡ suc (max (expr_height x) (expr_height y))) → Ready (joined reads b more a right f)
    joined_fits a h right f k same ts g =
        after (FoundFits b) (FoundFits b) (reads b right ts) _ (each b right ts g) (λ c us m q. later (found_at a.line (f a.tree c.tree) (a.nodes ++ c.nodes))
        (k a.tree c.tree h.0 m.0, subst (λ z. Low z (under a.line (a.nodes ++ c.nodes))) (sym (same a.tree c.tree)) (beneath (side h.1 m.1))) us q)

    chosen_fits : (c : Found) → FoundFits b c → Ready (chosen_between reads b more c)
    chosen_fits c h ts g =
        after (FoundFits b) (FoundFits b) (reads b 0 ts) _ (each b 0 ts g) (λ x us k f. past (FoundFits b) _ _ us f (λ vs m.
        after (FoundFits b) (FoundFits b) (reads b 1 vs) _ (each b 1 vs m) (λ y ws l q.
        later (found_at c.line (conditional c.tree x.tree y.tree) (c.nodes ++ (x.nodes ++ y.nodes))) (and_also h.0 (and_also k.0 l.0), beneath (side h.1 (side k.1 l.1))) ws q)))

    tight : (c : Bool) (joins done : List Placed → Read Found) (rest all : List Placed) → Gives (FoundFits b) (joins rest) → Gives (FoundFits b) (done all)
        → Gives (FoundFits b) (if_tight c joins done rest all)
    tight true joins done rest all h k = h
    tight false joins done rest all h k = k

    join_fits : (k : ℕ) (a : Found) → FoundFits b a → Ready (join_next reads b more k a)
    join_fits k a h [] g = found (FoundFits b) a [] h tt
    join_fits k a h (p ∷ ts) g = go (joint p.token)
      where
        go : (j : Joint) → Gives (FoundFits b) (join_by reads b more k a j ts (p ∷ ts))
        go (operator op) =
            tight (nat_le k (operator_level op)) (joined reads b more a (right_level op) (binary op)) (got a) ts (p ∷ ts)
            (joined_fits a h (right_level op) (binary op) (λ x y l m. and_also l m) (λ x y. refl) ts g.1) (found (FoundFits b) a _ h g)
        go and_joint =
            tight (nat_le k 2) (joined reads b more a 3 both) (got a) ts (p ∷ ts) (joined_fits a h 3 both (λ x y l m. and_also l m) (λ x y. refl) ts g.1) (found (FoundFits b) a _ h g)
        go or_joint =
            tight (nat_le k 2) (joined reads b more a 3 either) (got a) ts (p ∷ ts) (joined_fits a h 3 either (λ x y l m. and_also l m) (λ x y. refl) ts g.1) (found (FoundFits b) a _ h g)
        go question_joint = tight (nat_le k 1) (chosen_between reads b more a) (got a) ts (p ∷ ts) (chosen_fits a h ts g.1) (found (FoundFits b) a _ h g)
        go no_joint = found (FoundFits b) a _ h g

  operators_fit : (n k : ℕ) (a : Found) → FoundFits b a → Ready (operators n reads b k a)
  unfolding operators
  operators_fit zero k a h ts g = none (FoundFits b) ts
  operators_fit (suc n) k a h ts g = go (operators_fit n k)
    where
      go : ((c : Found) → FoundFits b c → Ready (operators n reads b k c)) → Gives (FoundFits b) (operators (suc n) reads b k a ts)
      go later = join_fits (operators n reads b k) later k a h ts g

  any_level : (k : ℕ) (there absent : List Placed → Read Found) → Ready there → Ready absent → Ready (if_any_level k there absent)
  any_level zero there absent h m ts g = either_way (FoundFits b) (is_sign assign) there absent ts g h m
  any_level (suc k) there absent h m ts g = m ts g

  scattered_fits : (line : ℕ) (xs : Items) (ns : List Node) → ScatterFits b xs ns → Ready (scattered reads b line xs ns)
  scattered_fits line xs ns h ts g =
      after (FoundFits b) (FoundFits b) (reads b 0 ts) _ (each b 0 ts g) (λ e us k f. found (FoundFits b) _ us (and_also (and_also h.0 h.1.0) (and_also h.1.1.0 k.0), beneath (side h.1.1.1 k.1)) f)

  target_fits_too : (k : ℕ) (a : Found) (ranged : Bool) (t : Option Target) → TargetFits b ranged a.nodes t → (absent : List Placed → Read Found) → Ready absent
      → Ready (target_or_value reads b k a t absent)
  target_fits_too k a ranged None h absent m ts g = m ts g
  target_fits_too k a ranged (Some t) h absent m ts g =
      any_level k (assigned reads b a t) absent
      (λ us f. after (FoundFits b) (FoundFits b) (reads b 0 us) _ (each b 0 us f) (λ e vs l q. found (FoundFits b) _ vs (and_also h.0 l.0, beneath (side h.1.1 l.1)) q)) m ts g

  assigned_fits : (k : ℕ) (o : Operand) → OperandFits b o → (r : Braces) → BracesFit b r → (absent : List Placed → Read Found) → Ready absent
      → Ready (braces_or_value reads b k o r absent)
  assigned_fits k o h no_braces l absent m ts g = target_fits_too k o.found o.ranged o.target h.1.0 absent m ts g
  assigned_fits k o h (perhaps_scatter xs ns) l absent m ts g = any_level k (scattered reads b o.found.line xs ns) absent (scattered_fits o.found.line xs ns l) m ts g
  assigned_fits k o h (surely_scatter xs ns) l absent m ts g =
      any_level k (scattered reads b o.found.line xs ns) stuck (scattered_fits o.found.line xs ns l) (λ us f. none (FoundFits b) us) ts g

  one_expression : (n k : ℕ) → Ready (expression_with n reads b k)
  one_expression n k ts h =
      after (OperandFits b) (FoundFits b) (operand n reads b k ts) _ (operand_fits n k ts h) (λ o us m g.
      assigned_fits k o m o.braces m.1.1 (operators n reads b k o.found) (operators_fit n k o.found m.0) us g)

pub expressions_fit : (n : ℕ) → ReadsFit (expression n)
unfolding expression
expressions_fit zero b k ts h = none (FoundFits b) ts
expressions_fit (suc n) b k ts h = go (expressions_fit n)
  where
    go : ReadsFit (expression n) → Gives (FoundFits b) (expression (suc n) b k ts)
    go each = one_expression (expression n) each b n k ts h
