-- Expressions that are read have no more nodes than twice their tokens.
use Rattle.std.proofs.Common.{◌≡◌, ◌≤◌, ◌+◌, ℕ, zero, suc, Bool, true, false, ◌==◌, List, [], ◌∷◌, ◌++◌, Option, Some, None, refl, if◌then◌else◌, arith}
use Rattle.std.specs.Prelude.{nat_le}
use Rattle.spec_value.specs.Datum as value
use Rattle.spec_value.specs.Datum.{Datum, Text, fold_case}
use Rattle.spec_value.specs.Operators.{UnaryOperator, negation, not_true}
use Rattle.spec_program.specs.Tree.{Expr, literal, variable, binary, both, either, conditional, listing, call, no_arguments, any_code, codes_in, the_code, instead, Target, to_variable, to_index, to_range, Items}
use Rattle.spec_program.specs.Spelling.{operator_level, right_level}
use Rattle.spec_program.specs.Tokens.{Sign, Token, word, any_word, question, at_sign, arrow, quote, assign, error_name, integer, object, string, sign, Placed, comma, close_parenthesis, close_bracket, close_brace, open_parenthesis, open_bracket, open_brace, dot, double_dot, colon, minus_sign, not_sign, dollar, backquote}
use Rattle.spec_program.specs.Reading.{Read, got, stuck, and_then, is_sign, is_keyword, if_sign, past_sign, past_word, Node}
use Rattle.spec_program.specs.ReadExpressions.{Found, found_at, ReadsExpression, FoundArguments, none_found, with_argument, further_ones, one_argument, some_arguments, arguments_to, Braces, no_braces, perhaps_scatter, surely_scatter, Operand, whole, assignable, integer_value, object_value, literal_at, system_at, in_parentheses, name_by, name, property_of, verb_of, stepped, index_of, range_of, in_brackets, is_surely_scatter, step_after, steps_unless, steps, Allowed, FoundItems, no_more, with_required, with_rest, with_optional, with_default, with_expression, ReadsItems, and_items, list_alone, scatter_alone, expression_item, ends_item, optional_item, rest_allowed, bare_or_not, plain_item_by, plain_item, rest_item_by, rest_item, item_of_either, scatter_rest, item_of_scatter, item_by, items_from, braces_found, in_braces, FoundCodes, error_codes, caught_with, in_backquotes, word_first, system_first, dollar_alone, dollar_by, dollar_first, signed, with_steps, operand_by, operand, Joint, operator, and_joint, or_joint, question_joint, no_joint, joint, if_tight, Continues, joined, chosen_between, join_by, join_next, operators, assigned, scattered, if_any_level, target_or_value, braces_or_value, expression_with, expression}
use Rattle.spec_values_kept.specs.Nodes.{expr_nodes, arguments_nodes, codes_nodes, target_nodes, items_nodes}
use Rattle.spec_values_kept.proofs.ReadFew.{worth, Spends, found, none, after, wider, either_way, past, worded}

abbrev pub FoundFew : ℕ → Found → Type 0
FoundFew k e = expr_nodes e.tree ≤ k

abbrev pub ReadsFew : ReadsExpression → Type 0
ReadsFew reads = (b : Bool) (k : ℕ) (ts : List Placed) → Spends FoundFew (worth ts) (reads b k ts)

abbrev pub CodesFew : ℕ → FoundCodes → Type 0
CodesFew k c = codes_nodes c.tree ≤ k

abbrev TargetFew : ℕ → Option Target → Type 0
TargetFew k None = Unit {0}
TargetFew k (Some t) = target_nodes t ≤ k

abbrev BracesFew : ℕ → Braces → Type 0
BracesFew k no_braces = Unit {0}
BracesFew k (perhaps_scatter xs ns) = items_nodes xs ≤ k
BracesFew k (surely_scatter xs ns) = items_nodes xs ≤ k

abbrev OperandFew : ℕ → Operand → Type 0
OperandFew k o = FoundFew k o.found × (TargetFew k o.target × BracesFew k o.braces)

same : (n : ℕ) → n ≤ n
same n = omega arith

-- with an expression that reads few nodes, in brackets or not
module _ (reads : ReadsExpression) (each : ReadsFew reads) (b : Bool) where
  -- ---- arguments

  abbrev ArgumentsFew : ℕ → FoundArguments → Type 0
  ArgumentsFew k f = arguments_nodes f.tree ≤ k

  argument_joined : (spliced : Bool) (e : Found) (more : FoundArguments) (i j : ℕ) → FoundFew i e → ArgumentsFew j more → ArgumentsFew (i + j) (with_argument spliced e more)
  argument_joined true e more i j h k = omega (arith, h, k)
  argument_joined false e more i j h k = omega (arith, h, k)

  abbrev ArgumentsRead : (List Placed → Read FoundArguments) → Type 0
  ArgumentsRead more = (ts : List Placed) → Spends ArgumentsFew (worth ts) (more ts)

  one_few : (more : List Placed → Read FoundArguments) → ArgumentsRead more → (n : ℕ) (spliced : Bool) (ts : List Placed) → worth ts ≤ n
      → Spends ArgumentsFew n (one_argument reads b more spliced ts)
  one_few more later n spliced ts l =
      after FoundFew ArgumentsFew (worth ts) n (reads b 0 ts) _ (each b 0 ts) (λ i e us k h.
      after ArgumentsFew ArgumentsFew (worth us) n (further_ones more us) _ (further us) (λ j es vs m g.
      found ArgumentsFew n (i + j) (with_argument spliced e es) vs (omega (arith, l, k, m)) (argument_joined spliced e es i j h g)))
    where
      further : (us : List Placed) → Spends ArgumentsFew (worth us) (further_ones more us)
      further us =
          either_way ArgumentsFew (worth us) (is_sign comma) more (got none_found) us (λ vs k. wider ArgumentsFew (worth vs) (worth us) (more vs) (omega (arith, k)) (later vs)) (λ vs k. found ArgumentsFew (worth us) 0 none_found vs (omega (arith, k)) (same 0))

  some_few : (n : ℕ) → ArgumentsRead (some_arguments n reads b)
  unfolding some_arguments
  some_few zero ts = none ArgumentsFew (worth ts) ts
  some_few (suc n) ts = go (some_few n)
    where
      go : ArgumentsRead (some_arguments n reads b) → Spends ArgumentsFew (worth ts) (some_arguments (suc n) reads b ts)
      go later =
          either_way ArgumentsFew (worth ts) (is_sign at_sign) (one_argument reads b (some_arguments n reads b) true) (one_argument reads b (some_arguments n reads b) false) ts
          (λ us k. one_few (some_arguments n reads b) later (worth ts) true us (omega (arith, k))) (λ us k. one_few (some_arguments n reads b) later (worth ts) false us k)

  arguments_read : (s : Sign) (n : ℕ) (ts : List Placed) → Spends ArgumentsFew (worth ts) (arguments_to s n reads b ts)
  arguments_read s n ts =
      either_way ArgumentsFew (worth ts) (is_sign s) (got none_found) (λ us. and_then (some_arguments n reads b us) (λ es vs. past_sign s vs (got es))) ts
      (λ us k. found ArgumentsFew (worth ts) 0 none_found us (omega (arith, k)) (same 0))
      (λ us k. after ArgumentsFew ArgumentsFew (worth us) (worth ts) (some_arguments n reads b us) _ (some_few n us) (λ j es vs m h.
      past ArgumentsFew (worth ts) (is_sign s) (got es) vs (λ ws l. found ArgumentsFew (worth ts) j es ws (omega (arith, k, m, l)) h)))

  -- ---- names

  parentheses_few : (line n : ℕ) (ts : List Placed) → worth ts ≤ n → Spends FoundFew n (in_parentheses reads b line ts)
  parentheses_few line n ts l =
      after FoundFew FoundFew (worth ts) n (reads b 0 ts) _ (each b 0 ts) (λ i e us k h.
      past FoundFew n (is_sign close_parenthesis) (got (record e { line = line })) us (λ vs m. found FoundFew n i (record e { line = line }) vs (omega (arith, l, k, m)) h))

  name_few : (ts : List Placed) → Spends FoundFew (worth ts) (name reads b ts)
  name_few [] = none FoundFew 0 []
  name_few (p ∷ ts) = go p.token
    where
      go : (t : Token) → Spends FoundFew (worth (p ∷ ts)) (name_by reads b t p.line ts (p ∷ ts))
      go (word x) = found FoundFew (worth (p ∷ ts)) 1 (found_at p.line (literal (value.text x)) []) ts (omega arith) (same 1)
      go (sign open_parenthesis) = parentheses_few p.line (worth (p ∷ ts)) ts (omega arith)
      go t = none FoundFew (worth (p ∷ ts)) (p ∷ ts)

  -- ---- properties, verbs and indexes

  property_few : (o p : Found) (i j : ℕ) → FoundFew i o → FoundFew j p → OperandFew (suc (i + j)) (property_of o p)
  property_few o p i j h k = (omega (arith, h, k), (omega (arith, h, k), tt))

  verb_few : (n : ℕ) (o v : Found) (i j m : ℕ) (ts : List Placed) → FoundFew i o → FoundFew j v → i + j + worth ts ≤ m → Spends OperandFew m (verb_of n reads b o v ts)
  verb_few n o v i j m ts h k l =
      past OperandFew m (is_sign open_parenthesis) _ ts (λ us a.
      after ArgumentsFew OperandFew (worth us) m (arguments_to close_parenthesis n reads b us) _ (arguments_read close_parenthesis n us) (λ g es vs c d.
      found OperandFew m (suc (i + j + g)) _ vs (omega (arith, l, a, c)) (omega (arith, h, k, d), (tt, tt))))

  index_few : (o : Operand) (i : Found) (m j : ℕ) → OperandFew m o → FoundFew j i → OperandFew (suc (m + j)) (index_of o i)
  index_few o i m j h k = let l : expr_nodes (o.found).tree ≤ m = h.0 in (omega (arith, l, k), (go o.target o.ranged (h.1).0, tt))
    where
      go : (t : Option Target) (ranged : Bool) → TargetFew m t → TargetFew (suc (m + j)) (stepped t ranged (λ u. to_index u i.tree))
      go (Some t) false a = let l : target_nodes t ≤ m = a in omega (arith, l, k)
      go (Some t) true a = tt
      go None false a = tt
      go None true a = tt

  range_few : (o : Operand) (i d : Found) (m j g : ℕ) → OperandFew m o → FoundFew j i → FoundFew g d → OperandFew (suc (m + (j + g))) (range_of o i d)
  range_few o i d m j g h k q = let l : expr_nodes (o.found).tree ≤ m = h.0 in (omega (arith, l, k, q), (go o.target o.ranged (h.1).0, tt))
    where
      go : (t : Option Target) (ranged : Bool) → TargetFew m t → TargetFew (suc (m + (j + g))) (stepped t ranged (λ u. to_range u i.tree d.tree))
      go (Some t) false a = let l : target_nodes t ≤ m = a in omega (arith, l, k, q)
      go (Some t) true a = tt
      go None false a = tt
      go None true a = tt

  abbrev StepsRead : (Operand → List Placed → Read Operand) → Type 0
  StepsRead more = (m i : ℕ) (o : Operand) (ts : List Placed) → OperandFew i o → i + worth ts ≤ m → Spends OperandFew m (more o ts)

  brackets_few : (more : Operand → List Placed → Read Operand) → StepsRead more → (m i : ℕ) (o : Operand) (ts : List Placed) → OperandFew i o → i + suc (suc (worth ts)) ≤ m
      → Spends OperandFew m (in_brackets reads o more ts)
  brackets_few more later m i o ts h l =
      after FoundFew OperandFew (worth ts) m (reads true 0 ts) _ (each true 0 ts) (λ j e us k g.
      either_way OperandFew m (is_sign double_dot)
      (λ vs. and_then (reads true 0 vs) (λ d ws. past_sign close_bracket ws (λ xs. more (range_of o e d) xs)))
      (λ vs. past_sign close_bracket vs (λ ws. more (index_of o e) ws))
      us
      (λ vs a. after FoundFew OperandFew (worth vs) m (reads true 0 vs) _ (each true 0 vs) (λ q d ws c f.
      past OperandFew m (is_sign close_bracket) _ ws (λ xs r. later m (suc (i + (j + q))) (range_of o e d) xs (range_few o e d i j q h g f) (omega (arith, l, k, a, c, r)))))
      (λ vs a. past OperandFew m (is_sign close_bracket) _ vs (λ ws r. later m (suc (i + j)) (index_of o e) ws (index_few o e i j h g) (omega (arith, l, k, a, r)))))

  step_few : (n : ℕ) (more : Operand → List Placed → Read Operand) → StepsRead more → (m i : ℕ) (o : Operand) (t : Token) (rest all : List Placed) → OperandFew i o
      → i + suc (suc (worth rest)) ≤ m → i + worth all ≤ m → Spends OperandFew m (step_after n reads b more o t rest all)
  step_few n more later m i o (sign dot) rest all h l a =
      after FoundFew OperandFew (worth rest) m (name reads b rest) _ (name_few rest) (λ j p us k g.
      later m (suc (i + j)) (property_of o.found p) us (property_few o.found p i j h.0 g) (omega (arith, l, k)))
  step_few n more later m i o (sign colon) rest all h l a =
      after FoundFew OperandFew (worth rest) m (name reads b rest) _ (name_few rest) (λ j v us k g.
      after OperandFew OperandFew m m (verb_of n reads b o.found v us) more (verb_few n o.found v i j m us h.0 g (omega (arith, l, k))) (λ q x vs c d. later m q x vs d c))
  step_few n more later m i o (sign open_bracket) rest all h l a = brackets_few more later m i o rest h l
  step_few n more later m i o t rest all h l a = found OperandFew m i o all a h

  steps_few : (n : ℕ) → StepsRead (steps n reads b)
  unfolding steps
  steps_few zero m i o ts h l = none OperandFew m ts
  steps_few (suc n) m i o ts h l = go (steps_few n) (is_surely_scatter o.braces) ts l
    where
      go : StepsRead (steps n reads b) → (c : Bool) (us : List Placed) → i + worth us ≤ m → Spends OperandFew m (steps_unless c n reads b (steps n reads b) o us)
      go later true us a = found OperandFew m i o us a h
      go later false [] a = found OperandFew m i o [] a h
      go later false (p ∷ us) a = step_few n (steps n reads b) later m i o p.token us (p ∷ us) h (omega (arith, a)) a

  -- ---- braces

  abbrev ItemsFew : ℕ → FoundItems → Type 0
  ItemsFew k f = (arguments_nodes f.arguments ≤ k) × (items_nodes f.items ≤ k)

  abbrev ItemsRead : ReadsItems → Type 0
  ItemsRead more = (a : Allowed) (ts : List Placed) → Spends ItemsFew (worth ts) (more a ts)

  expression_few : (spliced : Bool) (e : Found) (f : FoundItems) (i k : ℕ) → FoundFew i e → ItemsFew k f → ItemsFew (i + k) (with_expression spliced e f)
  expression_few true e f i k g h =
      let m : arguments_nodes f.arguments ≤ k = h.0 in let j : items_nodes f.items ≤ k = h.1 in let q : expr_nodes e.tree ≤ i = g in (omega (arith, m, q), omega (arith, j))
  expression_few false e f i k g h =
      let m : arguments_nodes f.arguments ≤ k = h.0 in let j : items_nodes f.items ≤ k = h.1 in let q : expr_nodes e.tree ≤ i = g in (omega (arith, m, q), omega (arith, j))

  module _ (more : ReadsItems) (later : ItemsRead more) where
    -- with c for what joins them
    and_items_few : (m c : ℕ) (a : Allowed) (joins : FoundItems → FoundItems) → ((k : ℕ) (f : FoundItems) → ItemsFew k f → ItemsFew (c + k) (joins f))
        → (ts : List Placed) → c + worth ts ≤ m → Spends ItemsFew m (and_items more a joins ts)
    and_items_few m c a joins joined_few ts l =
        after ItemsFew ItemsFew (worth ts) m (if_sign comma (more a) (λ us. past_sign close_brace us (got (no_more a))) ts) _ further
        (λ k f us g h. found ItemsFew m (c + k) (joins f) us (omega (arith, l, g)) (joined_few k f h))
      where
        further : Spends ItemsFew (worth ts) (if_sign comma (more a) (λ us. past_sign close_brace us (got (no_more a))) ts)
        further =
            either_way ItemsFew (worth ts) (is_sign comma) (more a) (λ us. past_sign close_brace us (got (no_more a))) ts
            (λ us k. wider ItemsFew (worth us) (worth ts) (more a us) (omega (arith, k)) (later a us))
            (λ us k. past ItemsFew (worth ts) (is_sign close_brace) (got (no_more a)) us (λ vs j. found ItemsFew (worth ts) 0 (no_more a) vs (omega (arith, k, j)) (same 0, same 0)))

    expression_item_few : (m : ℕ) (a : Allowed) (spliced : Bool) (ts : List Placed) → worth ts ≤ m → Spends ItemsFew m (expression_item reads b more a spliced ts)
    expression_item_few m a spliced ts l =
        after FoundFew ItemsFew (worth ts) m (reads b 0 ts) _ (each b 0 ts) (λ i e us k g.
        and_items_few m i (list_alone a) (with_expression spliced e) (λ j f h. expression_few spliced e f i j g h) us (omega (arith, l, k)))

    optional_item_few : (m : ℕ) (a : Allowed) (ts : List Placed) → worth ts ≤ m → Spends ItemsFew m (optional_item reads b more a ts)
    optional_item_few m a ts l =
        worded ItemsFew m ts _ (λ x line us k.
        either_way ItemsFew m (is_sign assign)
        (λ vs. and_then (reads b 0 vs) (λ e ws. and_items more (scatter_alone a) (with_default x e) ws))
        (λ vs. and_items more (scatter_alone a) (with_optional x) vs)
        us
        (λ vs j. after FoundFew ItemsFew (worth vs) m (reads b 0 vs) _ (each b 0 vs) (λ i e ws q g.
        and_items_few m (suc i) (scatter_alone a) (with_default x e) (λ c f h. widened x e f i c g h) ws (omega (arith, l, k, j, q))))
        (λ vs j. and_items_few m 1 (scatter_alone a) (with_optional x) (λ c f h. one_more x f c h) vs (omega (arith, l, k, j))))
      where
        widened : (x : Text) (e : Found) (f : FoundItems) (i c : ℕ) → FoundFew i e → ItemsFew c f → ItemsFew (suc i + c) (with_default x e f)
        widened x e f i c g h =
            let m2 : arguments_nodes f.arguments ≤ c = h.0 in let j : items_nodes f.items ≤ c = h.1 in let q : expr_nodes e.tree ≤ i = g in (omega (arith, m2), omega (arith, j, q))

        one_more : (x : Text) (f : FoundItems) (c : ℕ) → ItemsFew c f → ItemsFew (1 + c) (with_optional x f)
        one_more x f c h = let i : arguments_nodes f.arguments ≤ c = h.0 in let j : items_nodes f.items ≤ c = h.1 in (omega (arith, i), omega (arith, j))

    required_more : (x : Text) (line : ℕ) (f : FoundItems) (c : ℕ) → ItemsFew c f → ItemsFew (1 + c) (with_required x line f)
    required_more x line f c h = let i : arguments_nodes f.arguments ≤ c = h.0 in let j : items_nodes f.items ≤ c = h.1 in (omega (arith, i), omega (arith, j))

    rest_more : (x : Text) (line : ℕ) (f : FoundItems) (c : ℕ) → ItemsFew c f → ItemsFew (1 + c) (with_rest x line f)
    rest_more x line f c h = let i : arguments_nodes f.arguments ≤ c = h.0 in let j : items_nodes f.items ≤ c = h.1 in (omega (arith, i), omega (arith, j))

    bare_few : (m : ℕ) (c : Bool) (bare other : List Placed → Read FoundItems) (rest all : List Placed) → Spends ItemsFew m (bare rest) → Spends ItemsFew m (other all)
        → Spends ItemsFew m (bare_or_not c bare other rest all)
    bare_few m true bare other rest all h k = h
    bare_few m false bare other rest all h k = k

    plain_few : (m : ℕ) (a : Allowed) (ts : List Placed) → worth ts ≤ m → Spends ItemsFew m (plain_item reads b more a ts)
    plain_few m a [] l = none ItemsFew m []
    plain_few m a (p ∷ ts) l = go p.token
      where
        go : (t : Token) → Spends ItemsFew m (plain_item_by reads b more a t p.line ts (p ∷ ts))
        go (word x) =
            bare_few m (ends_item ts) (and_items more a (with_required x p.line)) (expression_item reads b more a false) ts (p ∷ ts)
            (and_items_few m 1 a (with_required x p.line) (λ c f h. required_more x p.line f c h) ts (omega (arith, l)))
            (expression_item_few m a false (p ∷ ts) l)
        go t = expression_item_few m a false (p ∷ ts) l

    rest_item_few : (m : ℕ) (a : Allowed) (ts : List Placed) → worth ts ≤ m → Spends ItemsFew m (rest_item reads b more a ts)
    rest_item_few m a [] l = none ItemsFew m []
    rest_item_few m a (p ∷ ts) l = go p.token
      where
        go : (t : Token) → Spends ItemsFew m (rest_item_by reads b more a t p.line ts (p ∷ ts))
        go (word x) =
            bare_few m (ends_item ts) (and_items more (rest_allowed a) (with_rest x p.line)) (expression_item reads b more a true) ts (p ∷ ts)
            (and_items_few m 1 (rest_allowed a) (with_rest x p.line) (λ c f h. rest_more x p.line f c h) ts (omega (arith, l)))
            (expression_item_few m a true (p ∷ ts) l)
        go t = expression_item_few m a true (p ∷ ts) l

    either_item_few : (a : Allowed) (ts : List Placed) → Spends ItemsFew (worth ts) (item_of_either reads b more a ts)
    either_item_few a ts =
        either_way ItemsFew (worth ts) (is_sign question)
        (λ us. bare_or_not a.as_scatter (optional_item reads b more a) stuck us ts)
        (λ us. if_sign at_sign (rest_item reads b more a) (plain_item reads b more a) us)
        ts
        (λ us k. bare_few (worth ts) a.as_scatter (optional_item reads b more a) stuck us ts (optional_item_few (worth ts) a us (omega (arith, k))) (none ItemsFew (worth ts) ts))
        (λ us k. either_way ItemsFew (worth ts) (is_sign at_sign) (rest_item reads b more a) (plain_item reads b more a) us
        (λ vs j. rest_item_few (worth ts) a vs (omega (arith, k, j))) (λ vs j. plain_few (worth ts) a vs (omega (arith, k, j))))

    scatter_rest_few : (m : ℕ) (a : Allowed) (c : Bool) (rest all : List Placed) → worth rest ≤ m → Spends ItemsFew m (scatter_rest more a c rest all)
    scatter_rest_few m a true rest all l = none ItemsFew m all
    scatter_rest_few m a false rest all l =
        worded ItemsFew m rest _ (λ x line us k.
        and_items_few m 1 (record a { has_rest = true }) (with_rest x line) (λ c f h. rest_more x line f c h) us (omega (arith, l, k)))

    scatter_item_few : (a : Allowed) (ts : List Placed) → Spends ItemsFew (worth ts) (item_of_scatter reads b more a ts)
    scatter_item_few a ts =
        either_way ItemsFew (worth ts) (is_sign question)
        (optional_item reads b more a)
        (λ us. if_sign at_sign
        (λ vs. scatter_rest more a a.has_rest vs us)
        (λ vs. past_word vs (λ x line ws. and_items more a (with_required x line) ws))
        us)
        ts
        (λ us k. optional_item_few (worth ts) a us (omega (arith, k)))
        (λ us k. either_way ItemsFew (worth ts) (is_sign at_sign)
        (λ vs. scatter_rest more a a.has_rest vs us)
        (λ vs. past_word vs (λ x line ws. and_items more a (with_required x line) ws))
        us
        (λ vs j. scatter_rest_few (worth ts) a a.has_rest vs us (omega (arith, k, j)))
        (λ vs j. worded ItemsFew (worth ts) vs _ (λ x line ws q.
        and_items_few (worth ts) 1 a (with_required x line) (λ c f h. required_more x line f c h) ws (omega (arith, k, j, q)))))

    item_few : (c : Bool) (a : Allowed) (ts : List Placed) → Spends ItemsFew (worth ts) (item_by c reads b more a ts)
    item_few true a ts = either_item_few a ts
    item_few false a ts = scatter_item_few a ts

  items_read : (n : ℕ) → ItemsRead (items_from n reads b)
  unfolding items_from
  items_read zero a ts = none ItemsFew (worth ts) ts
  items_read (suc n) a ts = go (items_read n)
    where
      go : ItemsRead (items_from n reads b) → Spends ItemsFew (worth ts) (items_from (suc n) reads b a ts)
      go later = item_few (items_from n reads b) later a.as_list a ts

  braces_few : (line : ℕ) (f : FoundItems) (k : ℕ) → ItemsFew k f → OperandFew (suc k) (braces_found line f)
  braces_few line f k h =
      let i : arguments_nodes f.arguments ≤ k = h.0 in (omega (arith, i), (tt, go f.allowed.as_scatter f.allowed.as_list))
    where
      go : (c d : Bool) → BracesFew (suc k) (if c then (if d then perhaps_scatter f.items f.default_nodes else surely_scatter f.items f.default_nodes) else no_braces)
      go true true = let j : items_nodes f.items ≤ k = h.1 in omega (arith, j)
      go true false = let j : items_nodes f.items ≤ k = h.1 in omega (arith, j)
      go false d = tt

  in_braces_few : (n k line : ℕ) (ts : List Placed) → Spends OperandFew (suc (suc (worth ts))) (in_braces n reads b k line ts)
  in_braces_few n k line ts =
      either_way OperandFew (suc (suc (worth ts))) (is_sign close_brace)
      (got (whole (found_at line (listing no_arguments) [])))
      (λ us. and_then (items_from n reads b (record { as_list = true; as_scatter = k == 0; has_rest = false }) us) (λ f vs. got (braces_found line f) vs))
      ts
      (λ us l. found OperandFew (suc (suc (worth ts))) 1 (whole (found_at line (listing no_arguments) [])) us (omega (arith, l)) (same 1, (tt, tt)))
      (λ us l.
      let a : Allowed = record { as_list = true; as_scatter = k == 0; has_rest = false } in
      after ItemsFew OperandFew (worth us) (suc (suc (worth ts))) (items_from n reads b a us) _ (items_read n a us) (λ i f vs g h.
      found OperandFew (suc (suc (worth ts))) (suc i) (braces_found line f) vs (omega (arith, l, g)) (braces_few line f i h)))

  -- ---- caught expressions

  pub codes_read : (n m : ℕ) (ts : List Placed) → worth ts ≤ m → Spends CodesFew m (error_codes n reads b ts)
  codes_read n m ts l =
      either_way CodesFew m (is_keyword any_word)
      (got (record { tree = any_code; nodes = [] }))
      (λ us. and_then (some_arguments n reads b us) (λ es vs. got (record { tree = codes_in es.tree; nodes = es.nodes }) vs))
      ts
      (λ us k. found CodesFew m 0 (record { tree = any_code; nodes = [] }) us (omega (arith, l, k)) (same 0))
      (λ us k. after ArgumentsFew CodesFew (worth us) m (some_arguments n reads b us) _ (some_few n us) (λ j es vs q h.
      found CodesFew m j (record { tree = codes_in es.tree; nodes = es.nodes }) vs (omega (arith, l, k, q)) h))

  caught_few : (n line : ℕ) (ts : List Placed) → Spends OperandFew (suc (suc (worth ts))) (in_backquotes n reads b line ts)
  caught_few n line ts =
      let m : ℕ = suc (suc (worth ts)) in
      after FoundFew OperandFew (worth ts) m (reads b 0 ts) _ (each b 0 ts) (λ i e us k g. past OperandFew m (is_sign not_sign) _ us (λ vs l.
      after CodesFew OperandFew (worth vs) m (error_codes n reads b vs) _ (codes_read n (worth vs) vs (same (worth vs))) (λ j c ws q h.
      either_way OperandFew m (is_sign arrow)
      (λ xs. and_then (reads b 0 xs) (λ d ys. past_sign quote ys (got (caught_with line e c (instead d.tree) d.nodes))))
      (λ xs. past_sign quote xs (got (caught_with line e c the_code [])))
      ws
      (λ xs r. after FoundFew OperandFew (worth xs) m (reads b 0 xs) _ (each b 0 xs) (λ f d ys o z.
      past OperandFew m (is_sign quote) (got (caught_with line e c (instead d.tree) d.nodes)) ys (λ zs w.
      found OperandFew m (suc (i + (j + f))) (caught_with line e c (instead d.tree) d.nodes) zs (omega (arith, k, l, q, r, o, w)) (omega (arith, g, h, z), (tt, tt)))))
      (λ xs r. past OperandFew m (is_sign quote) (got (caught_with line e c the_code [])) xs (λ zs w.
      found OperandFew m (suc (i + j)) (caught_with line e c the_code []) zs (omega (arith, k, l, q, r, w)) (omega (arith, g, h), (tt, tt)))))))

  -- ---- words and `$`

  word_few : (n : ℕ) (x : Text) (line : ℕ) (ts : List Placed) → Spends OperandFew (suc (suc (worth ts))) (word_first n reads b x line ts)
  word_few n x line ts =
      let m : ℕ = suc (suc (worth ts)) in
      either_way OperandFew m (is_sign open_parenthesis)
      (λ us. and_then (arguments_to close_parenthesis n reads b us) (λ es vs. got (whole (found_at line (call (fold_case x) es.tree) es.nodes)) vs))
      (got (assignable (found_at line (variable (fold_case x)) []) (to_variable (fold_case x))))
      ts
      (λ us l. after ArgumentsFew OperandFew (worth us) m (arguments_to close_parenthesis n reads b us) _ (arguments_read close_parenthesis n us) (λ j es vs k h.
      found OperandFew m (suc j) (whole (found_at line (call (fold_case x) es.tree) es.nodes)) vs (omega (arith, l, k)) (omega (arith, h), (tt, tt))))
      (λ us l. found OperandFew m 1 (assignable (found_at line (variable (fold_case x)) []) (to_variable (fold_case x))) us (omega (arith, l)) (same 1, (same 1, tt)))

  -- the sign `$` and a word are two tokens
  system_few : (n line : ℕ) (x : Found) (m : ℕ) (ts : List Placed) → FoundFew 1 x → 4 + worth ts ≤ m → Spends OperandFew m (system_first n reads b line x ts)
  system_few n line x m ts h l =
      either_way OperandFew m (is_sign open_parenthesis) (λ us. verb_of n reads b (system_at line) x ts) (got (property_of (system_at line) x)) ts
      (λ us k. verb_few n (system_at line) x 1 1 m ts (same 1) h (omega (arith, l)))
      (λ us k. found OperandFew m 3 (property_of (system_at line) x) us (omega (arith, l, k)) (property_few (system_at line) x 1 1 (same 1) h))

  alone_few : (m line : ℕ) (c : Bool) (us : List Placed) → 1 + worth us ≤ m → Spends OperandFew m (dollar_alone c line us)
  alone_few m line true us l = found OperandFew m 1 _ us l (same 1, (tt, tt))
  alone_few m line false us l = none OperandFew m us

  dollar_few : (n line m : ℕ) (ts : List Placed) → 2 + worth ts ≤ m → Spends OperandFew m (dollar_first n reads b line ts)
  dollar_few n line m [] l = alone_few m line b [] (omega (arith, l))
  dollar_few n line m (p ∷ ts) l = go p.token
    where
      go : (t : Token) → Spends OperandFew m (dollar_by n reads b line t p.line ts (p ∷ ts))
      go (word x) = system_few n line (found_at p.line (literal (value.text x)) []) m ts (same 1) (omega (arith, l))
      go t = alone_few m line b (p ∷ ts) (omega (arith, l))

  -- ---- the first operand

  signed_few : (u : UnaryOperator) (line m : ℕ) (ts : List Placed) → 2 + worth ts ≤ m → Spends OperandFew m (signed reads b u line ts)
  signed_few u line m ts l =
      after FoundFew OperandFew (worth ts) m (reads b 7 ts) _ (each b 7 ts) (λ i e us k h. found OperandFew m (suc i) _ us (omega (arith, l, k)) (omega (arith, h), (tt, tt)))

  steps_after : (n m : ℕ) (r : Read Operand) → Spends OperandFew m r → Spends OperandFew m (with_steps n reads b r)
  steps_after n m r h = after OperandFew OperandFew m m r (steps n reads b) h (λ i o us k g. steps_few n m i o us g k)

  literal_few : (line : ℕ) (v : Datum) (m : ℕ) (ts : List Placed) → 2 + worth ts ≤ m → Spends OperandFew m (literal_at line v ts)
  literal_few line v m ts l = found OperandFew m 1 (whole (found_at line (literal v) [])) ts (omega (arith, l)) (same 1, (tt, tt))

  operand_few : (n k : ℕ) (ts : List Placed) → Spends OperandFew (worth ts) (operand n reads b k ts)
  operand_few n k [] = none OperandFew 0 []
  operand_few n k (p ∷ ts) = go p.token
    where
      m : ℕ
      m = worth (p ∷ ts)

      l : 2 + worth ts ≤ m
      l = omega arith

      widen : (r : Read Operand) → Spends OperandFew (suc (suc (worth ts))) r → Spends OperandFew m r
      widen r h = wider OperandFew (suc (suc (worth ts))) m r (omega arith) h

      go : (t : Token) → Spends OperandFew m (operand_by n reads b k t p.line ts (p ∷ ts))
      go (sign minus_sign) = signed_few negation p.line m ts l
      go (sign not_sign) = signed_few not_true p.line m ts l
      go (integer i) = steps_after n m _ (literal_few p.line (value.integer (integer_value i)) m ts l)
      go (object below i) = steps_after n m _ (literal_few p.line (value.object (object_value below i)) m ts l)
      go (string t) = steps_after n m _ (literal_few p.line (value.text t) m ts l)
      go (error_name e) = steps_after n m _ (literal_few p.line (value.error e) m ts l)
      go (word x) = steps_after n m _ (widen (word_first n reads b x p.line ts) (word_few n x p.line ts))
      go (sign dollar) = steps_after n m _ (dollar_few n p.line m ts l)
      go (sign open_parenthesis) =
          steps_after n m _ (after FoundFew OperandFew m m (in_parentheses reads b p.line ts) _ (parentheses_few p.line m ts (omega arith)) (λ i e us a h.
          found OperandFew m i (whole e) us a (h, (tt, tt))))
      go (sign open_brace) = steps_after n m _ (widen (in_braces n reads b k p.line ts) (in_braces_few n k p.line ts))
      go (sign backquote) = steps_after n m _ (widen (in_backquotes n reads b p.line ts) (caught_few n p.line ts))
      go t = none OperandFew m (p ∷ ts)

  -- ---- operators and assignments

  abbrev Ready : (i : ℕ) → (List Placed → Read Found) → Type 0
  Ready i f = (m : ℕ) (ts : List Placed) → i + worth ts ≤ m → Spends FoundFew m (f ts)

  module _ (more : Continues) (later : (i : ℕ) (a : Found) → FoundFew i a → Ready i (more a)) where
    joined_few : (m i : ℕ) (a : Found) → FoundFew i a → (right : ℕ) (f : Expr → Expr → Expr) → ((x y : Expr) → expr_nodes (f x y) ≡ suc (expr_nodes x + expr_nodes y))
        → (ts : List Placed) → i + suc (suc (worth ts)) ≤ m → Spends FoundFew m (joined reads b more a right f ts)
    joined_few m i a h right f nodes ts l =
        after FoundFew FoundFew (worth ts) m (reads b right ts) _ (each b right ts) (λ j c us k g.
        let e : expr_nodes (f a.tree c.tree) ≡ suc (expr_nodes a.tree + expr_nodes c.tree) = nodes a.tree c.tree in
        later (suc (i + j)) (found_at a.line (f a.tree c.tree) (a.nodes ++ c.nodes)) (omega (arith, e, h, g)) m us (omega (arith, l, k)))

    chosen_few : (m i : ℕ) (c : Found) → FoundFew i c → (ts : List Placed) → i + suc (suc (worth ts)) ≤ m → Spends FoundFew m (chosen_between reads b more c ts)
    chosen_few m i c h ts l =
        after FoundFew FoundFew (worth ts) m (reads b 0 ts) _ (each b 0 ts) (λ j x us k f. past FoundFew m _ _ us (λ vs q.
        after FoundFew FoundFew (worth vs) m (reads b 1 vs) _ (each b 1 vs) (λ g y ws r o.
        later (suc (i + (j + g))) (found_at c.line (conditional c.tree x.tree y.tree) (c.nodes ++ (x.nodes ++ y.nodes))) (omega (arith, h, f, o)) m ws (omega (arith, l, k, q, r)))))

    tight : (m : ℕ) (c : Bool) (joins done : List Placed → Read Found) (rest all : List Placed) → Spends FoundFew m (joins rest) → Spends FoundFew m (done all)
        → Spends FoundFew m (if_tight c joins done rest all)
    tight m true joins done rest all h k = h
    tight m false joins done rest all h k = k

    join_few : (k i : ℕ) (a : Found) → FoundFew i a → Ready i (join_next reads b more k a)
    join_few k i a h m [] l = found FoundFew m i a [] l h
    join_few k i a h m (p ∷ ts) l = go (joint p.token)
      where
        there : i + suc (suc (worth ts)) ≤ m
        there = omega (arith, l)

        done : Spends FoundFew m (got a (p ∷ ts))
        done = found FoundFew m i a (p ∷ ts) l h

        go : (j : Joint) → Spends FoundFew m (join_by reads b more k a j ts (p ∷ ts))
        go (operator op) =
            tight m (nat_le k (operator_level op)) (joined reads b more a (right_level op) (binary op)) (got a) ts (p ∷ ts)
            (joined_few m i a h (right_level op) (binary op) (λ x y. refl) ts there) done
        go and_joint = tight m (nat_le k 2) (joined reads b more a 3 both) (got a) ts (p ∷ ts) (joined_few m i a h 3 both (λ x y. refl) ts there) done
        go or_joint = tight m (nat_le k 2) (joined reads b more a 3 either) (got a) ts (p ∷ ts) (joined_few m i a h 3 either (λ x y. refl) ts there) done
        go question_joint = tight m (nat_le k 1) (chosen_between reads b more a) (got a) ts (p ∷ ts) (chosen_few m i a h ts there) done
        go no_joint = done

  operators_few : (n k i : ℕ) (a : Found) → FoundFew i a → Ready i (operators n reads b k a)
  unfolding operators
  operators_few zero k i a h m ts l = none FoundFew m ts
  operators_few (suc n) k i a h m ts l = go (operators_few n k)
    where
      go : ((j : ℕ) (c : Found) → FoundFew j c → Ready j (operators n reads b k c)) → Spends FoundFew m (operators (suc n) reads b k a ts)
      go later = join_few (operators n reads b k) later k i a h m ts l

  -- a sign `=` is a token
  abbrev Assigns : (i : ℕ) → (List Placed → Read Found) → Type 0
  Assigns i f = (m : ℕ) (ts : List Placed) → i + suc (suc (worth ts)) ≤ m → Spends FoundFew m (f ts)

  any_level : (i k : ℕ) (there absent : List Placed → Read Found) → Assigns i there → Ready i absent → Ready i (if_any_level k there absent)
  any_level i zero there absent h g m ts l =
      either_way FoundFew m (is_sign assign) there absent ts (λ us a. h m us (omega (arith, l, a))) (λ us a. g m us (omega (arith, l, a)))
  any_level i (suc k) there absent h g m ts l = g m ts l

  scattered_few : (line i : ℕ) (xs : Items) (ns : List Node) → items_nodes xs ≤ i → Assigns i (scattered reads b line xs ns)
  scattered_few line i xs ns h m ts l =
      after FoundFew FoundFew (worth ts) m (reads b 0 ts) _ (each b 0 ts) (λ j e us k g. found FoundFew m (suc (i + j)) _ us (omega (arith, l, k)) (omega (arith, h, g)))

  target_few : (k i : ℕ) (a : Found) (t : Option Target) → TargetFew i t → (absent : List Placed → Read Found) → Ready i absent → Ready i (target_or_value reads b k a t absent)
  target_few k i a None h absent g m ts l = g m ts l
  target_few k i a (Some t) h absent g m ts l =
      any_level i k (assigned reads b a t) absent
      (λ q us r. after FoundFew FoundFew (worth us) q (reads b 0 us) _ (each b 0 us) (λ j e vs c d.
      let n : target_nodes t ≤ i = h in found FoundFew q (suc (i + j)) _ vs (omega (arith, r, c)) (omega (arith, n, d)))) g m ts l

  assigned_few : (k i : ℕ) (o : Operand) → OperandFew i o → (r : Braces) → BracesFew i r → (absent : List Placed → Read Found) → Ready i absent
      → Ready i (braces_or_value reads b k o r absent)
  assigned_few k i o h no_braces c absent g m ts l = target_few k i o.found o.target (h.1).0 absent g m ts l
  assigned_few k i o h (perhaps_scatter xs ns) c absent g m ts l = any_level i k (scattered reads b o.found.line xs ns) absent (scattered_few o.found.line i xs ns c) g m ts l
  assigned_few k i o h (surely_scatter xs ns) c absent g m ts l =
      any_level i k (scattered reads b o.found.line xs ns) stuck (scattered_few o.found.line i xs ns c) (λ q us r. none FoundFew q us) m ts l

  one_expression : (n k : ℕ) (ts : List Placed) → Spends FoundFew (worth ts) (expression_with n reads b k ts)
  one_expression n k ts =
      after OperandFew FoundFew (worth ts) (worth ts) (operand n reads b k ts) _ (operand_few n k ts) (λ i o us l h.
      assigned_few k i o h o.braces (h.1).1 (operators n reads b k o.found) (operators_few n k i o.found h.0) (worth ts) us l)

pub expressions_few : (n : ℕ) → ReadsFew (expression n)
unfolding expression
expressions_few zero b k ts = none FoundFew (worth ts) ts
expressions_few (suc n) b k ts = go (expressions_few n)
  where
    go : ReadsFew (expression n) → Spends FoundFew (worth ts) (expression (suc n) b k ts)
    go each = one_expression (expression n) each b n k ts
