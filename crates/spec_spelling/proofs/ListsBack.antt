-- Canonical tokens of list expressions are read as the trees that they are of: an item by itself may be a variable or any expression.
use Rattle.std.proofs.Common.{◌≡◌, ℕ, Bool, true, false, ◌&&◌, List, [], ◌∷◌, ◌++◌, IsTrue, refl, sym, ap, subst, ◌∙◌, if◌then◌else◌}
use Rattle.std.specs.Prelude.{Some, None}
use Rattle.spec_value.proofs.Entries.{first_holds, second_holds}
use Rattle.spec_value.specs.Datum.{Text, fold_case}
use Rattle.spec_program.specs.Tree.{Expr, variable, own_length, listing, call, to_variable, Arguments, no_arguments, argument, splice}
use Rattle.spec_program.specs.Tokens as t
use Rattle.spec_program.specs.Tokens.{Sign, Token, Placed}
use Rattle.spec_program.specs.Reading.{Read, got, stuck, and_then, if_sign, past_sign, Node, under}
use Rattle.spec_program.specs.ReadExpressions as by
use Rattle.spec_program.specs.ReadExpressions.{Found, FoundItems, Operand, Allowed, steps, items_from, expression, operand}
use Rattle.spec_program.specs.Moves.{at, begins_with}
use Rattle.spec_program.specs.StatementMoves.{is_word}
use Rattle.spec_program.specs.BracedMoves.{all_allowed}
use Rattle.spec_program.specs.Trees.{expr_fits, arguments_fit, expr_height, arguments_height}
use Rattle.spec_program.specs.CanonicalTokens.{Laid, none, next, between, expression_tokens, further_arguments, is_loose, Loose, Stops}
use Rattle.spec_program.proofs.LowTrees.{Within}
use Rattle.spec_program.proofs.MovesHold.{items_again, sign_absent}
use Rattle.spec_program.proofs.Laid.{Cut, cut, split, Enough, later, tail, plain, Free, free, no_parenthesis, of, Post, Got, ended, operand_begins}
use Rattle.spec_program.proofs.OperatorsBack.{one_higher, of_two, Back, whole_back, operand_back}
use Rattle.spec_program.proofs.ArgumentsBack.{Backs}
use Rattle.spec_spelling.proofs.Begins.{laid_on, Begins, begins, starts, not_question, not_at, not_brace}

-- ---- a word by itself

ends_loose : (k : Token) → by.ends_item (at 0 k ∷ []) ≡ true → is_loose k ≡ true
ends_loose (t.sign s) e = by_sign s e
  where
    by_sign : (s : Sign) → by.ends_item (at 0 (t.sign s) ∷ []) ≡ true → is_loose (t.sign s) ≡ true
    by_sign t.comma e = refl
    by_sign t.close_brace e = refl
    by_sign _ e = cc
ends_loose _ e = cc

ends_stops : (k : Token) → by.ends_item (at 0 k ∷ []) ≡ true → Stops 0 (at 0 k ∷ [])
ends_stops (t.sign s) e = by_sign s e
  where
    by_sign : (s : Sign) → by.ends_item (at 0 (t.sign s) ∷ []) ≡ true → Stops 0 (at 0 (t.sign s) ∷ [])
    by_sign t.comma e = refl
    by_sign t.close_brace e = refl
    by_sign _ e = cc
ends_stops _ e = cc

item_loose : (ts : List Placed) → by.ends_item ts ≡ true → Loose ts
item_loose [] e = tt
item_loose (p ∷ ts) e = ends_loose p.token e

item_stops : (ts : List Placed) → by.ends_item ts ≡ true → Stops 0 ts
item_stops [] e = tt
item_stops (p ∷ ts) e = ends_stops p.token e

word_post : (n : ℕ) (b : Bool) (k line : ℕ) (x : Text) (us : List Placed) → Free us → Post n b k (variable (fold_case x)) (at line (t.word x) ∷ us) us
word_post n b k line x us fr =
    record {
      line = line;
      nodes = under line [];
      target = Some (to_variable (fold_case x));
      ranged = false;
      braces = by.no_braces;
      low = refl;
      sure = refl;
      reads = ap (λ r. by.with_steps n (expression n) b r) (sign_absent t.open_parenthesis called (got (by.assignable (by.found_at line (variable (fold_case x)) []) (to_variable (fold_case x)))) us (no_parenthesis us fr));
    }
  where
    called : List Placed → Read Operand
    called us =
        and_then (by.arguments_to t.close_parenthesis n (expression n) b us) (λ es vs. got (by.whole (by.found_at line (call (fold_case x) es.tree) es.nodes)) vs)

word_got : (n : ℕ) (b : Bool) (line : ℕ) (x : Text) (us : List Placed) → Enough n (at line (t.word x) ∷ us) → by.ends_item us ≡ true
    → Got n b 0 (variable (fold_case x)) (at line (t.word x) ∷ us) us
word_got n b line x us i e =
    let lo = item_loose us e in
    let j = tail (at line (t.word x)) us i in
    ended (operand_begins (word_post n b 0 line x us (free us lo)) i j lo) j (item_stops us e)

-- ---- what is read is read in one way

abbrev tree_read : Read Found → Expr
tree_read (got e us) = e.tree
tree_read (stuck us) = own_length

abbrev rest_read : Read Found → List Placed
rest_read (got e us) = us
rest_read (stuck us) = us

same_tree : {n : ℕ} {b : Bool} {k : ℕ} {a c : Expr} {ts us vs : List Placed} → Got n b k a ts us → Got n b k c ts vs → a ≡ c
same_tree g h = ap tree_read (sym g.reads ∙ h.reads)

same_rest : {n : ℕ} {b : Bool} {k : ℕ} {a c : Expr} {ts us vs : List Placed} → Got n b k a ts us → Got n b k c ts vs → us ≡ vs
same_rest g h = ap rest_read (sym g.reads ∙ h.reads)

-- ---- an item of a list, spliced or not

abbrev one : Bool → Expr → Arguments → Arguments
one true e es = splice e es
one false e es = argument e es

abbrev core : (n : ℕ) (b c : Bool) (a : Allowed) → List Placed → Read FoundItems
core n b true a ts = by.rest_item (expression n) b (items_from n (expression n) b) a ts
core n b false a ts = by.plain_item (expression n) b (items_from n (expression n) b) a ts

record ItemGot (n : ℕ) (b c : Bool) (e : Expr) (a : Allowed) (ts us : List Placed) : Type 0 where
  behind : Allowed
  nodes : List Node
  made : FoundItems → FoundItems
  listed : behind.as_list ≡ true
  low : Within (expr_height e) nodes
  reads : core n b c a ts ≡ by.and_items (items_from n (expression n) b) behind made us
  tree : (f : FoundItems) → (made f).arguments ≡ one c e f.arguments
  all_nodes : (f : FoundItems) → (made f).argument_nodes ≡ nodes ++ f.argument_nodes
  allowed : (f : FoundItems) → (made f).allowed ≡ f.allowed

other_core : (n : ℕ) (b c : Bool) (a : Allowed) (p : Placed) (ts : List Placed) → is_word p.token ≡ false
    → core n b c a (p ∷ ts) ≡ by.expression_item (expression n) b (items_from n (expression n) b) a c (p ∷ ts)
other_core n b true a p ts e = go p.token e
  where
    go : (k : Token) → is_word k ≡ false
        → by.rest_item_by (expression n) b (items_from n (expression n) b) a k p.line ts (p ∷ ts)
        ≡ by.expression_item (expression n) b (items_from n (expression n) b) a true (p ∷ ts)
    go (t.word x) e = cc
    go _ e = refl
other_core n b false a p ts e = go p.token e
  where
    go : (k : Token) → is_word k ≡ false
        → by.plain_item_by (expression n) b (items_from n (expression n) b) a k p.line ts (p ∷ ts)
        ≡ by.expression_item (expression n) b (items_from n (expression n) b) a false (p ∷ ts)
    go (t.word x) e = cc
    go _ e = refl

abbrev bare_allowed : Bool → Allowed → Allowed
bare_allowed true a = by.rest_allowed a
bare_allowed false a = a

abbrev bare_made : Bool → Text → ℕ → FoundItems → FoundItems
bare_made true x line f = by.with_rest x line f
bare_made false x line f = by.with_required x line f

word_core : (n : ℕ) (b c : Bool) (a : Allowed) (line : ℕ) (x : Text) (ts : List Placed) (d : Bool) → by.ends_item ts ≡ d
    → core n b c a (at line (t.word x) ∷ ts)
    ≡ by.bare_or_not d (by.and_items (items_from n (expression n) b) (bare_allowed c a) (bare_made c x line))
    (by.expression_item (expression n) b (items_from n (expression n) b) a c) ts (at line (t.word x) ∷ ts)
word_core n b true a line x ts d e =
    ap (λ z. by.bare_or_not z (by.and_items (items_from n (expression n) b) (by.rest_allowed a) (by.with_rest x line))
    (by.expression_item (expression n) b (items_from n (expression n) b) a true) ts (at line (t.word x) ∷ ts)) e
word_core n b false a line x ts d e =
    ap (λ z. by.bare_or_not z (by.and_items (items_from n (expression n) b) a (by.with_required x line))
    (by.expression_item (expression n) b (items_from n (expression n) b) a false) ts (at line (t.word x) ∷ ts)) e

as_expression : {n : ℕ} {b : Bool} (c : Bool) {e : Expr} {a : Allowed} {ts us : List Placed} → (g : Got n b 0 e ts us) → a.as_list ≡ true
    → core n b c a ts ≡ by.expression_item (expression n) b (items_from n (expression n) b) a c ts → ItemGot n b c e a ts us
as_expression {n} {b} true {e} {a} {ts} {us} g h r =
    record {
      behind = by.list_alone a;
      nodes = g.nodes;
      made = by.with_expression true (of e g.line g.nodes);
      listed = h;
      low = g.low;
      reads = r ∙ ap (λ z. and_then z (λ e us. by.and_items (items_from n (expression n) b) (by.list_alone a) (by.with_expression true e) us)) g.reads;
      tree = λ f. refl;
      all_nodes = λ f. refl;
      allowed = λ f. refl;
    }
as_expression {n} {b} false {e} {a} {ts} {us} g h r =
    record {
      behind = by.list_alone a;
      nodes = g.nodes;
      made = by.with_expression false (of e g.line g.nodes);
      listed = h;
      low = g.low;
      reads = r ∙ ap (λ z. and_then z (λ e us. by.and_items (items_from n (expression n) b) (by.list_alone a) (by.with_expression false e) us)) g.reads;
      tree = λ f. refl;
      all_nodes = λ f. refl;
      allowed = λ f. refl;
    }

as_word : (n : ℕ) (b c : Bool) (a : Allowed) (line : ℕ) (x : Text) (ts : List Placed) → a.as_list ≡ true → by.ends_item ts ≡ true
    → ItemGot n b c (variable (fold_case x)) a (at line (t.word x) ∷ ts) ts
as_word n b true a line x ts h e =
    record {
      behind = by.rest_allowed a;
      nodes = under line [];
      made = by.with_rest x line;
      listed = h;
      low = refl;
      reads = word_core n b true a line x ts true e;
      tree = λ f. refl;
      all_nodes = λ f. refl;
      allowed = λ f. refl;
    }
as_word n b false a line x ts h e =
    record {
      behind = a;
      nodes = under line [];
      made = by.with_required x line;
      listed = h;
      low = refl;
      reads = word_core n b false a line x ts true e;
      tree = λ f. refl;
      all_nodes = λ f. refl;
      allowed = λ f. refl;
    }

item_read : {n : ℕ} {b : Bool} (c : Bool) {e : Expr} {a : Allowed} {us : List Placed} (ts : List Placed) → Got n b 0 e ts us → Begins ts → Enough n ts
    → a.as_list ≡ true → ItemGot n b c e a ts us
item_read {n} {b} c {e} {a} {us} _ g (begins p ts d) i h = go p.token refl
  where
    other : is_word p.token ≡ false → ItemGot n b c e a (p ∷ ts) us
    other k = as_expression c g h (other_core n b c a p ts k)

    worded : (x : Text) → (q : Placed) → q ≡ at p.line (t.word x) → Got n b 0 e (q ∷ ts) us → Enough n (q ∷ ts) → (z : Bool) → by.ends_item ts ≡ z
        → ItemGot n b c e a (at p.line (t.word x) ∷ ts) us
    worded x q f r j z y = by_end (subst (λ u. Got n b 0 e (u ∷ ts) us) f r) (subst (λ u. Enough n (u ∷ ts)) f j) z y
      where
        by_end : Got n b 0 e (at p.line (t.word x) ∷ ts) us → Enough n (at p.line (t.word x) ∷ ts) → (z : Bool) → by.ends_item ts ≡ z
            → ItemGot n b c e a (at p.line (t.word x) ∷ ts) us
        by_end r j true y =
            let w = word_got n b p.line x ts j y in
            subst (λ u. ItemGot n b c u a (at p.line (t.word x) ∷ ts) us) (sym (same_tree r w))
            (subst (λ u. ItemGot n b c (variable (fold_case x)) a (at p.line (t.word x) ∷ ts) u) (sym (same_rest r w)) (as_word n b c a p.line x ts h y))
        by_end r j false y = as_expression c r h (word_core n b c a p.line x ts false y)

    go : (k : Token) → p.token ≡ k → ItemGot n b c e a (p ∷ ts) us
    go (t.word x) f =
        let same : p ≡ at p.line (t.word x) = ap (λ k. at p.line k) f in
        subst (λ u. ItemGot n b c e a (u ∷ ts) us) (sym same) (worded x p same g i (by.ends_item ts) refl)
    go (t.keyword k) f = other (ap is_word f)
    go (t.error_name k) f = other (ap is_word f)
    go (t.integer k) f = other (ap is_word f)
    go (t.object m k) f = other (ap is_word f)
    go (t.string k) f = other (ap is_word f)
    go (t.sign k) f = other (ap is_word f)
    go (t.bad k) f = other (ap is_word f)

-- ---- items up to the closing brace

record ListGot (n : ℕ) (b : Bool) (es : Arguments) (a : Allowed) (ts us : List Placed) : Type 0 where
  found : FoundItems
  reads : items_from n (expression n) b a ts ≡ got found us
  tree : found.arguments ≡ es
  low : Within (arguments_height es) found.argument_nodes
  listed : found.allowed.as_list ≡ true
  some : begins_with t.close_brace ts ≡ false

abbrev closing : Allowed → List Placed → Read FoundItems
closing a us = past_sign t.close_brace us (got (by.no_more a))

record FurtherList (n : ℕ) (b : Bool) (es : Arguments) (a : Allowed) (ts us : List Placed) : Type 0 where
  found : FoundItems
  reads : if_sign t.comma (items_from n (expression n) b a) (closing a) ts ≡ got found us
  tree : found.arguments ≡ es
  low : Within (arguments_height es) found.argument_nodes
  listed : found.allowed.as_list ≡ true

-- the first item, where a list is possible
pub listed_first : (n : ℕ) (b : Bool) (a : Allowed) (ts : List Placed) → Enough n ts → a.as_list ≡ true
    → items_from n (expression n) b a ts ≡ by.item_of_either (expression n) b (items_from n (expression n) b) a ts
listed_first n b a ts i h = items_again n b a ts (plain ts i) ∙ ap (λ c. by.item_by c (expression n) b (items_from n (expression n) b) a ts) h

plain_first : (n : ℕ) (b : Bool) (a : Allowed) (ts : List Placed) → Enough n ts → a.as_list ≡ true → Begins ts
    → items_from n (expression n) b a ts ≡ core n b false a ts
plain_first n b a ts i h s =
    listed_first n b a ts i h
    ∙ sign_absent t.question (λ us. by.bare_or_not a.as_scatter (by.optional_item (expression n) b (items_from n (expression n) b) a) stuck us ts)
    (λ us. if_sign t.at_sign (core n b true a) (core n b false a) us) ts (not_question s)
    ∙ sign_absent t.at_sign (core n b true a) (core n b false a) ts (not_at s)

spliced_first : (n : ℕ) (b : Bool) (a : Allowed) (line : ℕ) (ts : List Placed) → Enough n (at line (t.sign t.at_sign) ∷ ts) → a.as_list ≡ true
    → items_from n (expression n) b a (at line (t.sign t.at_sign) ∷ ts) ≡ core n b true a ts
spliced_first n b a line ts i h = listed_first n b a (at line (t.sign t.at_sign) ∷ ts) i h

-- an item and those behind it
joined_found : {n : ℕ} {b : Bool} (c : Bool) {e : Expr} {more : Arguments} {a : Allowed} {ts vs us : List Placed}
    → (g : ItemGot n b c e a ts vs) → (m : FurtherList n b more g.behind vs us) → core n b c a ts ≡ got (g.made m.found) us
joined_found c g m = g.reads ∙ ap (λ r. and_then r (λ f us. got (g.made f) us)) m.reads

both_low : {n : ℕ} {b : Bool} (c : Bool) {e : Expr} {more : Arguments} {a : Allowed} {ts vs us : List Placed}
    → (g : ItemGot n b c e a ts vs) → (m : FurtherList n b more g.behind vs us)
    → Within (arguments_height (argument e more)) (g.made m.found).argument_nodes
both_low c {e} {more} g m =
    subst (λ ns. Within (arguments_height (argument e more)) ns) (sym (g.all_nodes m.found))
    (of_two (expr_height e) (arguments_height more) g.nodes m.found.argument_nodes g.low m.low)

plain_joined : {n : ℕ} {b : Bool} {e : Expr} {more : Arguments} {a : Allowed} {ts vs us : List Placed}
    → Begins ts → Enough n ts → a.as_list ≡ true → (g : ItemGot n b false e a ts vs) → FurtherList n b more g.behind vs us → ListGot n b (argument e more) a ts us
plain_joined {n} {b} {e} {more} {a} {ts} s i h g m =
    record {
      found = g.made m.found;
      reads = plain_first n b a ts i h s ∙ joined_found false g m;
      tree = g.tree m.found ∙ ap (argument e) m.tree;
      low = both_low false g m;
      listed = ap (λ z. z.as_list) (g.allowed m.found) ∙ m.listed;
      some = not_brace s;
    }

spliced_joined : {n : ℕ} {b : Bool} {e : Expr} {more : Arguments} {a : Allowed} {ts vs us : List Placed} (line : ℕ)
    → Enough n (at line (t.sign t.at_sign) ∷ ts) → a.as_list ≡ true → (g : ItemGot n b true e a ts vs) → FurtherList n b more g.behind vs us
    → ListGot n b (splice e more) a (at line (t.sign t.at_sign) ∷ ts) us
spliced_joined {n} {b} {e} {more} {a} {ts} line i h g m =
    record {
      found = g.made m.found;
      reads = spliced_first n b a line ts i h ∙ joined_found true g m;
      tree = g.tree m.found ∙ ap (splice e) m.tree;
      low = both_low true g m;
      listed = ap (λ z. z.as_list) (g.allowed m.found) ∙ m.listed;
      some = refl;
    }

after_comma : {n : ℕ} {b : Bool} {es : Arguments} {a : Allowed} {ts us : List Placed} (line : ℕ)
    → ListGot n b es a ts us → FurtherList n b es a (at line (t.sign t.comma) ∷ ts) us
after_comma line g = record { found = g.found; reads = g.reads; tree = g.tree; low = g.low; listed = g.listed }

-- what stands behind an item
record Following (vs : List Placed) : Type 0 where
  loose : Loose vs
  stops : Stops 0 vs

following : (more : Arguments) (m : ℕ) (vs us : List Placed) → Laid (further_arguments more) vs (at m (t.sign t.close_brace) ∷ us) → Following vs
following no_arguments m vs us none = record { loose = refl; stops = refl }
following (argument e more) m vs us (next line l) = record { loose = refl; stops = refl }
following (splice e more) m vs us (next line l) = record { loose = refl; stops = refl }

abbrev Others : ℕ → Bool → Arguments → List Placed → Type 0
Others n b more us =
    (a : Allowed) (vs : List Placed) → a.as_list ≡ true → Laid (further_arguments more ++ t.sign t.close_brace ∷ []) vs us → Enough n vs → FurtherList n b more a vs us

plain_cut : (e : Expr) (more : Arguments) → Back e → (n : ℕ) (b : Bool) (a : Allowed) (m : ℕ) (ts us : List Placed) → IsTrue (expr_fits b e)
    → Others n b more us → a.as_list ≡ true → Enough n ts
    → Cut (expression_tokens e) (further_arguments more) ts (at m (t.sign t.close_brace) ∷ us) → ListGot n b (argument e more) a ts us
plain_cut e more r n b a m ts us h k al i (cut vs l x) =
    let d = following more m vs us x in
    let g = whole_back r n b ts vs h l i d.loose d.stops in
    let s = starts ts g i in
    let q = item_read false ts g s i al in
    plain_joined s i al q (k q.behind vs q.listed (laid_on x (next m none)) (later l i))

spliced_cut : (e : Expr) (more : Arguments) → Back e → (n : ℕ) (b : Bool) (a : Allowed) (m line : ℕ) (ts us : List Placed) → IsTrue (expr_fits b e)
    → Others n b more us → a.as_list ≡ true → Enough n (at line (t.sign t.at_sign) ∷ ts)
    → Cut (expression_tokens e) (further_arguments more) ts (at m (t.sign t.close_brace) ∷ us) → ListGot n b (splice e more) a (at line (t.sign t.at_sign) ∷ ts) us
spliced_cut e more r n b a m line ts us h k al i (cut vs l x) =
    let d = following more m vs us x in
    let j = tail (at line (t.sign t.at_sign)) ts i in
    let g = whole_back r n b ts vs h l j d.loose d.stops in
    let s = starts ts g j in
    let q = item_read true ts g s j al in
    spliced_joined line i al q (k q.behind vs q.listed (laid_on x (next m none)) (later l j))

plain_laid : (e : Expr) (more : Arguments) → Back e → (n : ℕ) (b : Bool) (a : Allowed) (ts us : List Placed) → IsTrue (expr_fits b e)
    → Others n b more us → a.as_list ≡ true → Enough n ts → Laid ((expression_tokens e ++ further_arguments more) ++ t.sign t.close_brace ∷ []) ts us
    → ListGot n b (argument e more) a ts us
plain_laid e more r n b a ts us h k al i l = go (split (expression_tokens e ++ further_arguments more) (t.sign t.close_brace ∷ []) l)
  where
    go : Cut (expression_tokens e ++ further_arguments more) (t.sign t.close_brace ∷ []) ts us → ListGot n b (argument e more) a ts us
    go (cut _ x (next m none)) = plain_cut e more r n b a m ts us h k al i (split (expression_tokens e) (further_arguments more) x)

spliced_laid : (e : Expr) (more : Arguments) → Back e → (n : ℕ) (b : Bool) (a : Allowed) (line : ℕ) (ts us : List Placed) → IsTrue (expr_fits b e)
    → Others n b more us → a.as_list ≡ true → Enough n (at line (t.sign t.at_sign) ∷ ts)
    → Laid ((expression_tokens e ++ further_arguments more) ++ t.sign t.close_brace ∷ []) ts us
    → ListGot n b (splice e more) a (at line (t.sign t.at_sign) ∷ ts) us
spliced_laid e more r n b a line ts us h k al i l = go (split (expression_tokens e ++ further_arguments more) (t.sign t.close_brace ∷ []) l)
  where
    go : Cut (expression_tokens e ++ further_arguments more) (t.sign t.close_brace ∷ []) ts us → ListGot n b (splice e more) a (at line (t.sign t.at_sign) ∷ ts) us
    go (cut _ x (next m none)) = spliced_cut e more r n b a m line ts us h k al i (split (expression_tokens e) (further_arguments more) x)

further_list : (more : Arguments) → Backs more → (n : ℕ) (b : Bool) (a : Allowed) (ts us : List Placed) → IsTrue (arguments_fit b more) → a.as_list ≡ true
    → Laid (further_arguments more ++ t.sign t.close_brace ∷ []) ts us → Enough n ts → FurtherList n b more a ts us
further_list no_arguments rs n b a ts us h al (next m none) i = record { found = by.no_more a; reads = refl; tree = refl; low = refl; listed = al }
further_list (argument e more) rs n b a ts us h al (next {ts = vs} line l) i =
    after_comma line
    (plain_laid e more rs.0 n b a vs us (first_holds (expr_fits b e) (arguments_fit b more) h)
    (λ c ws k x j. further_list more rs.1 n b c ws us (second_holds (expr_fits b e) (arguments_fit b more) h) k x j) al (tail (at line (t.sign t.comma)) vs i) l)
further_list (splice e more) rs n b a ts us h al (next line (next {ts = vs} m l)) i =
    after_comma line
    (spliced_laid e more rs.0 n b a m vs us (first_holds (expr_fits b e) (arguments_fit b more) h)
    (λ c ws k x j. further_list more rs.1 n b c ws us (second_holds (expr_fits b e) (arguments_fit b more) h) k x j) al
    (tail (at line (t.sign t.comma)) (at m (t.sign t.at_sign) ∷ vs) i) l)

-- ---- in braces

not_surely : (s c : Bool) (f : FoundItems) → c ≡ true
    → by.is_surely_scatter (if s then (if c then by.perhaps_scatter f.items f.default_nodes else by.surely_scatter f.items f.default_nodes) else by.no_braces) ≡ false
not_surely true true f e = refl
not_surely true false f e = cc
not_surely false c f e = refl

braces_read : {n : ℕ} {b : Bool} {k : ℕ} {es : Arguments} {ts us : List Placed} (line : ℕ)
    → ListGot n b es (all_allowed k) ts us → Post n b k (listing es) (at line (t.sign t.open_brace) ∷ ts) us
braces_read {n} {b} {k} {es} {ts} {us} line g =
    record {
      line = line;
      nodes = under line g.found.argument_nodes;
      target = None;
      ranged = false;
      braces = by.braces_of g.found;
      low = one_higher (arguments_height es) line g.found.argument_nodes g.low;
      sure = not_surely g.found.allowed.as_scatter g.found.allowed.as_list g.found g.listed;
      reads =
          ap (λ r. by.with_steps n (expression n) b r)
          (sign_absent t.close_brace (got (by.whole (by.found_at line (listing no_arguments) []))) some ts g.some
          ∙ ap (λ r. and_then r (λ f vs. got (by.braces_found line f) vs)) g.reads)
          ∙ ap (λ x. steps n (expression n) b (record { found = of (listing x) line (under line g.found.argument_nodes); target = None; ranged = false; braces = by.braces_of g.found }) us) g.tree;
    }
  where
    some : List Placed → Read Operand
    some us = and_then (items_from n (expression n) b (all_allowed k) us) (λ f vs. got (by.braces_found line f) vs)

empty_read : (n : ℕ) (b : Bool) (k line m : ℕ) (us : List Placed)
    → Post n b k (listing no_arguments) (at line (t.sign t.open_brace) ∷ at m (t.sign t.close_brace) ∷ us) us
empty_read n b k line m us =
    record { line = line; nodes = under line []; target = None; ranged = false; braces = by.no_braces; low = refl; sure = refl; reads = refl }

pub listing_back : (es : Arguments) → Backs es → Back (listing es)
listing_back no_arguments rs = operand_back go
  where
    go : (n : ℕ) (b : Bool) (k : ℕ) (ts us : List Placed) → IsTrue (arguments_fit b no_arguments)
        → Laid (between t.open_brace [] t.close_brace) ts us → Enough n ts → Free us → Post n b k (listing no_arguments) ts us
    go n b k ts us h (next line (next m none)) i fr = empty_read n b k line m us
listing_back (argument e more) rs = operand_back go
  where
    go : (n : ℕ) (b : Bool) (k : ℕ) (ts us : List Placed) → IsTrue (expr_fits b e && arguments_fit b more)
        → Laid (between t.open_brace (expression_tokens e ++ further_arguments more) t.close_brace) ts us → Enough n ts → Free us
        → Post n b k (listing (argument e more)) ts us
    go n b k ts us h (next {ts = vs} line l) i fr =
        braces_read line
        (plain_laid e more rs.0 n b (all_allowed k) vs us (first_holds (expr_fits b e) (arguments_fit b more) h)
        (λ c ws q x j. further_list more rs.1 n b c ws us (second_holds (expr_fits b e) (arguments_fit b more) h) q x j) refl (tail (at line (t.sign t.open_brace)) vs i) l)
listing_back (splice e more) rs = operand_back go
  where
    go : (n : ℕ) (b : Bool) (k : ℕ) (ts us : List Placed) → IsTrue (expr_fits b e && arguments_fit b more)
        → Laid (between t.open_brace (t.sign t.at_sign ∷ (expression_tokens e ++ further_arguments more)) t.close_brace) ts us → Enough n ts → Free us
        → Post n b k (listing (splice e more)) ts us
    go n b k ts us h (next line (next {ts = vs} m l)) i fr =
        braces_read line
        (spliced_laid e more rs.0 n b (all_allowed k) m vs us (first_holds (expr_fits b e) (arguments_fit b more) h)
        (λ c ws q x j. further_list more rs.1 n b c ws us (second_holds (expr_fits b e) (arguments_fit b more) h) q x j) refl
        (tail (at line (t.sign t.open_brace)) (at m (t.sign t.at_sign) ∷ vs) i) l)
