-- Numbers that are great enough read an expression alike, and what is left is a shorter end.
use Rattle.std.proofs.Common.{ℕ, zero, suc, ◌<◌, Bool, true, false, List, [], ◌∷◌, ◌++◌, length, arith, Option, Some, None}
use Rattle.std.specs.Prelude.{◌==◌, nat_le}
use Rattle.spec_value.specs.Datum as value
use Rattle.spec_value.specs.Datum.{Text, fold_case}
use Rattle.spec_value.specs.Operators.{UnaryOperator, negation, not_true}
use Rattle.spec_program.specs.Tree.{Expr, literal, variable, own_length, unary, binary, both, either, conditional, listing, call, verb_call, assignment, scatter, no_arguments, any_code, codes_in, the_code, instead, Target, to_variable, Items}
use Rattle.spec_program.specs.Spelling.{operator_level, right_level}
use Rattle.spec_program.specs.Tokens as t
use Rattle.spec_program.specs.Tokens.{Sign, Token, Placed}
use Rattle.spec_program.specs.Reading.{Read, Node}
use Rattle.spec_program.specs.ReadExpressions as by
use Rattle.spec_program.specs.ReadExpressions.{ReadsExpression, Found, FoundArguments, Operand, Braces, Allowed, FoundItems, ReadsItems, Joint, Continues, some_arguments, steps, items_from, operators, expression}
use Rattle.spec_program.specs.Remaining.{Ends, all, past, Behind, behind, Both, EnoughForExpression, ExpressionConsumes, EnoughForArguments, EnoughForSteps, EnoughForItems, EnoughForOperators, PartsConsume}
use Rattle.spec_program.proofs.Alike.{on, strictly, and_strictly, weakly, fewer, Alike, stuck, found, sticks, same, consumes, leaves, weak, further, next, then, perhaps_then, if_there, if_word_there, beyond, beyond_name, if_there_back, tail_of, Good, later, inner, reading}

-- ---- arguments

pub further_ones_alike : {f g : List Placed → Read FoundArguments} (ts : List Placed)
    → ((us : List Placed) → Behind us ts → Alike true us (f us) (g us)) → Alike false ts (by.further_ones f ts) (by.further_ones g ts)
further_ones_alike ts h = if_there t.comma ts h (λ us e. found by.none_found)

pub one_argument_alike : {n m : ℕ} {f g : ReadsExpression} {more less : List Placed → Read FoundArguments} (b c : Bool) (ts : List Placed)
    → Good n m f g ts → ((us : List Placed) → Behind us ts → Alike true us (more us) (less us))
    → Alike true ts (by.one_argument f b more c ts) (by.one_argument g b less c ts)
one_argument_alike b c ts k h =
    then (reading k b 0) (λ e us d. perhaps_then (further_ones_alike us (λ vs i. h vs (strictly (weakly i) d))) (λ es vs i. found (by.with_argument c e es)))

pub some_arguments_alike : (n m : ℕ) {f g : ReadsExpression} (b : Bool) (ts : List Placed)
    → Good n m f g ts → Alike true ts (by.some_arguments n f b ts) (by.some_arguments m g b ts)
unfolding some_arguments
some_arguments_alike zero m b ts k = let l = k.first in absurd (omega (arith, l))
some_arguments_alike (suc n) zero b ts k = let l = k.second in absurd (omega (arith, l))
some_arguments_alike (suc n) (suc m) b ts k =
    if_there t.at_sign ts
    (λ us d. one_argument_alike b true us (later (weakly d) k) (λ vs e. some_arguments_alike n m b vs (inner (strictly (weakly e) d) k)))
    (λ us d. one_argument_alike b false us (later d k) (λ vs e. some_arguments_alike n m b vs (inner (and_strictly e d) k)))

pub arguments_to_alike : {n m : ℕ} {f g : ReadsExpression} (s : Sign) (b : Bool) (ts : List Placed)
    → Good n m f g ts → Alike true ts (by.arguments_to s n f b ts) (by.arguments_to s m g b ts)
arguments_to_alike {n} {m} s b ts k =
    if_there s ts (λ us d. found by.none_found) (λ us d. then (some_arguments_alike n m b us (later d k)) (λ es vs e. beyond s vs (λ ws i. found es)))

-- ---- names, and what stands in parentheses

pub in_parentheses_alike : {n m : ℕ} {f g : ReadsExpression} (b : Bool) (line : ℕ) (ts : List Placed)
    → Good n m f g ts → Alike true ts (by.in_parentheses f b line ts) (by.in_parentheses g b line ts)
in_parentheses_alike b line ts k = then (reading k b 0) (λ e us d. beyond t.close_parenthesis us (λ vs i. found (record e { line = line })))

name_sign_alike : {n m : ℕ} {f g : ReadsExpression} (b : Bool) (s : Sign) (line : ℕ) (p : Placed) (ts : List Placed)
    → Good n m f g ts → Alike true (p ∷ ts) (by.name_by f b (t.sign s) line ts (p ∷ ts)) (by.name_by g b (t.sign s) line ts (p ∷ ts))
name_sign_alike b t.open_parenthesis line p ts k = next p (in_parentheses_alike b line ts k)
name_sign_alike b _ line p ts k = sticks

name_by_alike : {n m : ℕ} {f g : ReadsExpression} (b : Bool) (u : Token) (line : ℕ) (p : Placed) (ts : List Placed)
    → Good n m f g ts → Alike true (p ∷ ts) (by.name_by f b u line ts (p ∷ ts)) (by.name_by g b u line ts (p ∷ ts))
name_by_alike b (t.word x) line p ts k = next p (found (by.found_at line (literal (value.text x)) []))
name_by_alike b (t.sign s) line p ts k = name_sign_alike b s line p ts k
name_by_alike b _ line p ts k = sticks

pub name_alike : {n m : ℕ} {f g : ReadsExpression} (b : Bool) (ts : List Placed) → Good n m f g ts → Alike true ts (by.name f b ts) (by.name g b ts)
name_alike b [] k = sticks
name_alike b (p ∷ ts) k = name_by_alike b p.token p.line p ts (later (past p all) k)

-- ---- steps behind an operand

pub verb_of_alike : {n m : ℕ} {f g : ReadsExpression} (b : Bool) (o v : Found) (ts : List Placed)
    → Good n m f g ts → Alike true ts (by.verb_of n f b o v ts) (by.verb_of m g b o v ts)
verb_of_alike b o v ts k =
    beyond t.open_parenthesis ts (λ us d. then (arguments_to_alike t.close_parenthesis b us (later (weakly d) k)) (λ es vs e. found (by.whole (by.found_at o.line (verb_call o.tree v.tree es.tree) (o.nodes ++ (v.nodes ++ es.nodes))))))

in_brackets_alike : {n m : ℕ} {f g : ReadsExpression} {more less : Operand → List Placed → Read Operand} (o : Operand) (ts : List Placed)
    → Good n m f g ts → ((q : Operand) (us : List Placed) → Behind us ts → Alike false us (more q us) (less q us))
    → Alike true ts (by.in_brackets f o more ts) (by.in_brackets g o less ts)
in_brackets_alike o ts k h =
    then (reading k true 0) (λ i us d.
    if_there t.double_dot us
    (λ vs e. then (reading (later (weakly (strictly (weakly e) d)) k) true 0) (λ j ws c.
    beyond t.close_bracket ws (λ xs a. h (by.range_of o i j) xs (strictly (on (weakly a) (on (weakly c) (weakly e))) d))))
    (λ vs e. beyond t.close_bracket vs (λ ws a. h (by.index_of o i) ws (strictly (on (weakly a) e) d))))

step_sign_alike : {n m : ℕ} {f g : ReadsExpression} {more less : Operand → List Placed → Read Operand} (b : Bool) (o : Operand) (s : Sign) (p : Placed) (ts : List Placed)
    → Good n m f g ts → ((q : Operand) (us : List Placed) → Ends us ts → Alike false us (more q us) (less q us))
    → Alike false (p ∷ ts) (by.step_after n f b more o (t.sign s) ts (p ∷ ts)) (by.step_after m g b less o (t.sign s) ts (p ∷ ts))
step_sign_alike b o t.dot p ts k h = weak (next p (then (name_alike b ts k) (λ x us d. h (by.property_of o.found x) us (weakly d))))
step_sign_alike b o t.colon p ts k h =
    weak (next p (then (name_alike b ts k) (λ v us d. then (verb_of_alike b o.found v us (later (weakly d) k)) (λ q vs e. h q vs (on (weakly e) (weakly d))))))
step_sign_alike b o t.open_bracket p ts k h = weak (next p (in_brackets_alike o ts k (λ q us d. h q us (weakly d))))
step_sign_alike b o _ p ts k h = found o

step_after_alike : {n m : ℕ} {f g : ReadsExpression} {more less : Operand → List Placed → Read Operand} (b : Bool) (o : Operand) (u : Token) (p : Placed) (ts : List Placed)
    → Good n m f g ts → ((q : Operand) (us : List Placed) → Ends us ts → Alike false us (more q us) (less q us))
    → Alike false (p ∷ ts) (by.step_after n f b more o u ts (p ∷ ts)) (by.step_after m g b less o u ts (p ∷ ts))
step_after_alike b o (t.sign s) p ts k h = step_sign_alike b o s p ts k h
step_after_alike b o _ p ts k h = found o

steps_unless_alike : {n m : ℕ} {f g : ReadsExpression} {more less : Operand → List Placed → Read Operand} (c b : Bool) (o : Operand) (ts : List Placed)
    → Good (suc n) (suc m) f g ts → ((q : Operand) (us : List Placed) → Behind us ts → Alike false us (more q us) (less q us))
    → Alike false ts (by.steps_unless c n f b more o ts) (by.steps_unless c m g b less o ts)
steps_unless_alike true b o ts k h = found o
steps_unless_alike false b o [] k h = found o
steps_unless_alike false b o (p ∷ ts) k h = step_after_alike b o p.token p ts (inner (behind p all) k) (λ q us e. h q us (behind p e))

pub steps_alike : (n m : ℕ) {f g : ReadsExpression} (b : Bool) (o : Operand) (ts : List Placed)
    → Good n m f g ts → Alike false ts (by.steps n f b o ts) (by.steps m g b o ts)
unfolding steps
steps_alike zero m b o ts k = let l = k.first in absurd (omega (arith, l))
steps_alike (suc n) zero b o ts k = let l = k.second in absurd (omega (arith, l))
steps_alike (suc n) (suc m) b o ts k = steps_unless_alike (by.is_surely_scatter o.braces) b o ts k (λ q us d. steps_alike n m b q us (inner d k))

-- ---- braces

abbrev MoreItems : ReadsItems → ReadsItems → List Placed → Type 0
MoreItems f g ts = (a : Allowed) (us : List Placed) → Behind us ts → Alike true us (f a us) (g a us)

later_items : {f g : ReadsItems} {us ts : List Placed} → Ends us ts → MoreItems f g ts → MoreItems f g us
later_items e h a vs d = h a vs (and_strictly d e)

and_items_alike : {f g : ReadsItems} (a : Allowed) (with : FoundItems → FoundItems) (ts : List Placed)
    → MoreItems f g ts → Alike true ts (by.and_items f a with ts) (by.and_items g a with ts)
and_items_alike a with ts h = then (if_there t.comma ts (λ us d. h a us d) (λ us d. beyond t.close_brace us (λ vs e. found (by.no_more a)))) (λ x us d. found (with x))

expression_item_alike : {n m : ℕ} {f g : ReadsExpression} {more less : ReadsItems} (b c : Bool) (a : Allowed) (ts : List Placed)
    → Good n m f g ts → MoreItems more less ts → Alike true ts (by.expression_item f b more a c ts) (by.expression_item g b less a c ts)
expression_item_alike b c a ts k h =
    then (reading k b 0) (λ e us d. and_items_alike (by.list_alone a) (by.with_expression c e) us (later_items (weakly d) h))

optional_item_alike : {n m : ℕ} {f g : ReadsExpression} {more less : ReadsItems} (b : Bool) (a : Allowed) (ts : List Placed)
    → Good n m f g ts → MoreItems more less ts → Alike true ts (by.optional_item f b more a ts) (by.optional_item g b less a ts)
optional_item_alike b a ts k h =
    beyond_name ts (λ x l us d.
    if_there t.assign us
    (λ vs e. then (reading (later (weakly (strictly (weakly e) d)) k) b 0) (λ i ws c.
    and_items_alike (by.scatter_alone a) (by.with_default x i) ws (later_items (on (weakly c) (on (weakly e) (weakly d))) h)))
    (λ vs e. and_items_alike (by.scatter_alone a) (by.with_optional x) vs (later_items (on e (weakly d)) h)))

bare_alike : {s : Bool} (f g h i : List Placed → Read FoundItems) (c : Bool) (us ts : List Placed)
    → Behind us ts → Alike s us (f us) (g us) → Alike true ts (h ts) (i ts) → Alike true ts (by.bare_or_not c f h us ts) (by.bare_or_not c g i us ts)
bare_alike f g h i true us ts d there absent = further d there
bare_alike f g h i false us ts d there absent = absent

plain_item_by_alike : {n m : ℕ} {f g : ReadsExpression} {more less : ReadsItems} (b : Bool) (a : Allowed) (u : Token) (line : ℕ) (p : Placed) (ts : List Placed)
    → Good n m f g (p ∷ ts) → MoreItems more less (p ∷ ts)
    → Alike true (p ∷ ts) (by.plain_item_by f b more a u line ts (p ∷ ts)) (by.plain_item_by g b less a u line ts (p ∷ ts))
plain_item_by_alike b a (t.word x) line p ts k h =
    bare_alike _ _ _ _ (by.ends_item ts) ts (p ∷ ts) (behind p all) (and_items_alike a (by.with_required x line) ts (later_items (past p all) h)) (expression_item_alike b false a (p ∷ ts) k h)
plain_item_by_alike b a _ line p ts k h = expression_item_alike b false a (p ∷ ts) k h

plain_item_alike : {n m : ℕ} {f g : ReadsExpression} {more less : ReadsItems} (b : Bool) (a : Allowed) (ts : List Placed)
    → Good n m f g ts → MoreItems more less ts → Alike true ts (by.plain_item f b more a ts) (by.plain_item g b less a ts)
plain_item_alike b a [] k h = sticks
plain_item_alike b a (p ∷ ts) k h = plain_item_by_alike b a p.token p.line p ts k h

rest_item_by_alike : {n m : ℕ} {f g : ReadsExpression} {more less : ReadsItems} (b : Bool) (a : Allowed) (u : Token) (line : ℕ) (p : Placed) (ts : List Placed)
    → Good n m f g (p ∷ ts) → MoreItems more less (p ∷ ts)
    → Alike true (p ∷ ts) (by.rest_item_by f b more a u line ts (p ∷ ts)) (by.rest_item_by g b less a u line ts (p ∷ ts))
rest_item_by_alike b a (t.word x) line p ts k h =
    bare_alike _ _ _ _ (by.ends_item ts) ts (p ∷ ts) (behind p all) (and_items_alike (by.rest_allowed a) (by.with_rest x line) ts (later_items (past p all) h)) (expression_item_alike b true a (p ∷ ts) k h)
rest_item_by_alike b a _ line p ts k h = expression_item_alike b true a (p ∷ ts) k h

rest_item_alike : {n m : ℕ} {f g : ReadsExpression} {more less : ReadsItems} (b : Bool) (a : Allowed) (ts : List Placed)
    → Good n m f g ts → MoreItems more less ts → Alike true ts (by.rest_item f b more a ts) (by.rest_item g b less a ts)
rest_item_alike b a [] k h = sticks
rest_item_alike b a (p ∷ ts) k h = rest_item_by_alike b a p.token p.line p ts k h

item_of_either_alike : {n m : ℕ} {f g : ReadsExpression} {more less : ReadsItems} (b : Bool) (a : Allowed) (ts : List Placed)
    → Good n m f g ts → MoreItems more less ts → Alike true ts (by.item_of_either f b more a ts) (by.item_of_either g b less a ts)
item_of_either_alike b a ts k h =
    if_there_back t.question ts
    (λ us d. bare_alike _ _ _ _ a.as_scatter us ts d (optional_item_alike b a us (later (weakly d) k) (later_items (weakly d) h)) sticks)
    (λ us d. if_there t.at_sign us
    (λ vs e. rest_item_alike b a vs (later (on (weakly e) d) k) (later_items (on (weakly e) d) h))
    (λ vs e. plain_item_alike b a vs (later (on e d) k) (later_items (on e d) h)))

scatter_rest_alike : {more less : ReadsItems} (a : Allowed) (c : Bool) (us ts : List Placed)
    → Behind us ts → MoreItems more less us → Alike true ts (by.scatter_rest more a c us ts) (by.scatter_rest less a c us ts)
scatter_rest_alike a true us ts d h = sticks
scatter_rest_alike a false us ts d h =
    further d (beyond_name us (λ x l vs e. and_items_alike (record a { has_rest = true }) (by.with_rest x l) vs (later_items (weakly e) h)))

item_of_scatter_alike : {n m : ℕ} {f g : ReadsExpression} {more less : ReadsItems} (b : Bool) (a : Allowed) (ts : List Placed)
    → Good n m f g ts → MoreItems more less ts → Alike true ts (by.item_of_scatter f b more a ts) (by.item_of_scatter g b less a ts)
item_of_scatter_alike b a ts k h =
    if_there t.question ts
    (λ us d. optional_item_alike b a us (later (weakly d) k) (later_items (weakly d) h))
    (λ us d. if_there_back t.at_sign us
    (λ vs e. scatter_rest_alike a a.has_rest vs us e (later_items (on (weakly e) d) h))
    (λ vs e. beyond_name vs (λ x l ws c. and_items_alike a (by.with_required x l) ws (later_items (on (weakly c) (on e d)) h))))

item_by_alike : {n m : ℕ} {f g : ReadsExpression} {more less : ReadsItems} (c b : Bool) (a : Allowed) (ts : List Placed)
    → Good n m f g ts → MoreItems more less ts → Alike true ts (by.item_by c f b more a ts) (by.item_by c g b less a ts)
item_by_alike true b a ts k h = item_of_either_alike b a ts k h
item_by_alike false b a ts k h = item_of_scatter_alike b a ts k h

pub items_from_alike : (n m : ℕ) {f g : ReadsExpression} (b : Bool) (a : Allowed) (ts : List Placed)
    → Good n m f g ts → Alike true ts (by.items_from n f b a ts) (by.items_from m g b a ts)
unfolding items_from
items_from_alike zero m b a ts k = let l = k.first in absurd (omega (arith, l))
items_from_alike (suc n) zero b a ts k = let l = k.second in absurd (omega (arith, l))
items_from_alike (suc n) (suc m) b a ts k = item_by_alike a.as_list b a ts k (λ q us d. items_from_alike n m b q us (inner d k))

pub in_braces_alike : {n m : ℕ} {f g : ReadsExpression} (b : Bool) (l line : ℕ) (ts : List Placed)
    → Good n m f g ts → Alike true ts (by.in_braces n f b l line ts) (by.in_braces m g b l line ts)
in_braces_alike {n} {m} b l line ts k =
    if_there t.close_brace ts (λ us d. found (by.whole (by.found_at line (listing no_arguments) []))) (λ us d. then (items_from_alike n m b (record { as_list = true; as_scatter = l == 0; has_rest = false }) us (later d k)) (λ x vs e. found (by.braces_found line x)))

-- ---- caught expressions

abbrev any_found : by.FoundCodes
any_found = record { tree = any_code; nodes = [] }

abbrev codes_found : FoundArguments → by.FoundCodes
codes_found es = record { tree = codes_in es.tree; nodes = es.nodes }

pub error_codes_alike : {n m : ℕ} {f g : ReadsExpression} (b : Bool) (ts : List Placed)
    → Good n m f g ts → Alike true ts (by.error_codes n f b ts) (by.error_codes m g b ts)
error_codes_alike {n} {m} b ts k =
    if_word_there t.any_word ts (λ us d. found any_found) (λ us d. then (some_arguments_alike n m b us (later d k)) (λ es vs e. found (codes_found es)))

in_backquotes_alike : {n m : ℕ} {f g : ReadsExpression} (b : Bool) (line : ℕ) (ts : List Placed)
    → Good n m f g ts → Alike true ts (by.in_backquotes n f b line ts) (by.in_backquotes m g b line ts)
in_backquotes_alike b line ts k =
    then (reading k b 0) (λ e us d. beyond t.not_sign us (λ vs i. then (error_codes_alike b vs (later (on (weakly i) (weakly d)) k)) (λ c ws j.
    if_there t.arrow ws
    (λ xs l. then (reading (later (on (weakly l) (on (weakly j) (on (weakly i) (weakly d)))) k) b 0) (λ x ys q. beyond t.quote ys (λ zs y. found (by.caught_with line e c (instead x.tree) x.nodes))))
    (λ xs l. beyond t.quote xs (λ zs y. found (by.caught_with line e c the_code []))))))

-- ---- what begins with a word or with `$`

word_first_alike : {n m : ℕ} {f g : ReadsExpression} (b : Bool) (x : Text) (line : ℕ) (ts : List Placed)
    → Good n m f g ts → Alike false ts (by.word_first n f b x line ts) (by.word_first m g b x line ts)
word_first_alike b x line ts k =
    if_there t.open_parenthesis ts
    (λ us d. then (arguments_to_alike t.close_parenthesis b us (later (weakly d) k)) (λ es vs e. found (by.whole (by.found_at line (call (fold_case x) es.tree) es.nodes))))
    (λ us d. found (by.assignable (by.found_at line (variable (fold_case x)) []) (to_variable (fold_case x))))

system_first_alike : {n m : ℕ} {f g : ReadsExpression} (b : Bool) (line : ℕ) (x : Found) (ts : List Placed)
    → Good n m f g ts → Alike false ts (by.system_first n f b line x ts) (by.system_first m g b line x ts)
system_first_alike b line x ts k = if_there_back t.open_parenthesis ts (λ us d. weak (verb_of_alike b (by.system_at line) x ts k)) (λ us d. found (by.property_of (by.system_at line) x))

dollar_alone_alike : (b : Bool) (line : ℕ) (ts : List Placed) → Alike false ts (by.dollar_alone b line ts) (by.dollar_alone b line ts)
dollar_alone_alike true line ts = found (by.whole (by.found_at line own_length []))
dollar_alone_alike false line ts = stuck ts all

dollar_by_alike : {n m : ℕ} {f g : ReadsExpression} (b : Bool) (line : ℕ) (u : Token) (at : ℕ) (p : Placed) (ts : List Placed)
    → Good n m f g ts → Alike false (p ∷ ts) (by.dollar_by n f b line u at ts (p ∷ ts)) (by.dollar_by m g b line u at ts (p ∷ ts))
dollar_by_alike b line (t.word x) at p ts k = weak (next p (system_first_alike b line (by.found_at at (literal (value.text x)) []) ts k))
dollar_by_alike b line _ at p ts k = dollar_alone_alike b line (p ∷ ts)

dollar_first_alike : {n m : ℕ} {f g : ReadsExpression} (b : Bool) (line : ℕ) (ts : List Placed)
    → Good n m f g ts → Alike false ts (by.dollar_first n f b line ts) (by.dollar_first m g b line ts)
dollar_first_alike b line [] k = dollar_alone_alike b line []
dollar_first_alike b line (p ∷ ts) k = dollar_by_alike b line p.token p.line p ts (later (past p all) k)

-- ---- operands

with_steps_alike : {n m : ℕ} {f g : ReadsExpression} {s : Bool} {x y : Read Operand} (b : Bool) (p : Placed) (ts : List Placed)
    → Good n m f g ts → Alike s ts x y → Alike true (p ∷ ts) (by.with_steps n f b x) (by.with_steps m g b y)
with_steps_alike {n} {m} b p ts k h = next p (perhaps_then (weak h) (λ o us e. steps_alike n m b o us (later e k)))

signed_alike : {n m : ℕ} {f g : ReadsExpression} (b : Bool) (u : UnaryOperator) (line : ℕ) (ts : List Placed)
    → Good n m f g ts → Alike true ts (by.signed f b u line ts) (by.signed g b u line ts)
signed_alike b u line ts k = then (reading k b 7) (λ e us d. found (by.whole (by.found_at line (unary u e.tree) e.nodes)))

operand_sign_alike : {n m : ℕ} {f g : ReadsExpression} (b : Bool) (l : ℕ) (s : Sign) (line : ℕ) (p : Placed) (ts : List Placed)
    → Good n m f g ts → Alike true (p ∷ ts) (by.operand_by n f b l (t.sign s) line ts (p ∷ ts)) (by.operand_by m g b l (t.sign s) line ts (p ∷ ts))
operand_sign_alike b l t.minus_sign line p ts k = next p (signed_alike b negation line ts k)
operand_sign_alike b l t.not_sign line p ts k = next p (signed_alike b not_true line ts k)
operand_sign_alike b l t.dollar line p ts k = with_steps_alike b p ts k (dollar_first_alike b line ts k)
operand_sign_alike b l t.open_parenthesis line p ts k = with_steps_alike b p ts k (then (in_parentheses_alike b line ts k) (λ e us d. found (by.whole e)))
operand_sign_alike b l t.open_brace line p ts k = with_steps_alike b p ts k (in_braces_alike b l line ts k)
operand_sign_alike b l t.backquote line p ts k = with_steps_alike b p ts k (in_backquotes_alike b line ts k)
operand_sign_alike b l _ line p ts k = sticks

operand_by_alike : {n m : ℕ} {f g : ReadsExpression} (b : Bool) (l : ℕ) (u : Token) (line : ℕ) (p : Placed) (ts : List Placed)
    → Good n m f g ts → Alike true (p ∷ ts) (by.operand_by n f b l u line ts (p ∷ ts)) (by.operand_by m g b l u line ts (p ∷ ts))
operand_by_alike b l (t.sign s) line p ts k = operand_sign_alike b l s line p ts k
operand_by_alike b l (t.integer i) line p ts k = with_steps_alike b p ts k (found (by.whole (by.found_at line (literal (value.integer (by.integer_value i))) [])))
operand_by_alike b l (t.object below i) line p ts k = with_steps_alike b p ts k (found (by.whole (by.found_at line (literal (value.object (by.object_value below i))) [])))
operand_by_alike b l (t.string x) line p ts k = with_steps_alike b p ts k (found (by.whole (by.found_at line (literal (value.text x)) [])))
operand_by_alike b l (t.error_name e) line p ts k = with_steps_alike b p ts k (found (by.whole (by.found_at line (literal (value.error e)) [])))
operand_by_alike b l (t.word x) line p ts k = with_steps_alike b p ts k (word_first_alike b x line ts k)
operand_by_alike b l _ line p ts k = sticks

-- ---- operators

abbrev MoreJoins : Continues → Continues → List Placed → Type 0
MoreJoins f g ts = (a : Found) (us : List Placed) → Behind us ts → Alike false us (f a us) (g a us)

joined_alike : {n m : ℕ} {f g : ReadsExpression} {more less : Continues} (b : Bool) (a : Found) (right : ℕ) (join : Expr → Expr → Expr) (ts : List Placed)
    → Good n m f g ts → MoreJoins more less ts → Alike true ts (by.joined f b more a right join ts) (by.joined g b less a right join ts)
joined_alike b a right join ts k h = then (reading k b right) (λ c us d. h (by.found_at a.line (join a.tree c.tree) (a.nodes ++ c.nodes)) us d)

chosen_between_alike : {n m : ℕ} {f g : ReadsExpression} {more less : Continues} (b : Bool) (c : Found) (ts : List Placed)
    → Good n m f g ts → MoreJoins more less ts → Alike true ts (by.chosen_between f b more c ts) (by.chosen_between g b less c ts)
chosen_between_alike b c ts k h =
    then (reading k b 0) (λ x us d. beyond t.bar us (λ vs e. then (reading (later (on (weakly e) (weakly d)) k) b 1) (λ y ws i.
    h (by.found_at c.line (conditional c.tree x.tree y.tree) (c.nodes ++ (x.nodes ++ y.nodes))) ws (strictly (on (weakly i) (weakly e)) d))))

if_tight_alike : {s : Bool} (f g h i : List Placed → Read Found) (c : Bool) (p : Placed) (ts : List Placed)
    → Alike s ts (f ts) (g ts) → Alike false (p ∷ ts) (h (p ∷ ts)) (i (p ∷ ts)) → Alike false (p ∷ ts) (by.if_tight c f h ts (p ∷ ts)) (by.if_tight c g i ts (p ∷ ts))
if_tight_alike f g h i true p ts there absent = weak (next p there)
if_tight_alike f g h i false p ts there absent = absent

join_by_alike : {n m : ℕ} {f g : ReadsExpression} {more less : Continues} (b : Bool) (l : ℕ) (a : Found) (j : Joint) (p : Placed) (ts : List Placed)
    → Good n m f g ts → MoreJoins more less ts → Alike false (p ∷ ts) (by.join_by f b more l a j ts (p ∷ ts)) (by.join_by g b less l a j ts (p ∷ ts))
join_by_alike b l a (by.operator o) p ts k h =
    if_tight_alike _ _ _ _ (nat_le l (operator_level o)) p ts (joined_alike b a (right_level o) (binary o) ts k h) (found a)
join_by_alike b l a by.and_joint p ts k h = if_tight_alike _ _ _ _ (nat_le l 2) p ts (joined_alike b a 3 both ts k h) (found a)
join_by_alike b l a by.or_joint p ts k h = if_tight_alike _ _ _ _ (nat_le l 2) p ts (joined_alike b a 3 either ts k h) (found a)
join_by_alike b l a by.question_joint p ts k h = if_tight_alike _ _ _ _ (nat_le l 1) p ts (chosen_between_alike b a ts k h) (found a)
join_by_alike b l a by.no_joint p ts k h = found a

join_next_alike : {n m : ℕ} {f g : ReadsExpression} {more less : Continues} (b : Bool) (l : ℕ) (a : Found) (ts : List Placed)
    → Good n m f g ts → MoreJoins more less ts → Alike false ts (by.join_next f b more l a ts) (by.join_next g b less l a ts)
join_next_alike b l a [] k h = found a
join_next_alike b l a (p ∷ ts) k h = join_by_alike b l a (by.joint p.token) p ts (later (past p all) k) (λ x us d. h x us (and_strictly d (past p all)))

pub operators_alike : (n m : ℕ) {f g : ReadsExpression} (b : Bool) (l : ℕ) (a : Found) (ts : List Placed)
    → Good n m f g ts → Alike false ts (by.operators n f b l a ts) (by.operators m g b l a ts)
unfolding operators
operators_alike zero m b l a ts k = let x = k.first in absurd (omega (arith, x))
operators_alike (suc n) zero b l a ts k = let x = k.second in absurd (omega (arith, x))
operators_alike (suc n) (suc m) b l a ts k = join_next_alike b l a ts k (λ x us d. operators_alike n m b l x us (inner d k))

-- ---- whole expressions

if_any_level_alike : {f g h i : List Placed → Read Found} (l : ℕ) (ts : List Placed)
    → ((us : List Placed) → Behind us ts → Alike true us (f us) (g us)) → ((us : List Placed) → Ends us ts → Alike false us (h us) (i us))
    → Alike false ts (by.if_any_level l f h ts) (by.if_any_level l g i ts)
if_any_level_alike zero ts there absent = if_there t.assign ts there absent
if_any_level_alike (suc l) ts there absent = absent ts all

assigned_alike : {n m : ℕ} {f g : ReadsExpression} (b : Bool) (a : Found) (x : Target) (ts : List Placed)
    → Good n m f g ts → Alike true ts (by.assigned f b a x ts) (by.assigned g b a x ts)
assigned_alike b a x ts k = then (reading k b 0) (λ e us d. found (by.found_at a.line (assignment x e.tree) (a.nodes ++ e.nodes)))

scattered_alike : {n m : ℕ} {f g : ReadsExpression} (b : Bool) (line : ℕ) (items : Items) (ns : List Node) (ts : List Placed)
    → Good n m f g ts → Alike true ts (by.scattered f b line items ns ts) (by.scattered g b line items ns ts)
scattered_alike b line items ns ts k = then (reading k b 0) (λ e us d. found (by.found_at line (scatter items e.tree) (ns ++ e.nodes)))

target_or_value_alike : {n m : ℕ} {f g : ReadsExpression} {h i : List Placed → Read Found} (b : Bool) (l : ℕ) (a : Found) (x : Option Target) (ts : List Placed)
    → Good n m f g ts → ((us : List Placed) → Ends us ts → Alike false us (h us) (i us))
    → Alike false ts (by.target_or_value f b l a x h ts) (by.target_or_value g b l a x i ts)
target_or_value_alike b l a None ts k absent = absent ts all
target_or_value_alike b l a (Some x) ts k absent = if_any_level_alike l ts (λ us d. assigned_alike b a x us (later (weakly d) k)) absent

braces_or_value_alike : {n m : ℕ} {f g : ReadsExpression} {h i : List Placed → Read Found} (b : Bool) (l : ℕ) (o : Operand) (x : Braces) (ts : List Placed)
    → Good n m f g ts → ((us : List Placed) → Ends us ts → Alike false us (h us) (i us))
    → Alike false ts (by.braces_or_value f b l o x h ts) (by.braces_or_value g b l o x i ts)
braces_or_value_alike b l o by.no_braces ts k absent = target_or_value_alike b l o.found o.target ts k absent
braces_or_value_alike b l o (by.perhaps_scatter items ns) ts k absent = if_any_level_alike l ts (λ us d. scattered_alike b o.found.line items ns us (later (weakly d) k)) absent
braces_or_value_alike b l o (by.surely_scatter items ns) ts k absent =
    if_any_level_alike l ts (λ us d. scattered_alike b o.found.line items ns us (later (weakly d) k)) (λ us e. stuck us all)

expression_with_alike : {n m : ℕ} {f g : ReadsExpression} (b : Bool) (l : ℕ) (p : Placed) (ts : List Placed)
    → Good n m f g ts → Alike true (p ∷ ts) (by.expression_with n f b l (p ∷ ts)) (by.expression_with m g b l (p ∷ ts))
expression_with_alike {n} {m} b l p ts k =
    then (operand_by_alike b l p.token p.line p ts k) (λ o us d.
    let e = tail_of d in
    braces_or_value_alike b l o o.braces us (later e k) (λ vs c. operators_alike n m b l o.found vs (later (on c e) k)))

pub expression_alike : (n m : ℕ) (b : Bool) (l : ℕ) (ts : List Placed)
    → length ts < n → length ts < m → Alike true ts (by.expression n b l ts) (by.expression m b l ts)
unfolding expression
expression_alike zero m b l ts i j = absurd (omega (arith, i))
expression_alike (suc n) zero b l ts i j = absurd (omega (arith, j))
expression_alike (suc n) (suc m) b l [] i j = sticks
expression_alike (suc n) (suc m) b l (p ∷ ts) i j =
    let x : length ts < n = omega (arith, i) in
    let y : length ts < m = omega (arith, j) in
    expression_with_alike b l p ts (record {
      first = x;
      second = y;
      reads = λ c q us e. let z = fewer e in expression_alike n m c q us (omega (arith, x, z)) (omega (arith, y, z));
    })

-- ---- the laws

pub both_good : {n m i j : ℕ} {ts : List Placed} → Both n i ts → Both m j ts → Good n m (expression i) (expression j) ts
both_good {i = i} {j} h k =
    let x = h.within in
    let y = k.within in
    record {
      first = h.own;
      second = k.own;
      reads = λ c q us e. let z = fewer e in expression_alike i j c q us (omega (arith, x, z)) (omega (arith, y, z));
    }

pub enough_for_expression : EnoughForExpression
enough_for_expression n m b k ts i j = same (expression_alike n m b k ts i j)

pub expression_consumes : ExpressionConsumes
expression_consumes n b k ts i = consumes (expression_alike n n b k ts i i)

pub enough_for_arguments : EnoughForArguments
enough_for_arguments n m i j b ts h k = same (some_arguments_alike n m b ts (both_good h k))

pub enough_for_steps : EnoughForSteps
enough_for_steps n m i j b o ts h k = same (steps_alike n m b o ts (both_good h k))

pub enough_for_items : EnoughForItems
enough_for_items n m i j b a ts h k = same (items_from_alike n m b a ts (both_good h k))

pub enough_for_operators : EnoughForOperators
enough_for_operators n m i j b l a ts h k = same (operators_alike n m b l a ts (both_good h k))

pub parts_consume : PartsConsume
parts_consume n i b ts h = (
  consumes (some_arguments_alike n n b ts (both_good h h)),
  λ a. consumes (items_from_alike n n b a ts (both_good h h)),
  λ o. leaves (steps_alike n n b o ts (both_good h h)),
  λ k a. leaves (operators_alike n n b k a ts (both_good h h)),
)
